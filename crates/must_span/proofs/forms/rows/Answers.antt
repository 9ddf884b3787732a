use Rattle.std.proofs.Common.{◌≡◌, refl, sym, arith, subst, ◌+◌, ◌*◌, ◌^◌, ◌≤◌, pos, to_z, of_z, mul-le-mul}
use Rattle.std.specs.Int.{w128}
use Rattle.std.specs.Int.RustNames.{unsigned_abs}
use Rattle.std.specs.List.{AllByRecursion}
use Rattle.std.proofs.lemmas.Int.{ints, to_z-of_z}
use Rattle.must_span.specs.Steps.{IsNear, AreCopies}
use Rattle.must_span.proofs.LaidLaws.{laid_rows, put_alone, near_weaker, within}
use Rattle.must_span.proofs.forms.rows.Goals as goal

pub repeat-requires-2-clause-near : goal.repeat-requires-2-clause-near
repeat-requires-2-clause-near c =
    let old = c.args.old.now in
    let e : to_z w128 (of_z w128 old.extent) ≡ old.extent = omega (arith, ints, c.requires.old.extent_near) in
    let copies = put_alone _ _ c.repeat.new.out.items (pos 0) (pos 0) _ old.extent c.args.blocklength c.new-row.ensures.items refl e c.in_ok-repeat.ensures in
    let m : c.args.blocklength * unsigned_abs old.extent ≤ 2 ^ 31 * 2 ^ 63 = mul-le-mul c.requires.short c.requires.old.extent_near in
    let near = copies.near (2 ^ 63) (0 + 2 ^ 31 * 2 ^ 63) (subst (AllByRecursion (IsNear (2 ^ 63))) (sym c.as_slice.ensures.value) c.requires.old.near) (within (pos 0) old.extent c.args.blocklength 0 (2 ^ 31 * 2 ^ 63) (omega arith) m) in
    rw c.as_slice-2.ensures.value (near_weaker (2 ^ 63 + (0 + 2 ^ 31 * 2 ^ 63)) (2 ^ 100) _ (omega arith) near)

pub returns : goal.returns
returns c = λ T w h.
    let old = c.args.old.now in
    let e : to_z w128 (of_z w128 old.extent) ≡ old.extent = omega (arith, ints, c.requires.old.extent_near) in
    let row = put_alone _ _ c.repeat.new.out.items (pos 0) (pos 0) _ old.extent c.args.blocklength c.new-row.ensures.items refl e c.in_ok-repeat.ensures in
    let all = put_alone _ _ c.repeat-2.new.out.items (pos 0) (pos 0) _ c.args.stride c.args.count c.new-made.ensures.items refl (to_z-of_z w128 c.args.stride c.ranges.stride) c.in_ok-repeat-2.ensures in
    laid_rows old.ranges.items c.repeat.new.out.items c.repeat-2.new.out.items T old.extent c.args.stride c.args.count c.args.blocklength w h.laid h.extent_is
    (subst (λ l. AreCopies l (pos 0) old.extent c.args.blocklength c.repeat.new.out.items) c.as_slice.ensures.value row) (subst (λ l. AreCopies l (pos 0) c.args.stride c.args.count c.repeat-2.new.out.items) c.as_slice-2.ensures.value all)
