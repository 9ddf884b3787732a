use Rattle.std.proofs.Common.{◌≡◌, refl, arith, subst, pos, to_z, of_z}
use Rattle.std.specs.Int.{w128}
use Rattle.std.proofs.lemmas.Int.{ints}
use Rattle.must_span.specs.Steps.{AreCopies}
use Rattle.must_span.proofs.LaidLaws.{laid_block, put_alone}
use Rattle.must_span.proofs.forms.block.Goals as goal

pub returns : goal.returns
returns c = λ T w h.
    let old = c.args.old.now in
    let e : to_z w128 (of_z w128 old.extent) ≡ old.extent = omega (arith, ints, c.requires.old.extent_near) in
    let copies = put_alone _ _ c.repeat.new.out.items (pos 0) (pos 0) _ old.extent c.args.count c.new-made.ensures.items refl e c.in_ok-repeat.ensures in
    laid_block old.ranges.items c.repeat.new.out.items T (pos 0) old.extent c.args.count w h.laid h.extent_is (subst (λ l. AreCopies l (pos 0) old.extent c.args.count c.repeat.new.out.items) c.as_slice.ensures.value copies)
