use Rattle.must_span.specs.declared.ranges.AddressRange.{AddressRange}
use Rattle.std.specs.Prelude.{◌==◌}
use Rattle.std.proofs.lemmas.Bool.Decides.{nat_tests}
use Rattle.std.proofs.Common.{true, refl, List, [], ◌∷◌, length, ◌≡◌, ◌∙◌, ap, subst, arith, le_refl, mul-le-mul, get_or, ℕ, ℤ, pos, ◌+ℤ◌, ◌*ℤ◌, to_z, of_z, ◌≤◌, ◌<◌}
use Rattle.std.specs.Int.{w128}
use Rattle.std.specs.Int.RustNames.{unsigned_abs}
use Rattle.std.proofs.lemmas.Int.{ints, to_z-of_z}
use Rattle.must_span.specs.Steps.{IsDense}
use Rattle.must_span.proofs.RangeLaws.{past}
use Rattle.must_span.proofs.CopyLaws.{repeats_none, repeats_empty, repeats_dense, repeating_start, repeating_step, repeating_end}
use Rattle.must_span.proofs.copies.repeat.Goals as goal

none : (n : ℕ) → true ≡ (n == 0) → n ≡ 0
none n h = grind (arith, nat_tests)

nothing : (rs : List AddressRange) → length rs ≡ 0 → rs ≡ []
nothing [] h = refl
nothing (r ∷ rs) h = absurd (omega (arith, h))

pub returns-then-is_empty : goal.returns-then-is_empty
returns-then-is_empty c = repeats_empty c.args.out.now.items c.args.ranges.now c.args.at c.args.stride c.args.count (nothing c.args.ranges.now (none (length c.args.ranges.now) c.if-is_empty.ensures))

pub returns-then-count-eq0 : goal.returns-then-count-eq0
returns-then-count-eq0 c = repeats_none c.args.out.now.items c.args.ranges.now c.args.at c.args.stride c.args.count c.if-count-eq0.true

pub returns-then-is_dense : goal.returns-then-is_dense
returns-then-is_dense c =
    let some : 0 < c.args.count = omega (arith, c.if-count-eq0.false) in
    let at = to_z-of_z w128 c.args.at c.ranges.at in
    let stride = to_z-of_z w128 c.args.stride c.ranges.stride in
    let dense : IsDense c.args.stride c.args.ranges.now = subst (λ (z : ℤ). IsDense z c.args.ranges.now) stride (c.is_dense.ensures.0 c.if-is_dense.true) in
    let low : c.one_run.result.low ≡ c.args.at +ℤ (get_or c.args.ranges.now 0 past).low = c.one_run.ensures.low ∙ ap (λ (z : ℤ). z +ℤ (get_or c.args.ranges.now 0 past).low) at in
    let high : c.one_run.result.high ≡ (c.args.at +ℤ (get_or c.args.ranges.now 0 past).low) +ℤ pos c.args.count *ℤ c.args.stride =
    c.one_run.ensures.high ∙ ap (λ (z : ℤ). (z +ℤ (get_or c.args.ranges.now 0 past).low) +ℤ pos c.args.count *ℤ to_z w128 (of_z w128 c.args.stride)) at ∙ ap (λ (z : ℤ). (c.args.at +ℤ (get_or c.args.ranges.now 0 past).low) +ℤ pos c.args.count *ℤ z) stride in
    rw c.in_ok-push.ensures.items (repeats_dense c.args.out.now.items c.args.ranges.now c.args.at c.args.stride c.args.count c.one_run.result c.requires.filled dense low high some)

pub place_of-requires-clause-far : goal.place_of-requires-clause-far
place_of-requires-clause-far c =
    let less : c.loop-copy.copy ≤ c.args.count = omega (arith, c.loop-copy-test.true) in
    let m = mul-le-mul less (le_refl (unsigned_abs c.args.stride)) in
    rw (to_z-of_z w128 c.args.stride c.ranges.stride) (omega (arith, m, c.requires.far))

pub loop-copy-init : goal.loop-copy-init
loop-copy-init c = repeating_start _ _ _ _

pub loop-copy-preserved : goal.loop-copy-preserved
loop-copy-preserved c =
    let e : to_z w128 (of_z w128 c.place_of.result) ≡ c.place_of.result = omega (arith, ints, c.place_of.ensures.near) in
    rw c.in_ok-push_moved.ensures (repeating_step _ _ _ _ _ _ c.loop-copy.copy (e ∙ c.place_of.ensures.value) c.loop-copy.invariant)

pub returns : goal.returns
returns c =
    let at = to_z-of_z w128 c.args.at c.ranges.at in
    let stride = to_z-of_z w128 c.args.stride c.ranges.stride in
    let sparse : IsDense (to_z w128 (of_z w128 c.args.stride)) c.args.ranges.now → ⊥ = λ d. let yes = c.is_dense.ensures.1 d in let no = c.if-is_dense.false in cc (yes, no) in
    repeating_end c.args.out.now.items c.args.ranges.now c.loop-copy.out.items _ c.args.at _ c.args.stride c.loop-copy.copy c.args.count (omega (arith, c.loop-copy-test.false, c.loop-copy.auto.copy-end)) at stride sparse c.loop-copy.invariant
