use Rattle.std.proofs.Common.{◌≡◌, ◌∙◌, ap, sym, arith, rules, ℕ, ℤ, ◌+◌, ◌-◌, ◌^◌, ◌<◌, pos, ◌*ℤ◌, length, get_or, to_z, of_z}
use Rattle.std.specs.Int.{w128}
use Rattle.std.proofs.lemmas.Int.{ints}
use Rattle.must_call.specs.declared.items.Dim.{Dim}
use Rattle.must_type.specs.Constructs.{natural, cells_in, slow_first}
use Rattle.must_span.specs.Steps.{AreCopies}
use Rattle.must_span.proofs.LaidLaws.{near_weaker}
use Rattle.must_span.proofs.PartLaws.{fastest, length-slow, next_fastest, step_start, step_next, step_near, wider_near, part_start, part_step, part_end}
use Rattle.must_span.proofs.parts.part.Goals as goal

pub loop-k-init : goal.loop-k-init
loop-k-init c =
    let old = c.args.old in
    let slow = slow_first c.args.order c.args.dims.now in
    let e : to_z w128 (of_z w128 old.extent) ≡ old.extent = omega (arith, ints, c.requires.old.extent_near) in
    record {
      filled = c.requires.old.filled;
      near = near_weaker _ _ _ (omega arith) c.requires.old.near;
      step_is = e ∙ step_start slow old.extent;
      laid = λ T w h. part_start slow old.ranges.items T w h.laid;
    }

pub widened-requires-clause-step_near : goal.widened-requires-clause-step_near
widened-requires-clause-step_near c =
    let n = step_near c.args.order c.args.dims.now c.loop-k.k (to_z w128 c.loop-k.step-bits) c.args.old.extent c.requires.part.parts c.requires.room c.loop-k.invariant.step_is in
    omega (arith, n)

pub times-step-requires-clause-near : goal.times-step-requires-clause-near
times-step-requires-clause-near c =
    let n = step_near c.args.order c.args.dims.now c.loop-k.k (to_z w128 c.loop-k.step-bits) c.args.old.extent c.requires.part.parts c.requires.room c.loop-k.invariant.step_is in
    omega (arith, n)

pub loop-k-preserved : goal.loop-k-preserved
loop-k-preserved c =
    let dim = c.nth_fastest-dim.result in
    let slow = slow_first c.args.order c.args.dims.now in
    let k = c.loop-k.k in
    let step = to_z w128 c.loop-k.step-bits in
    let inv = c.loop-k.invariant in
    let size = to_z w128 (of_z w128 c.times-step.result) in
    let same : length slow ≡ length c.args.dims.now = length-slow c.args.order c.args.dims.now in
    let below : k < length slow = omega (arith, same) in
    let is : (d : Dim) → dim ≡ get_or slow (length slow - 1 - k) d = λ d. c.nth_fastest-dim.ensures.value d ∙ ap (λ (n : ℕ). get_or slow (n - 1 - k) d) (sym same) in
    let next = next_fastest slow k dim below is in
    let n : to_z w128 (of_z w128 c.from.result) ≡ dim.size = search rules in
    let b : to_z w128 (of_z w128 c.times-step.result) ≡ c.times-step.result = omega (arith, ints, c.times-step.ensures.near) in
    let long : to_z w128 (of_z w128 c.times-step.result) ≡ dim.size *ℤ step = b ∙ c.times-step.ensures.value ∙ ap (λ (x : ℤ). x *ℤ step) n in
    let copies : AreCopies c.loop-k.made.items (pos (natural dim.start) *ℤ step) step (natural dim.subsize) c.in_ok-made.made.items = rw c.as_slice.ensures.value at c.in_ok-made.ensures in
    record {
      filled = copies.filled inv.filled;
      near = wider_near dim step size (2 ^ 63) c.loop-k.made.items c.in_ok-made.made.items c.nth_fastest-dim.ensures.part long inv.near copies;
      step_is = step_next dim (fastest slow k) (fastest slow (k + 1)) step size c.args.old.extent next c.nth_fastest-dim.ensures.part inv.step_is long;
      laid = λ T w h. part_step dim (fastest slow k) (fastest slow (k + 1)) c.loop-k.made.items c.in_ok-made.made.items T w step next (inv.step_is ∙ ap (λ (x : ℤ). pos (cells_in (fastest slow k)) *ℤ x) h.extent_is) (inv.laid T w h) copies;
    }

pub returns : goal.returns
returns c = λ T w h. part_end c.args.order c.args.dims.now c.loop-k.k c.loop-k.made.items T w c.loop-k-test.false c.requires.part.dimension (c.loop-k.invariant.laid T w h)
