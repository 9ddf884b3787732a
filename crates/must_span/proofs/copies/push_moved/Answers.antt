use Rattle.std.proofs.Common.{◌≡◌, ◌∙◌, ap, ℤ, get_or}
use Rattle.std.specs.Int.{w128}
use Rattle.std.proofs.lemmas.Int.{to_z-of_z}
use Rattle.must_span.specs.Steps.{moved_range}
use Rattle.must_span.proofs.RangeLaws.{past}
use Rattle.must_span.proofs.CopyLaws.{pushed_more}
use Rattle.must_span.proofs.copies.push_moved.Goals as goal

pub loop-range-preserved : goal.loop-range-preserved
loop-range-preserved c =
    let by = to_z-of_z w128 c.args.by c.ranges.by in
    let is : c.moved.result ≡ moved_range c.args.by (get_or c.args.ranges.now c.loop-range.range-index past) = c.moved.ensures ∙ ap (λ (z : ℤ). moved_range z (get_or c.args.ranges.now c.loop-range.range-index past)) by in
    pushed_more _ _ _ c.args.ranges.now c.loop-range.range-index c.args.by _ c.moved.result by is c.loop-range.invariant c.in_ok-push.ensures.items c.loop-range-test.true
