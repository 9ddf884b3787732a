use Rattle.std.proofs.Common.{◌≡◌, ◌++◌, take, map}
use Rattle.must_span.specs.Steps.{moved_range}
use Rattle.must_span.proofs.copies.push_moved.Given as goal

abbrev pub invariant-loop-range : goal.invariant-loop-range
invariant-loop-range l = l.out.items ≡ l.fn.out.items ++ map (moved_range l.by) (take l.range-index l.ranges)
