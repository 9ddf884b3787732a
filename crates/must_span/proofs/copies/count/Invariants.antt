use Rattle.std.proofs.Common.{◌≡◌, ℕ, suc, take, get_or, pos, ◌+ℤ◌, ◌≤ℤ◌}
use Rattle.must_span.specs.Steps.{count_of}
use Rattle.must_span.proofs.RangeLaws.{past}
use Rattle.must_span.proofs.copies.count.Given as goal

abbrev pub invariant-loop-range : goal.invariant-loop-range
invariant-loop-range l = record {
  total : l.total ≡ count_of (take l.range-index l.ranges);
  room : (k : ℕ) → suc k ≡ l.range-index → pos l.total ≤ℤ ((get_or l.ranges k past).high +ℤ pos 170141183460469231731687303715884105728);
}
