use Rattle.std.proofs.Common.{◌-◌, ◌≤◌, ◌<◌, ℕ, length, get_or}
use Rattle.must_call.specs.declared.place.Place.{Place}
use Rattle.must_wait.proofs.blocked.blocked_call.Given as goal

abbrev pub invariant-loop-low : goal.invariant-loop-low
invariant-loop-low l = record {
  low_in : l.low ≤ l.high;
  high_in : l.high ≤ length l.blocked;
  before : (k : ℕ) (d : Place) → k < l.low → (get_or l.blocked k d).rank < l.rank;
  after : (k : ℕ) (d : Place) → l.high ≤ k → k < length l.blocked → l.rank < (get_or l.blocked k d).rank;
}

abbrev pub decreases-loop-low : goal.decreases-loop-low
decreases-loop-low l = l.high - l.low
