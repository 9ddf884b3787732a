use Rattle.std.proofs.Common.{◌≡◌, ℕ, ◌<◌, ◌≤◌, true, slice_index_or}
use Rattle.must_call.specs.declared.place.Place.{Place}
use Rattle.must_wait.specs.Counted.{counted}
use Rattle.must_wait.specs.Replay.{reached}
use Rattle.must_wait.specs.Shared.{coded}
use Rattle.must_wait.specs.CodedWay.{coded_places}
use Rattle.must_wait.proofs.worklist.unreached_between.Given as goal

abbrev pub invariant-loop-at : goal.invariant-loop-at
invariant-loop-at l = (k : ℕ) (d : Place) → l.low ≤ k → k < l.at → reached (coded l.rows) (counted l.done) (slice_index_or (coded_places l.way) k d).rank (slice_index_or (coded_places l.way) k d).call ≡ true
