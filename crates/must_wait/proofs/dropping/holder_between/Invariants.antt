use Rattle.std.proofs.Common.{◌≡◌, ℕ, ◌<◌, ◌≤◌, false, slice_index_or}
use Rattle.must_call.specs.declared.place.Place.{Place}
use Rattle.must_wait.specs.Keeping.{holds_yet}
use Rattle.must_wait.specs.CodedWay.{coded_places}
use Rattle.must_wait.proofs.dropping.holder_between.Given as goal

abbrev pub invariant-loop-at : goal.invariant-loop-at
invariant-loop-at l = (k : ℕ) (d : Place) → l.low ≤ k → k < l.at → holds_yet l.kept (slice_index_or (coded_places l.way) k d) ≡ false
