use Rattle.std.proofs.Common.{◌≡◌, ℕ, ◌<◌, length, get_or, Some}
use Rattle.must_call.specs.declared.place.Place.{Place}
use Rattle.must_wait.specs.Dropping.{core_state, CoreSteps, WasLooked}
use Rattle.must_wait.specs.Keeping.{kept_call}
use Rattle.must_wait.specs.Needs.{needs_of}
use Rattle.must_wait.specs.Watching.{ways_in}
use Rattle.must_wait.specs.Shared.{coded}
use Rattle.must_wait.proofs.dropping.Dropping.begin_all.Given as goal

abbrev pub invariant-loop-place : goal.invariant-loop-place
invariant-loop-place l = record {
  steps : CoreSteps (coded l.rows) (core_state l.fn.self) (core_state l.self);
  looked : (k : ℕ) (d : Place) → k < l.place-index → (way : ℕ) → way < length (ways_in (needs_of (coded l.rows) (get_or l.blocked k d).rank (get_or l.blocked k d).call)) → WasLooked (coded l.rows) (core_state l.self) (get_or l.blocked k d).rank (get_or l.blocked k d).call way;
  ways : (k : ℕ) (d : Place) → k < l.place-index → kept_call l.self.kept.items (get_or l.blocked k d).rank ≡ Some (get_or l.blocked k d).call → 0 < length (ways_in (needs_of (coded l.rows) (get_or l.blocked k d).rank (get_or l.blocked k d).call));
}
