use Rattle.std.proofs.Common.{◌≡◌, ℕ, ◌<◌, true, get_or}
use Rattle.must_call.specs.declared.place.Place.{Place}
use Rattle.must_wait.specs.Replay.{reached, passed}
use Rattle.must_wait.proofs.deadlock.is_open.Given as goal

abbrev pub invariant-loop-place : goal.invariant-loop-place
invariant-loop-place l = (k : ℕ) (d : Place) → k < l.place-index → reached l.rows.needs (passed l.rows.needs) (get_or l.places k d).rank (get_or l.places k d).call ≡ true
