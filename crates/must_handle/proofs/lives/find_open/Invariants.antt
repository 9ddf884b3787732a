use Rattle.std.proofs.Common.{◌≡◌, ◌+◌, List, length}
use Rattle.must_call.specs.declared.call.Call.{Call}
use Rattle.must_rules.specs.Lives.{live_among}
use Rattle.must_rules.specs.Starts.{Clearness}
use Rattle.must_handle.specs.Slots.{Stands}
use Rattle.must_handle.proofs.lives.find_open.Given as goal

abbrev pub invariant-loop-at : goal.invariant-loop-at
invariant-loop-at l = (is_clear : Clearness) (calls : List Call) → Stands is_clear l.slots calls → l.i ≡ length (live_among calls l.class l.at 64) + l.left
