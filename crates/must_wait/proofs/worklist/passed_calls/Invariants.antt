use Rattle.std.proofs.Common.{◌+◌, ◌-◌, length, sum}
use Rattle.must_wait.specs.Needs.{call_count}
use Rattle.must_wait.specs.Watching.{state_of, IsReady, AllWatched}
use Rattle.must_wait.specs.Shared.{coded}
use Rattle.must_wait.proofs.worklist.passed_calls.Given as goal

abbrev pub invariant-loop-place : goal.invariant-loop-place
invariant-loop-place l = record { ready : IsReady (coded l.rows) (state_of l.list); watched : AllWatched (coded l.rows) (state_of l.list) }

abbrev pub decreases-loop-place : goal.decreases-loop-place
decreases-loop-place l = length l.list.fresh.items + (call_count (coded l.rows) - sum l.list.done.items)
