use Rattle.std.proofs.Common.{ℕ, ◌<◌, get_or}
use Rattle.must_wait.specs.declared.worklist.Watch.{Watch}
use Rattle.must_wait.specs.Dropping.{core_state, core_taken, CoreSteps, WasLooked}
use Rattle.must_wait.specs.Shared.{coded}
use Rattle.must_wait.proofs.dropping.Dropping.look_at.Given as goal

abbrev pub invariant-loop-watch : goal.invariant-loop-watch
invariant-loop-watch l = record {
  steps : CoreSteps (coded l.rows) (core_taken (core_state l.fn.self) l.fn.rank) (core_state l.self);
  woken : (k : ℕ) (d : Watch) → k < l.watch-index → WasLooked (coded l.rows) (core_state l.self) (get_or l.watch-items k d).rank (get_or l.watch-items k d).call (get_or l.watch-items k d).way;
}
