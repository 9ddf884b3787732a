use Rattle.std.proofs.Common.{ℕ, ◌<◌}
use Rattle.must_wait.specs.Dropping.{core_state, CoreSteps, WasLooked}
use Rattle.must_wait.specs.Shared.{coded}
use Rattle.must_wait.proofs.dropping.Dropping.begin.Given as goal

abbrev pub invariant-loop-way : goal.invariant-loop-way
invariant-loop-way l = record {
  steps : CoreSteps (coded l.rows) (core_state l.fn.self) (core_state l.self);
  looked : (way : ℕ) → way < l.way → WasLooked (coded l.rows) (core_state l.self) l.place.rank l.place.call way;
}
