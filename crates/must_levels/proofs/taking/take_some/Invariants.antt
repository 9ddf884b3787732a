use Rattle.must_levels.specs.Running.{CanTake, HasTaken}
use Rattle.must_levels.proofs.taking.take_some.Given as goal

abbrev pub invariant-loop : goal.invariant-loop
invariant-loop g l = record { can : CanTake l.root l.inbox l.upper l.taker l.node l.port; taken : HasTaken l.fn.taker l.taker l.fn.port l.port }
