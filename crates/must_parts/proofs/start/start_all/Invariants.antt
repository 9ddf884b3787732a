use Rattle.std.proofs.Common.{ℕ, List, Option, take, ◌++◌}
use Rattle.must_find.specs.Adds.{Adds}
use Rattle.must_rules.specs.Parts.{Part}
use Rattle.must_rules.specs.PendingOperations.{Operation}
use Rattle.must_parts.specs.Holding.{AreHeld}
use Rattle.must_parts.specs.Keeping.{HaveParts}
use Rattle.must_parts.specs.Starting.{begun_by, clash_started}
use Rattle.must_parts.proofs.Starting.{IsBelow}
use Rattle.must_parts.proofs.start.start_all.Given as goal

abbrev pub invariant-loop-i : goal.invariant-loop-i
invariant-loop-i l = record {
  rows : (part : ℕ → Option Part) (ops : List Operation) → HaveParts l.kept part → AreHeld l.initial.pending ops → Adds l.fn.rows l.rows (IsBelow l.at (clash_started l.at.rank l.at.call part ops l.started) l.i);
  held : (part : ℕ → Option Part) (ops : List Operation) → HaveParts l.kept part → AreHeld l.initial.pending ops → AreHeld l.pending (ops ++ begun_by l.at.call part (take l.i l.started));
}
