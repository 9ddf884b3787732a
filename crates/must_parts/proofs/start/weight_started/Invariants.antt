use Rattle.std.proofs.Common.{◌≡◌, ℕ, take, Option}
use Rattle.must_rules.specs.Parts.{Part}
use Rattle.must_rules.specs.PendingOperations.{operations_weight}
use Rattle.must_parts.specs.Keeping.{HaveParts}
use Rattle.must_parts.specs.Starting.{begun_by}
use Rattle.must_parts.proofs.start.weight_started.Given as goal

abbrev pub invariant-loop-request : goal.invariant-loop-request
invariant-loop-request l = (part : ℕ → Option Part) (call : ℕ) → HaveParts l.kept part → l.weight ≡ operations_weight (begun_by call part (take l.request-index l.started))
