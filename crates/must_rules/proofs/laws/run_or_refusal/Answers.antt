use Rattle.must_rules.specs.StreamRuns.{run_or_refusal}
use Rattle.must_rules.proofs.laws.run_or_refusal.Goals as goal

pub returns : goal.returns
returns c = run_or_refusal
