use Rattle.must_rules.specs.StreamRuns.{run_from, run_is_one}
use Rattle.must_rules.proofs.laws.one_run.Goals as goal

pub returns-clause-some : goal.returns-clause-some
returns-clause-some c = run_from

pub returns-clause-one : goal.returns-clause-one
returns-clause-one c = run_is_one
