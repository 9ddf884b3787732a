use Rattle.must_run.specs.OneReport.{one_report}
use Rattle.must_run.proofs.laws.rows_are_one.Goals as goal

pub returns : goal.returns
returns c = one_report
