use Rattle.must_run.specs.WaitPlaces.{wait_rows_one}
use Rattle.must_run.specs.OneReport.{one_replay}
use Rattle.must_run.specs.FactParts.{facts_apart, needs_with}
use Rattle.must_run.proofs.laws.waits_are_one.Goals as goal

pub returns-clause-rows : goal.returns-clause-rows
returns-clause-rows c = wait_rows_one

pub returns-clause-replay : goal.returns-clause-replay
returns-clause-replay c = one_replay

pub returns-clause-facts : goal.returns-clause-facts
returns-clause-facts c = facts_apart

pub returns-clause-needs : goal.returns-clause-needs
returns-clause-needs c = needs_with
