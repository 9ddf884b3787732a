use Rattle.must_messages.specs.WildLaws.{wild_rows, wild_only}
use Rattle.must_messages.proofs.laws.open_wildcards_have_rows.Goals as goal

pub returns-clause-each : goal.returns-clause-each
returns-clause-each c = wild_rows

pub returns-clause-only : goal.returns-clause-only
returns-clause-only c = wild_only
