use Rattle.must_run.specs.MessageLists.{needs_first, needs_more, needs_all}
use Rattle.must_run.proofs.laws.needs_of_ranks.Goals as goal

pub returns-clause-first : goal.returns-clause-first
returns-clause-first c = needs_first

pub returns-clause-more : goal.returns-clause-more
returns-clause-more c = needs_more

pub returns-clause-all : goal.returns-clause-all
returns-clause-all c = needs_all
