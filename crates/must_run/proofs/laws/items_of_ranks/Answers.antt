use Rattle.must_run.specs.WaveLists.{items_first, items_more, items_all}
use Rattle.must_run.proofs.laws.items_of_ranks.Goals as goal

pub returns-clause-first : goal.returns-clause-first
returns-clause-first c = items_first

pub returns-clause-more : goal.returns-clause-more
returns-clause-more c = items_more

pub returns-clause-all : goal.returns-clause-all
returns-clause-all c = items_all
