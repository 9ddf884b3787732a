use Rattle.must_run.specs.MessageLists.{messages_first, messages_more, messages_all}
use Rattle.must_run.proofs.laws.messages_of_ranks.Goals as goal

pub returns-clause-first : goal.returns-clause-first
returns-clause-first c = messages_first

pub returns-clause-more : goal.returns-clause-more
returns-clause-more c = messages_more

pub returns-clause-all : goal.returns-clause-all
returns-clause-all c = messages_all
