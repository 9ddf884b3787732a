use Rattle.must_messages.specs.HoldingLaws.{items_given_more, items_whole}
use Rattle.must_messages.proofs.laws.messages_settle.Goals as goal

pub returns-clause-more : goal.returns-clause-more
returns-clause-more c = items_given_more

pub returns-clause-whole : goal.returns-clause-whole
returns-clause-whole c = items_whole
