use Rattle.must_messages.specs.HoldingLaws.{needs_given_more, needs_whole}
use Rattle.must_messages.specs.NeedLaws.{needs_rise}
use Rattle.must_messages.proofs.laws.needs_settle.Goals as goal

pub returns-clause-more : goal.returns-clause-more
returns-clause-more c = needs_given_more

pub returns-clause-whole : goal.returns-clause-whole
returns-clause-whole c = needs_whole

pub returns-clause-rising : goal.returns-clause-rising
returns-clause-rising c = needs_rise
