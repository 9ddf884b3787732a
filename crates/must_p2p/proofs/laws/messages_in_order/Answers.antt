use Rattle.must_p2p.specs.OvertakingLaws.{no_overtaking, no_two_wait}
use Rattle.must_p2p.proofs.laws.messages_in_order.Goals as goal

pub returns-clause-order : goal.returns-clause-order
returns-clause-order c = no_overtaking

pub returns-clause-progress : goal.returns-clause-progress
returns-clause-progress c = no_two_wait
