use Rattle.must_messages.specs.ItemOrderLaws.{messages_at_rank}
use Rattle.must_messages.specs.ItemNameLaws.{messages_orderly}
use Rattle.must_messages.proofs.laws.messages_in_order.Goals as goal

pub returns-clause-placed : goal.returns-clause-placed
returns-clause-placed c = messages_at_rank

pub returns-clause-orderly : goal.returns-clause-orderly
returns-clause-orderly c = messages_orderly
