use Rattle.must_group.proofs.OrderLaws.{name_order_law}
use Rattle.must_group.proofs.laws.name_order_law.Goals as goal

pub returns : goal.returns
returns c = name_order_law
