use Rattle.must_find.specs.OrderLaws.{by_all_total, by_all_same}
use Rattle.must_find.proofs.laws.order_law.Goals as goal

pub returns-clause-total : goal.returns-clause-total
returns-clause-total c = by_all_total

pub returns-clause-exact : goal.returns-clause-exact
returns-clause-exact c = by_all_same
