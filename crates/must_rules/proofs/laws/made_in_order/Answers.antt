use Rattle.must_rules.specs.NumberedLaws.{next_numbered}
use Rattle.must_rules.proofs.laws.made_in_order.Goals as goal

pub returns : goal.returns
returns c = next_numbered
