use Rattle.must_group.proofs.OrderLaws.{by_key_law}
use Rattle.must_group.proofs.laws.by_key_law.Goals as goal

pub returns : goal.returns
returns c = by_key_law
