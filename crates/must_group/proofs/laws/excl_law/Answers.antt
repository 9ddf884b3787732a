use Rattle.must_group.proofs.PositionLaws.{excl_law}
use Rattle.must_group.proofs.laws.excl_law.Goals as goal

pub returns : goal.returns
returns c = excl_law
