use Rattle.must_group.proofs.PositionLaws.{incl_law}
use Rattle.must_group.proofs.laws.incl_law.Goals as goal

pub returns : goal.returns
returns c = incl_law
