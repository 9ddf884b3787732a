use Rattle.must_group.proofs.PositionLaws.{valid_law}
use Rattle.must_group.proofs.laws.valid_law.Goals as goal

pub returns : goal.returns
returns c = valid_law
