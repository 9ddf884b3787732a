use Rattle.must_group.proofs.PositionLaws.{first_bad_law}
use Rattle.must_group.proofs.laws.first_bad_law.Goals as goal

pub returns : goal.returns
returns c = first_bad_law
