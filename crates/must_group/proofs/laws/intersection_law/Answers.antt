use Rattle.must_group.proofs.SetLaws.{intersection_law}
use Rattle.must_group.proofs.laws.intersection_law.Goals as goal

pub returns : goal.returns
returns c = intersection_law
