use Rattle.must_group.proofs.SetLaws.{difference_law}
use Rattle.must_group.proofs.laws.difference_law.Goals as goal

pub returns : goal.returns
returns c = difference_law
