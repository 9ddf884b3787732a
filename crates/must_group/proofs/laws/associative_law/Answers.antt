use Rattle.must_group.proofs.SetLaws.{associates}
use Rattle.must_group.proofs.laws.associative_law.Goals as goal

pub returns : goal.returns
returns c = associates
