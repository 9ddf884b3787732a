use Rattle.must_group.proofs.SetLaws.{union_law}
use Rattle.must_group.proofs.laws.union_law.Goals as goal

pub returns : goal.returns
returns c = union_law
