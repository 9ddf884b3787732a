use Rattle.must_inbox.specs.ChildLaws.{together}
use Rattle.must_inbox.proofs.laws.children_are_lawful_together.Goals as goal

pub returns : goal.returns
returns c = together
