use Rattle.must_node.specs.TreeLaws.{children_apart}
use Rattle.must_node.proofs.laws.children_are_apart.Goals as goal

pub returns : goal.returns
returns c = children_apart
