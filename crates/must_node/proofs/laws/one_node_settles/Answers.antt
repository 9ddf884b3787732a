use Rattle.must_node.specs.TreeLaws.{one_node_of_class, one_node_of_name}
use Rattle.must_node.proofs.laws.one_node_settles.Goals as goal

pub returns-clause-class : goal.returns-clause-class
returns-clause-class c = one_node_of_class

pub returns-clause-name : goal.returns-clause-name
returns-clause-name c = one_node_of_name
