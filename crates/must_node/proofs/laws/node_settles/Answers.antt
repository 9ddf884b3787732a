use Rattle.must_node.specs.TreeLaws.{node_rows, node_facts}
use Rattle.must_node.proofs.laws.node_settles.Goals as goal

pub returns-clause-rows : goal.returns-clause-rows
returns-clause-rows c = node_rows

pub returns-clause-facts : goal.returns-clause-facts
returns-clause-facts c = node_facts
