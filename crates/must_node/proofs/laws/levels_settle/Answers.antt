use Rattle.must_node.specs.TreeLaws.{levels_rows, levels_facts}
use Rattle.must_node.proofs.laws.levels_settle.Goals as goal

pub returns-clause-rows : goal.returns-clause-rows
returns-clause-rows c = levels_rows

pub returns-clause-facts : goal.returns-clause-facts
returns-clause-facts c = levels_facts
