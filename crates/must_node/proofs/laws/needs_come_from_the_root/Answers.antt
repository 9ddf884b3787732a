use Rattle.must_node.specs.NeedLaws.{needs_told, none_below}
use Rattle.must_node.proofs.laws.needs_come_from_the_root.Goals as goal

pub returns-clause-told : goal.returns-clause-told
returns-clause-told c = needs_told

pub returns-clause-none : goal.returns-clause-none
returns-clause-none c = none_below
