use Rattle.must_node.specs.HandingLaws.{handed_lawful, handed_entries}
use Rattle.must_node.proofs.laws.handed_up_is_lawful.Goals as goal

pub returns-clause-lawful : goal.returns-clause-lawful
returns-clause-lawful c = handed_lawful

pub returns-clause-entries : goal.returns-clause-entries
returns-clause-entries c = handed_entries
