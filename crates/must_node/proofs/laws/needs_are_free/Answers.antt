use Rattle.must_node.specs.FreeLaws.{same_run}
use Rattle.must_node.proofs.laws.needs_are_free.Goals as goal

pub returns : goal.returns
returns c = same_run
