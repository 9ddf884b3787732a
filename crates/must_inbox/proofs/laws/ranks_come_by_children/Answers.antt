use Rattle.must_inbox.specs.ChildLaws.{rank_of_child}
use Rattle.must_inbox.proofs.laws.ranks_come_by_children.Goals as goal

pub returns : goal.returns
returns c = rank_of_child
