use Rattle.must_group.proofs.Distinct.{nil_distinct}
use Rattle.must_group.proofs.group.Group.empty.Goals as goal

pub listed-requires : goal.listed-requires
listed-requires c = rw c.new.ensures.items nil_distinct
