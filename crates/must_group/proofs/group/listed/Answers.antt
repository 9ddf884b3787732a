use Rattle.must_group.proofs.Placed.{rises_if}
use Rattle.must_group.proofs.group.listed.Goals as goal

pub invariant_of-result : goal.invariant_of-result
invariant_of-result c = (c.requires, rw c.deref.ensures.value at (rises_if c.deref.result.now c.is_sorted-rises.result c.is_sorted-rises.ensures.cases))
