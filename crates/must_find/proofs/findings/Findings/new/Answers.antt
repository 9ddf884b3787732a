use Rattle.must_base.specs.ListingLaws.{rises_nil}
use Rattle.must_find.specs.Order.{by_all}
use Rattle.must_find.proofs.findings.Findings.new.Goals as goal

pub invariant_of-result : goal.invariant_of-result
invariant_of-result c = rw c.new.ensures.items (rises_nil by_all)
