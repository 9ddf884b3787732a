use Rattle.must_base.specs.Listing.{Lists}
use Rattle.must_find.specs.Order.{by_spot}
use Rattle.must_wait.specs.Shared.{coded}
use Rattle.must_wait.proofs.Listed.{NextBelow}
use Rattle.must_wait.proofs.blocked.next_calls.Given as goal

abbrev pub invariant-loop-rank : goal.invariant-loop-rank
invariant-loop-rank l = Lists by_spot (NextBelow (coded l.rows) l.done l.rank) l.items.items
