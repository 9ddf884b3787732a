use Rattle.std.proofs.Common.{◌+◌, length}
use Rattle.must_base.specs.Listing.{Lists}
use Rattle.must_find.specs.Order.{by_spot}
use Rattle.must_wait.specs.Shared.{coded}
use Rattle.must_wait.proofs.CodedRows.{BlockedBelow}
use Rattle.must_wait.proofs.deadlock.all_blocked.Given as goal

abbrev pub invariant-loop-number : goal.invariant-loop-number
invariant-loop-number l = Lists by_spot (BlockedBelow (coded l.rows) (length l.rows.needs + l.number)) l.all.items
