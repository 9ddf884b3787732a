use Rattle.std.specs.Ordering.{nat_cmp}
use Rattle.must_base.specs.Listing.{Lists}
use Rattle.must_wait.proofs.Kept.{KeptBelow}
use Rattle.must_wait.proofs.deadlock.kept_ranks.Given as goal

abbrev pub invariant-loop-rank : goal.invariant-loop-rank
invariant-loop-rank l = Lists nat_cmp (KeptBelow l.kept l.rank) l.found.items
