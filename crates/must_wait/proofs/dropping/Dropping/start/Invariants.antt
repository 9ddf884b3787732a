use Rattle.std.proofs.Common.{◌≡◌, length}
use Rattle.must_wait.proofs.dropping.Dropping.start.Given as goal

abbrev pub invariant-loop-rank : goal.invariant-loop-rank
invariant-loop-rank l = length l.watches.items ≡ l._rank
