use Rattle.std.proofs.Common.{◌≡◌}
use Rattle.must_inbox.proofs.tests.five_batches.Given as goal

abbrev pub invariant-takes : goal.invariant-takes
invariant-takes g l = l.taker.inbox ≡ l.inbox
