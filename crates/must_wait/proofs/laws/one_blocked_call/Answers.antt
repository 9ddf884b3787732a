use Rattle.must_wait.proofs.BlockedRanks.{one_blocked}
use Rattle.must_wait.proofs.laws.one_blocked_call.Goals as goal

pub returns : goal.returns
returns c = one_blocked
