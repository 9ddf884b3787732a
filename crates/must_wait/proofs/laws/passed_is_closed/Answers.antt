use Rattle.must_wait.proofs.Least.{closed}
use Rattle.must_wait.proofs.laws.passed_is_closed.Goals as goal

pub returns : goal.returns
returns c = closed
