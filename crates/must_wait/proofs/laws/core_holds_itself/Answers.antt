use Rattle.must_wait.proofs.Greatest.{core_holds}
use Rattle.must_wait.proofs.laws.core_holds_itself.Goals as goal

pub returns : goal.returns
returns c = core_holds
