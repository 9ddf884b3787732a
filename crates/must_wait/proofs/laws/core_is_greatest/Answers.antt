use Rattle.must_wait.proofs.Greatest.{greatest}
use Rattle.must_wait.proofs.laws.core_is_greatest.Goals as goal

pub returns : goal.returns
returns c = greatest
