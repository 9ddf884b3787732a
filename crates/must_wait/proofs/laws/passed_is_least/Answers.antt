use Rattle.must_wait.specs.Needs.{call_count}
use Rattle.must_wait.proofs.Least.{least}
use Rattle.must_wait.proofs.laws.passed_is_least.Goals as goal

pub returns : goal.returns
returns c = λ rows marks closed. least rows marks closed (call_count rows)
