use Rattle.std.proofs.Common.{refl}
use Rattle.must_begin.proofs.status.status_in.Goals as goal

pub returns-in-Status : goal.returns-in-Status
returns-in-Status c = rw c.in-Status.is refl

pub returns-in-MaybeStatus : goal.returns-in-MaybeStatus
returns-in-MaybeStatus c = rw c.in-MaybeStatus.is refl
