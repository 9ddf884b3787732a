-- At the output that was matched.
use Rattle.std.proofs.Common.{refl}
use Rattle.must_call.proofs.call.made_comm.Goals as goal

pub returns-in-MadeComm : goal.returns-in-MadeComm
returns-in-MadeComm c = rw (c.in-MadeComm.is) refl
