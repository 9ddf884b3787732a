-- Each arm at the output that it matched.
use Rattle.std.proofs.Common.{refl}
use Rattle.must_call.proofs.call.made_handle.Goals as goal

pub returns-in-Made : goal.returns-in-Made
returns-in-Made c = rw (c.in-Made.is) refl

pub returns-in-MadeComm : goal.returns-in-MadeComm
returns-in-MadeComm c = rw (c.in-MadeComm.is) refl
