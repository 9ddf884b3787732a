use Rattle.std.proofs.Common.{refl}
use Rattle.must_record.proofs.made.made_by.Goals as goal

pub returns-in-Made : goal.returns-in-Made
returns-in-Made c = λ n. rw (c.in-Made.is, c.front_of.ensures) refl

pub returns-in-MadeComm : goal.returns-in-MadeComm
returns-in-MadeComm c = λ n. rw (c.in-MadeComm.is, c.front_of-in-MadeComm.ensures) refl
