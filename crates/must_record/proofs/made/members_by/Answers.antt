use Rattle.must_record.proofs.made.members_by.Goals as goal

pub returns-in-MadeComm : goal.returns-in-MadeComm
returns-in-MadeComm c = λ n. rw c.in-MadeComm.is c.comm_stands.ensures
