use Rattle.must_parts.proofs.roles.comm_told.Goals as goal

pub returns-in-Handle : goal.returns-in-Handle
returns-in-Handle c = rw c.in-Handle.is c.comm_of.ensures
