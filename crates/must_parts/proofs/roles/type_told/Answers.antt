use Rattle.must_parts.proofs.roles.type_told.Goals as goal

pub returns-in-Handle : goal.returns-in-Handle
returns-in-Handle c = rw c.in-Handle.is c.type_with.ensures
