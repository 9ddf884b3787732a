use Rattle.must_parts.proofs.roles.root_told.Goals as goal

pub returns-in-I32 : goal.returns-in-I32
returns-in-I32 c = rw c.in-I32.is c.root_of.ensures
