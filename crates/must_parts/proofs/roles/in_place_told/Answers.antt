use Rattle.must_parts.proofs.roles.in_place_told.Goals as goal

pub returns-in-Bit : goal.returns-in-Bit
returns-in-Bit c = rw c.in-Bit.is c.in_place_of.ensures
