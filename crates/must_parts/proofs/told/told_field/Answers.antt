use Rattle.must_parts.proofs.told.told_field.Goals as goal

pub returns-in-Buffer : goal.returns-in-Buffer
returns-in-Buffer c = rw c.in-Buffer.is c.told_buffer.ensures
