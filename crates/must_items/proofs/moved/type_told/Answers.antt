use Rattle.must_items.proofs.moved.type_told.Goals as goal

pub returns-in-Handle : goal.returns-in-Handle
returns-in-Handle c = rw c.in-Handle.is c.type_with.ensures
