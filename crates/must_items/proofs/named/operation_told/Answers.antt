use Rattle.must_items.proofs.named.operation_told.Goals as goal

pub returns-in-Handle : goal.returns-in-Handle
returns-in-Handle c = rw c.in-Handle.is c.operation_with.ensures
