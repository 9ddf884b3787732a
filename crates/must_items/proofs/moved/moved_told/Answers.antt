use Rattle.must_items.proofs.moved.moved_told.Goals as goal

pub returns-in-I32 : goal.returns-in-I32
returns-in-I32 c = rw c.in-I32.is c.alike.ensures

pub returns-in-Amounts : goal.returns-in-Amounts
returns-in-Amounts c = rw c.in-Amounts.is c.by_member.ensures

pub returns-in-Ints : goal.returns-in-Ints
returns-in-Ints c = rw c.in-Ints.is c.counted.ensures
