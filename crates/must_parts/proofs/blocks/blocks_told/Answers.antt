use Rattle.std.proofs.Common.{sym}
use Rattle.must_parts.proofs.blocks.blocks_told.Goals as goal

pub returns-in-I32 : goal.returns-in-I32
returns-in-I32 c = rw c.in-I32.is c.count_told.ensures

pub returns-in-Ints : goal.returns-in-Ints
returns-in-Ints c = rw (c.in-Ints.is, sym c.items.ensures) c.listed_told.ensures

pub returns-in-Amounts : goal.returns-in-Amounts
returns-in-Amounts c = rw (c.in-Amounts.is, sym c.items-in-Amounts.ensures) c.amounts_told.ensures
