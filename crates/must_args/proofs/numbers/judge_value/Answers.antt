use Rattle.must_args.proofs.numbers.judge_value.Goals as goal

pub returns-in-I32 : goal.returns-in-I32
returns-in-I32 c = rw c.in-I32.is c.judge_int.ensures

pub returns-in-Amounts : goal.returns-in-Amounts
returns-in-Amounts c = rw (c.in-Amounts.is, ← c.items.ensures) c.judge_amounts.ensures

pub returns-in-Ints : goal.returns-in-Ints
returns-in-Ints c = rw (c.in-Ints.is, ← c.items-in-Ints.ensures) c.judge_ints.ensures

pub returns-in-Blocks : goal.returns-in-Blocks
returns-in-Blocks c = rw (c.in-Blocks.is, ← c.items-in-Blocks.ensures) c.judge_blocks.ensures

pub returns-in-ByteBlocks : goal.returns-in-ByteBlocks
returns-in-ByteBlocks c = rw (c.in-ByteBlocks.is, ← c.items-in-ByteBlocks.ensures) c.judge_byte_blocks.ensures

pub returns-in-StructBlocks : goal.returns-in-StructBlocks
returns-in-StructBlocks c = rw (c.in-StructBlocks.is, ← c.items-in-StructBlocks.ensures) c.judge_struct_blocks.ensures

pub returns-in-Dims : goal.returns-in-Dims
returns-in-Dims c = rw (c.in-Dims.is, ← c.items-in-Dims.ensures) c.judge_dims.ensures
