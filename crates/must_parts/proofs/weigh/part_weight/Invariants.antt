use Rattle.std.proofs.Common.{◌≡◌, take, Some}
use Rattle.std.specs.Prelude.{sum_by}
use Rattle.must_type.specs.Tree.{TypeTree}
use Rattle.must_type.specs.Table.{tree_at, message_weight}
use Rattle.must_parts.proofs.weigh.part_weight.Given as goal

abbrev pub invariant-loop-block : goal.invariant-loop-block
invariant-loop-block l = (held : TypeTree) → tree_at l.table.slots l.told.dtype.number ≡ Some held → l.weight ≡ sum_by (λ b. message_weight b.count held) (take l.block-index l.told.blocks.items)
