use Rattle.std.proofs.Common.{◌≡◌, take, map, length}
use Rattle.must_type.specs.Table.{trees_at}
use Rattle.must_type.specs.View.{trees_of, slots_of}
use Rattle.must_type.proofs.slots.block_olds.Given as goal

abbrev pub invariant-loop-item : goal.invariant-loop-item
invariant-loop-item l = record { olds_are : trees_of l.olds.items ≡ trees_at (slots_of l.slots) (map (λ it. it.old.number) (take l.item-index l.blocks)); count : length l.olds.items ≡ l.item-index }
