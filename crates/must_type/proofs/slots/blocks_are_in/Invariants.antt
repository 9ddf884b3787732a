use Rattle.std.proofs.Common.{take, map}
use Rattle.must_type.specs.Table.{AreLive}
use Rattle.must_type.specs.View.{slots_of}
use Rattle.must_type.proofs.slots.blocks_are_in.Given as goal

abbrev pub invariant-loop-item : goal.invariant-loop-item
invariant-loop-item l = AreLive (slots_of l.slots) (map (λ it. it.old.number) (take l.item-index l.blocks))
