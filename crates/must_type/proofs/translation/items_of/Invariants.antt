use Rattle.std.proofs.Common.{◌≡◌, Some, take}
use Rattle.must_type.specs.Translation.{items_of}
use Rattle.must_type.proofs.translation.items_of.Given as goal

abbrev pub invariant-loop-block : goal.invariant-loop-block
invariant-loop-block g l = items_of (g.H.TypeHandles.types l.fn.handles) (take l.block-index l.blocks) ≡ Some l.items.items
