use Rattle.std.proofs.Common.{◌≡◌, ◌^◌, min, take}
use Rattle.must_type.specs.Weights.{struct_weight}
use Rattle.must_type.specs.Tree.{weighed}
use Rattle.must_type.specs.View.{trees_of}
use Rattle.must_type.proofs.weight.struct_blocks.Given as goal

abbrev pub invariant-loop-i : goal.invariant-loop-i
invariant-loop-i l = l.total ≡ min (struct_weight (take l.i l.blocks) (weighed (trees_of l.olds))) (2 ^ 64)
