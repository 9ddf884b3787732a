use Rattle.std.proofs.Common.{◌+◌, ◌*◌, take}
use Rattle.must_type.specs.Tree.{height, old_maps, old_weights}
use Rattle.must_type.specs.Constructs.{struct_map}
use Rattle.must_type.specs.Weights.{struct_weight}
use Rattle.must_span.specs.Steps.{IsLaid}
use Rattle.must_span.proofs.lay.+lay.Given as goal

abbrev pub invariant-struct_ranges-loop-i : goal.invariant-struct_ranges-loop-i
invariant-struct_ranges-loop-i l = IsLaid l.made.items (struct_map (take l.i l.blocks) (old_maps l.tree)) (struct_weight (take l.i l.blocks) (old_weights l.tree))

abbrev pub decreases-lay : goal.decreases-lay
decreases-lay l = 4 * height l.tree.now + 1

abbrev pub decreases-laid_out : goal.decreases-laid_out
decreases-laid_out l = 4 * height l.tree.now + 2

abbrev pub decreases-push_block : goal.decreases-push_block
decreases-push_block l = 4 * height l.tree.now + 3

abbrev pub decreases-struct_ranges : goal.decreases-struct_ranges
decreases-struct_ranges l = 4 * height l.tree.now

abbrev pub decreases-lay_made : goal.decreases-lay_made
decreases-lay_made l = 4 * height l.tree.now
