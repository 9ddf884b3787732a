use Rattle.std.proofs.Common.{◌∙◌, ap, arith, pos, length, length-append, ◌∷◌, []}
use Rattle.must_type.specs.View.{slots_of}
use Rattle.must_type.proofs.SlotLaws.{live_at, block_olds_step}
use Rattle.must_type.proofs.slots.block_olds.Goals as goal

pub tree_in-requires : goal.tree_in-requires
tree_in-requires c = live_at (slots_of c.args.slots.now) c.args.blocks.now c.loop-item.item-index (record { block = pos 0; disp = pos 0; old = record { number = 0 } }) (omega arith) c.requires

pub loop-item-preserved : goal.loop-item-preserved
loop-item-preserved c =
    record {
      olds_are = block_olds_step (slots_of c.args.slots.now) c.args.blocks.now c.loop-item.item-index (record { block = pos 0; disp = pos 0; old = record { number = 0 } }) c.loop-item.olds.items c.push.new.self.items c.in_ok-clone.field-0 c.tree_in.result.now (omega arith) c.requires c.tree_in.ensures c.in_ok-clone.ensures.cases c.in_ok-push.ensures.items c.loop-item.invariant.olds_are;
      count = ap length c.in_ok-push.ensures.items ∙ length-append c.loop-item.olds.items (c.in_ok-clone.field-0 ∷ []) ∙ omega (arith, c.loop-item.invariant.count);
    }
