use Rattle.std.proofs.Common.{arith, pos}
use Rattle.must_type.specs.View.{slots_of}
use Rattle.must_type.proofs.SlotLaws.{live_at}
use Rattle.must_type.proofs.slots.blocks_are_in.Goals as goal

pub returns-then-not-is_in : goal.returns-then-not-is_in
returns-then-not-is_in c = (
  λ yes. cc yes,
  λ live.
      let yes = c.is_in.ensures.1 (live_at (slots_of c.args.slots.now) c.args.blocks.now c.loop-item.item-index (record { block = pos 0; disp = pos 0; old = record { number = 0 } }) (omega arith) live) in
      let no = c.if-not-is_in.true in
      cc (yes, no),
)
