use Rattle.std.proofs.Common.{◌≤◌, List, length, ap, ◌∙◌, arith}
use Rattle.std.specs.Prelude.{sum_by}
use Rattle.std.proofs.lemmas.List.{take_all}
use Rattle.must_type.specs.Table.{message_weight}
use Rattle.must_parts.specs.declared.blocks.Block.{Block}
use Rattle.must_parts.proofs.Fields.{weighed}
use Rattle.must_parts.proofs.weigh.part_weight.Goals as goal

pub returns : goal.returns
returns c = λ part is.
    let within : length c.args.told.now.blocks.items ≤ c.loop-block.block-index = omega (arith, c.loop-block-test.false, ap length c.as_slice-block-items.ensures.value) in
    c.loop-block.invariant is.held is.held_is
    ∙ ap (λ (l : List Block). sum_by (λ b. message_weight b.count is.held) l) (take_all c.loop-block.block-index c.args.told.now.blocks.items within)
    ∙ weighed c.args.table.now.slots c.args.told.now part is
