use Rattle.std.proofs.Common.{rules, ◌≡◌, ◌^◌, ◌+◌, min, ◌∙◌, ap, ℕ, pos, arith, get_or}
use Rattle.must_type.specs.declared.construct.StructItem.{StructItem}
use Rattle.must_type.specs.Constructs.{natural}
use Rattle.must_type.specs.Weights.{weigh}
use Rattle.must_type.specs.Facts.{weighed_facts}
use Rattle.must_type.proofs.Weights.{struct_weight_step}
use Rattle.must_type.proofs.weight.struct_blocks.Goals as goal

pub loop-i-preserved : goal.loop-i-preserved
loop-i-preserved c =
    let b : StructItem = record { block = pos 0; disp = pos 0; old = record { number = 0 } } in
    let it = get_or c.args.blocks.now c.loop-i.i b in
    let f = c.old_facts-old.result in
    let n : c.natural.result ≡ natural it.block = search rules in
    let one : c.weigh.result ≡ weigh (natural it.block) (weighed_facts f) = c.weigh.ensures.value ∙ ap (λ (k : ℕ). weigh k (weighed_facts f)) (c.from.ensures ∙ n) in
    let next : c.min-total.result ≡ min (c.loop-i.total + c.weigh.result) (2 ^ 64) = grind (arith, c.min-total.ensures) in
    struct_weight_step c.args.blocks.now c.args.olds.now c.loop-i.i b f c.loop-i.total c.weigh.result c.min-total.result (omega arith) (omega arith) c.old_facts-old.ensures.value c.loop-i.invariant one next
