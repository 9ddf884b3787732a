use Rattle.std.proofs.Common.{rules, ◌≡◌, ◌^◌, ◌*◌, ◌-◌, min, sym, ◌∙◌, ap, ℕ, arith, length, get_or}
use Rattle.must_call.specs.declared.items.Dim.{Dim}
use Rattle.must_type.specs.Constructs.{natural, slow_first}
use Rattle.must_type.specs.Weights.{weigh}
use Rattle.must_type.specs.Facts.{weighed_facts}
use Rattle.must_type.proofs.Parts.{length-slow}
use Rattle.must_type.proofs.Weights.{part_weight_first, part_weight_step}
use Rattle.must_type.proofs.weight.part.Goals as goal

pub loop-k-init : goal.loop-k-init
loop-k-init c =
    let slow = slow_first c.args.order c.args.dims.now in
    let dim = c.nth_fastest-fastest.result in
    let T = weighed_facts c.args.old.now in
    let same : length slow ≡ length c.args.dims.now = length-slow c.args.order c.args.dims.now in
    let is : (d : Dim) → dim ≡ get_or slow (length slow - 1 - 0) d = λ d. c.nth_fastest-fastest.ensures.value d ∙ ap (λ (n : ℕ). get_or slow (n - 1 - 0) d) (sym same) in
    let n : c.natural.result ≡ natural dim.subsize = search rules in
    let one : c.weigh.result ≡ weigh (natural dim.subsize) T = c.weigh.ensures.value ∙ ap (λ (k : ℕ). weigh k T) (c.from.ensures ∙ n) in
    let next : c.min-total.result ≡ min c.weigh.result (2 ^ 64) = grind (arith, c.min-total.ensures) in
    next ∙ ap (λ (w : ℕ). min w (2 ^ 64)) (one ∙ sym (part_weight_first slow dim T (omega (arith, same, c.requires.part.dimension)) is))

pub loop-k-preserved : goal.loop-k-preserved
loop-k-preserved c =
    let slow = slow_first c.args.order c.args.dims.now in
    let dim = c.nth_fastest-dim.result in
    let k = c.loop-k.k in
    let same : length slow ≡ length c.args.dims.now = length-slow c.args.order c.args.dims.now in
    let is : (d : Dim) → dim ≡ get_or slow (length slow - 1 - k) d = λ d. c.nth_fastest-dim.ensures.value d ∙ ap (λ (n : ℕ). get_or slow (n - 1 - k) d) (sym same) in
    let n : c.natural-in-loop-k.result ≡ natural dim.subsize = search rules in
    let m : c.from-in-loop-k.result ≡ natural dim.subsize = c.from-in-loop-k.ensures ∙ n in
    let next : c.min-total-in-loop-k.result ≡ min (c.from-in-loop-k.result * c.loop-k.total) (2 ^ 64) = grind (arith, c.min-total-in-loop-k.ensures) in
    part_weight_step slow k dim (weighed_facts c.args.old.now) c.loop-k.total c.min-total-in-loop-k.result (omega arith) (omega (arith, same)) is c.nth_fastest-dim.ensures.part c.loop-k.invariant (next ∙ ap (λ (w : ℕ). min (w * c.loop-k.total) (2 ^ 64)) m)
