use Rattle.std.proofs.Common.{◌<◌, ◌^◌, min, ◌∙◌, ap, ℕ, arith, length, [], ◌∷◌}
use Rattle.must_type.specs.Weights.{weight_of, Old}
use Rattle.must_type.specs.Tree.{weighed}
use Rattle.must_type.specs.View.{trees_of}
use Rattle.must_type.specs.ConstructLaws.{one_number}
use Rattle.must_type.proofs.Laid.{one_old, weight_of_one}
use Rattle.must_type.proofs.Weights.{first_weighed}
use Rattle.must_type.proofs.weight.weight_of.Goals as goal

pub returns : goal.returns
returns c =
    let call = c.args.call.now in
    let olds = c.args.olds.now in
    let one = one_old call c.in_default.not-Struct in
    let some : 0 < length olds = omega (arith, c.requires.olds, one_number call one) in
    let w = first_weighed olds c.old_facts.result some c.old_facts.ensures.value in
    c.weigh_one.ensures ∙ ap (λ (old : Old). min (weight_of call (old ∷ [])) (2 ^ 64)) w ∙ ap (λ (n : ℕ). min n (2 ^ 64)) (weight_of_one call (weighed (trees_of olds)) one)
