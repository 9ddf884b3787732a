use Rattle.std.proofs.Common.{rules, ◌≡◌, subst, ◌∙◌, ap, ℤ, ◌+ℤ◌, arith, to_z, of_z}
use Rattle.std.specs.Int.{w128}
use Rattle.std.proofs.lemmas.Int.{ints}
use Rattle.must_type.specs.Summaries.{marked}
use Rattle.must_type.specs.Facts.{IsWhereFits}
use Rattle.must_type.proofs.Laid.{resized_is}
use Rattle.must_type.proofs.forms.resized.Goals as goal

pub returns : goal.returns
returns c = λ T h.
    let f = c.args.old.now in
    let a : to_z w128 (of_z w128 c.from-lb.result) ≡ c.args.lb = search rules in
    let b : to_z w128 (of_z w128 c.from.result) ≡ c.args.extent = search rules in
    let u : to_z w128 (of_z w128 (to_z w128 (of_z w128 c.from-lb.result) +ℤ to_z w128 (of_z w128 c.from.result))) ≡ c.args.lb +ℤ c.args.extent = omega (arith, ints, a, b, c.ranges.lb, c.ranges.extent) in
    subst (IsWhereFits c.where_fits.result) (c.marked.ensures ∙ ap (λ (x : ℤ). marked x (to_z w128 (of_z w128 (to_z w128 (of_z w128 c.from-lb.result) +ℤ to_z w128 (of_z w128 c.from.result)))) f.summary) a ∙ ap (λ (x : ℤ). marked c.args.lb x f.summary) u ∙ resized_is c.args.lb c.args.extent T f h) c.where_fits.ensures
