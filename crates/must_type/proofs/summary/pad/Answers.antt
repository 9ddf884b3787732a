use Rattle.std.proofs.Common.{◌≡◌, pos, ◌+ℤ◌, ◌-ℤ◌, ℤ, arith, ◌∙◌, ap, to_z, of_z}
use Rattle.std.specs.Int.{w128, int_rem_euclid}
use Rattle.std.proofs.lemmas.Int.{ints}
use Rattle.must_type.specs.Maps.{padding}
use Rattle.must_type.proofs.summary.pad.Goals as goal

pub returns : goal.returns
returns c =
    let end = c.args.end in
    let low = c.args.low in
    let a = c.args.alignment in
    let r = c.rem_euclid.result in
    let d : to_z w128 (of_z w128 (pos 0 -ℤ to_z w128 (of_z w128 (to_z w128 (of_z w128 end) -ℤ to_z w128 (of_z w128 low))))) ≡ pos 0 -ℤ (end -ℤ low) = omega (arith, ints) in
    let m : to_z w128 (of_z w128 c.from.result) ≡ pos a = omega (arith, ints, c.from.ensures) in
    let is : r ≡ padding (end -ℤ low) a =
    c.rem_euclid.ensures.value ∙ ap (λ (x : ℤ). int_rem_euclid x (to_z w128 (of_z w128 c.from.result))) d ∙ ap (λ (y : ℤ). int_rem_euclid (pos 0 -ℤ (end -ℤ low)) y) m in
    let sum : to_z w128 (of_z w128 (to_z w128 (of_z w128 end) +ℤ to_z w128 (of_z w128 r))) ≡ end +ℤ r = omega (arith, ints, c.rem_euclid.ensures.upper_bound, c.rem_euclid.ensures.lower_bound) in
    sum ∙ ap (λ (x : ℤ). end +ℤ x) is
