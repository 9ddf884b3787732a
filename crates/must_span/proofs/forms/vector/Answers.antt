use Rattle.std.proofs.Common.{◌≡◌, ◌∙◌, ap, arith, rules, ℤ, ◌*ℤ◌, to_z, of_z}
use Rattle.std.specs.Int.{w128, w32}
use Rattle.must_type.specs.Constructs.{natural}
use Rattle.std.proofs.lemmas.Int.{ints, to_z-of_z}
use Rattle.must_type.specs.Maps.{extent}
use Rattle.must_span.proofs.ByteLaws.{vector_is_hvector}
use Rattle.must_span.proofs.forms.vector.Goals as goal

pub returns : goal.returns
returns c = λ T w h.
    let n : c.natural.result ≡ natural c.args.count = c.natural.ensures.value ∙ ap natural (to_z-of_z w32 c.args.count c.ranges.count) in
    let b : c.natural-2.result ≡ natural c.args.blocklength = c.natural-2.ensures.value ∙ ap natural (to_z-of_z w32 c.args.blocklength c.ranges.blocklength) in
    let old = c.args.old.now in
    let e : to_z w128 (of_z w128 old.extent) ≡ old.extent = omega (arith, ints, c.requires.old.extent_near) in
    let f : to_z w128 (of_z w128 c.from.result) ≡ c.args.stride = search rules in
    let s : to_z w128 (of_z w128 c.times-stride.result) ≡ c.times-stride.result = omega (arith, ints, c.times-stride.ensures.near) in
    let at : to_z w128 (of_z w128 c.times-stride.result) ≡ c.args.stride *ℤ extent T = s ∙ c.times-stride.ensures.value ∙ ap (λ (x : ℤ). x *ℤ to_z w128 (of_z w128 old.extent)) f ∙ ap (λ (x : ℤ). c.args.stride *ℤ x) (e ∙ h.extent_is) in
    rw vector_is_hvector (rw (n, b, at) at (c.rows.ensures T w h))
