use Rattle.std.proofs.Common.{◌≡◌, arith, ℤ, pos, ◌*ℤ◌, ap, to_z, of_z}
use Rattle.std.specs.Int.{w128}
use Rattle.std.proofs.lemmas.Int.{ints, to_z-of_z}
use Rattle.must_span.proofs.copies.one_run.Goals as goal

pub returns-clause-high : goal.returns-clause-high
returns-clause-high c =
    let e : to_z w128 (of_z w128 c.place_of.result) ≡ c.place_of.result = omega (arith, ints, c.place_of.ensures.near) in
    let t : pos c.args.count *ℤ to_z w128 (of_z w128 c.args.stride) ≡ pos c.args.count *ℤ c.args.stride = ap (λ (z : ℤ). pos c.args.count *ℤ z) (to_z-of_z w128 c.args.stride c.ranges.stride) in
    omega (arith, ints, e, t, c.place_of.ensures.value, c.requires.at_near, c.requires.near.low)
