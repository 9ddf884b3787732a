use Rattle.std.proofs.Common.{◌≡◌, ◌^◌, pos, ◌-ℤ◌, arith, to_z, of_z}
use Rattle.std.specs.Int.{w128}
use Rattle.std.proofs.lemmas.Int.{ints}
use Rattle.must_type.specs.Maps.{IsBounded}
use Rattle.must_type.specs.Summaries.{lower_bound, upper_bound, bounds_by}
use Rattle.must_type.proofs.Reach.{lower_near}
use Rattle.must_type.proofs.Settled.{same_bounds}
use Rattle.must_type.proofs.summary.Summary.bounds.Goals as goal

pub overflow_sub-result : goal.overflow_sub-result
overflow_sub-result c =
    let near = lower_near c.args.self.now c.requires.fits c.requires.ordered in
    omega (arith, ints, near.low, near.high, c.lower-lb.ensures)

pub returns : goal.returns
returns c =
    let s = c.args.self.now in
    let near = lower_near s c.requires.fits c.requires.ordered in
    let n : to_z w128 s.size ≡ pos s.size = omega (arith, ints, c.requires.fits.small) in
    let l : to_z w128 (of_z w128 c.lower-lb.result) ≡ lower_bound s = omega (arith, ints, near.low, near.high, c.lower-lb.ensures) in
    let u : to_z w128 (of_z w128 c.upper-ub.result) ≡ upper_bound s = omega (arith, ints, c.upper-ub.ensures) in
    let above : IsBounded (2 ^ 62) (upper_bound s) = record { low = omega (arith, ints, c.upper-ub.ensures); high = omega (arith, ints, c.upper-ub.ensures) } in
    let e : to_z w128 (of_z w128 (to_z w128 (of_z w128 c.upper-ub.result) -ℤ to_z w128 (of_z w128 c.lower-lb.result))) ≡ upper_bound s -ℤ lower_bound s = omega (arith, ints, near.low, near.high, above.low, above.high, l, u) in
    (same_bounds (record { size = to_z w128 s.size; lb = to_z w128 (of_z w128 c.lower-lb.result); ub = to_z w128 (of_z w128 c.upper-ub.result); extent = to_z w128 (of_z w128 (to_z w128 (of_z w128 c.upper-ub.result) -ℤ to_z w128 (of_z w128 c.lower-lb.result))) }) (bounds_by s) n l u e, above)
