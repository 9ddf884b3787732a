use Rattle.std.proofs.Common.{◌^◌, arith}
use Rattle.std.proofs.lemmas.Int.{ints}
use Rattle.must_type.proofs.Reach.{whole_bounded, whole_ordered, lower_near}
use Rattle.must_type.proofs.summary.Summary.upper.Goals as goal

pub upper_of-requires-clause-bounded : goal.upper_of-requires-clause-bounded
upper_of-requires-clause-bounded c = rw c.whole.ensures (whole_bounded (2 ^ 62) c.args.self.now c.requires.fits.near)

pub upper_of-requires-clause-ordered : goal.upper_of-requires-clause-ordered
upper_of-requires-clause-ordered c = rw c.whole.ensures (whole_ordered c.args.self.now c.requires.ordered)

pub upper_of-requires-clause-low : goal.upper_of-requires-clause-low
upper_of-requires-clause-low c =
    let near = lower_near c.args.self.now c.requires.fits c.requires.ordered in
    record { low = omega (arith, ints, near.low, c.lower.ensures); high = omega (arith, ints, near.high, c.lower.ensures) }
