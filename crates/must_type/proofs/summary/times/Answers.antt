use Rattle.std.proofs.Common.{◌*◌, subst, sym}
use Rattle.must_type.specs.Maps.{IsBounded}
use Rattle.must_type.proofs.Distances.{product_read, product_fits, product_bounded}
use Rattle.must_type.proofs.summary.times.Goals as goal

pub returns-clause-value : goal.returns-clause-value
returns-clause-value c =
    product_read c.args.factor c.args.distance c.ranges.factor c.ranges.distance (product_fits c.args.factor c.args.distance c.requires.small c.requires.near)

pub returns-clause-bounded : goal.returns-clause-bounded
returns-clause-bounded c = λ n h.
    subst (IsBounded (2147483648 * n)) (sym (product_read c.args.factor c.args.distance c.ranges.factor c.ranges.distance (product_fits c.args.factor c.args.distance c.requires.small c.requires.near))) (product_bounded 2147483648 n c.args.factor c.args.distance c.requires.small h)
