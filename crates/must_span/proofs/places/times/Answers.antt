use Rattle.std.proofs.Common.{◌^◌, ◌≤◌, subst, sym, arith, mul-le-mul}
use Rattle.std.specs.Int.RustNames.{unsigned_abs}
use Rattle.std.proofs.lemmas.Int.{unsigned_abs-mul}
use Rattle.must_span.proofs.CopyLaws.{product_read}
use Rattle.must_span.proofs.places.times.Goals as goal

pub returns-clause-value : goal.returns-clause-value
returns-clause-value c =
    let m = mul-le-mul c.requires.small c.requires.near in
    product_read c.args.factor c.args.distance c.ranges.factor c.ranges.distance (omega (arith, m))

pub returns-clause-near : goal.returns-clause-near
returns-clause-near c =
    let m = mul-le-mul c.requires.small c.requires.near in
    let e = product_read c.args.factor c.args.distance c.ranges.factor c.ranges.distance (omega (arith, m)) in
    subst (λ z. unsigned_abs z ≤ 2 ^ 94) (sym e) (omega (arith, unsigned_abs-mul c.args.factor c.args.distance, m))
