use Rattle.std.proofs.Common.{arith, le_refl}
use Rattle.std.proofs.lemmas.Int.{ints}
use Rattle.must_span.proofs.CopyLaws.{abs_times, product_is}
use Rattle.must_span.proofs.copies.place_of.Goals as goal

pub returns-clause-value : goal.returns-clause-value
returns-clause-value c =
    let far = abs_times c.args.copy c.args.copy c.args.stride 42535295865117307932921825928971026432 (le_refl c.args.copy) c.requires.far in
    let m = product_is c.args.copy c.args.stride c.from.result c.ranges.stride c.from.ensures (omega arith) c.requires.far in
    omega (arith, ints, m, far, c.requires.at_near)

pub returns-clause-near : goal.returns-clause-near
returns-clause-near c =
    let far = abs_times c.args.copy c.args.copy c.args.stride 42535295865117307932921825928971026432 (le_refl c.args.copy) c.requires.far in
    let m = product_is c.args.copy c.args.stride c.from.result c.ranges.stride c.from.ensures (omega arith) c.requires.far in
    omega (arith, ints, m, far, c.requires.at_near)
