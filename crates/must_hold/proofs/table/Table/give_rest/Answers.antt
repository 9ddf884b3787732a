use Rattle.std.proofs.Common.{arith}
use Rattle.must_hold.proofs.Finishing.{rest_first, rest_next, rest_last}
use Rattle.must_hold.proofs.table.Table.give_rest.Goals as goal

pub loop-self-init : goal.loop-self-init
loop-self-init c = λ r calls ops same holds. rest_first r calls ops c.args.self.now c.args.entries.now.items holds

pub loop-self-preserved : goal.loop-self-preserved
loop-self-preserved c = λ r calls ops same holds.
    rest_next r calls ops c.args.rank c.args.self.now c.loop-self.self c.give_any.new.self c.args.entries.now.items c.loop-self.entries.items c.give_any.new.entries.items same c.loop-self-test.true c.in_ok-give_any.ensures (c.loop-self.invariant r calls ops same holds)

pub loop-self-smaller : goal.loop-self-smaller
loop-self-smaller c =
    let less = c.loop-self-test.true in
    let a = c.in_ok-give_any.ensures.gives.count in
    let b = c.in_ok-give_any.ensures.gives.given in
    omega (arith, less, a, b)

pub returns : goal.returns
returns c = λ r calls ops same holds.
    rest_last r calls ops c.args.self.now c.loop-self.self c.args.entries.now.items c.loop-self.entries.items (λ less. let past = c.loop-self-test.false in omega (arith, less, past)) (c.loop-self.invariant r calls ops same holds)
