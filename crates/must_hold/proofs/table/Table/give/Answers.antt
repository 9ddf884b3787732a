use Rattle.std.proofs.Common.{sym, ◌∙◌, arith}
use Rattle.must_hold.proofs.Giving.{first, next, last, may, may_not}
use Rattle.must_hold.proofs.table.Table.give.Goals as goal

pub loop-self-init : goal.loop-self-init
loop-self-init c = λ r calls ops holds. first r calls ops c.args.self.now c.args.entries.now.items holds

pub loop-self-preserved : goal.loop-self-preserved
loop-self-preserved c = λ r calls ops holds.
    let can = may c.loop-self.self (sym c.may_give.ensures ∙ c.loop-self-test.true) in
    next r calls ops c.args.self.now c.loop-self.self c.give_one.new.self can.1.0 c.args.entries.now.items c.loop-self.entries.items c.give_one.new.entries.items (c.loop-self.invariant r calls ops holds) can.1.1 can.0 (c.in_ok-give_one.ensures can.1.0 can.1.1)

pub loop-self-smaller : goal.loop-self-smaller
loop-self-smaller c =
    let can = may c.loop-self.self (sym c.may_give.ensures ∙ c.loop-self-test.true) in
    let less = can.0 in
    let g = c.in_ok-give_one.ensures can.1.0 can.1.1 in
    let a = g.count in
    let b = g.given in
    omega (arith, less, a, b)

pub returns : goal.returns
returns c = λ r calls ops holds.
    last r calls ops c.args.self.now c.loop-self.self c.args.entries.now.items c.loop-self.entries.items (c.loop-self.invariant r calls ops holds) (may_not c.loop-self.self (sym c.may_give.ensures ∙ c.loop-self-test.false))
