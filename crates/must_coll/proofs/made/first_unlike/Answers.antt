use Rattle.std.proofs.Common.{◌≡◌, ◌+◌, drop, length, Some, ap, sym, ◌∙◌, arith, add-one}
use Rattle.must_coll.specs.Made.{unlike_from}
use Rattle.must_coll.proofs.Recorded.{unlike_step, unlike_stop, unlike_longer, unlike_end}
use Rattle.must_coll.proofs.made.first_unlike.Goals as goal

pub returns-then-not-is_same_at : goal.returns-then-not-is_same_at
returns-then-not-is_same_at c =
    sym (unlike_stop c.args.xs.now c.args.ys.now c.loop-i.i c.loop-i.i (omega (c.loop-i-test.true, arith)) (sym c.is_same_at.ensures ∙ c.if-not-is_same_at.true)) ∙ c.loop-i.invariant

pub loop-i-preserved : goal.loop-i-preserved
loop-i-preserved c =
    let xs = c.args.xs.now in
    let ys = c.args.ys.now in
    let i = c.loop-i.i in
    ap (λ n. unlike_from (i + 1) (drop n xs) (drop n ys)) (add-one i) ∙ sym (unlike_step xs ys i i (omega (c.loop-i-test.true, arith)) (sym c.is_same_at.ensures ∙ c.if-not-is_same_at.false)) ∙ c.loop-i.invariant

pub returns-then-xs-ys : goal.returns-then-xs-ys
returns-then-xs-ys c =
    let i = c.loop-i.i in
    let end : length c.args.xs.now ≡ i = omega (c.loop-i-test.false, c.loop-i.auto.i-end, arith) in
    ap Some end ∙ sym (unlike_longer c.args.xs.now c.args.ys.now i i c.loop-i-test.false (omega (c.if-xs-ys.true, end, arith))) ∙ c.loop-i.invariant

pub returns-else-xs-ys : goal.returns-else-xs-ys
returns-else-xs-ys c =
    let i = c.loop-i.i in
    sym (unlike_end c.args.xs.now c.args.ys.now i i c.loop-i-test.false (omega (c.if-xs-ys.false, c.loop-i-test.false, arith))) ∙ c.loop-i.invariant
