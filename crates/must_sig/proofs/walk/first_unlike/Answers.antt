use Rattle.std.proofs.Common.{◌≡◌, arith, ◌<◌}
use Rattle.must_call.specs.Basics.{number_of_basic}
use Rattle.must_sig.specs.Signatures.{laid, repeated}
use Rattle.must_sig.proofs.Periods.{repeated_length}
use Rattle.must_sig.proofs.Matching.{ahead_length, at_hand, matched_more, matched_differs, matched_agree, left_within}
use Rattle.must_sig.proofs.walk.first_unlike.Goals as goal

pub returns-then-not-same-clause-found : goal.returns-then-not-same-clause-found
returns-then-not-same-clause-found g c =
    let m = c.loop-at.invariant.matched in
    let n = ahead_length m in
    let xs = repeated c.args.a_times (laid c.args.a.now) in
    let ys = repeated c.args.b_times (laid c.args.b.now) in
    let a = repeated_length c.args.a_times (laid c.args.a.now) in
    let b = repeated_length c.args.b_times (laid c.args.b.now) in
    let left = at_hand c.args.a.now c.loop-at.left c.loop-at.invariant.left_ready (omega (arith, n.0, a, c.loop-at-test.true, c.requires.a_within)) in
    let right = at_hand c.args.b.now c.loop-at.right c.loop-at.invariant.right_ready (omega (arith, n.1, b, c.loop-at-test.true, c.requires.b_within)) in
    matched_differs xs ys c.loop-at.at c.args.a.now c.args.b.now c.loop-at.left c.loop-at.right m left right (λ e. let yes = c.is_same-same.ensures.same.1 e in let no = c.if-not-same.true in cc (yes, no))

pub loop-at-preserved : goal.loop-at-preserved
loop-at-preserved g c =
    let i = c.loop-at.invariant in
    let n = ahead_length i.matched in
    let xs = repeated c.args.a_times (laid c.args.a.now) in
    let ys = repeated c.args.b_times (laid c.args.b.now) in
    let a = repeated_length c.args.a_times (laid c.args.a.now) in
    let b = repeated_length c.args.b_times (laid c.args.b.now) in
    let left = at_hand c.args.a.now c.loop-at.left i.left_ready (omega (arith, n.0, a, c.loop-at-test.true, c.requires.a_within)) in
    let right = at_hand c.args.b.now c.loop-at.right i.right_ready (omega (arith, n.1, b, c.loop-at-test.true, c.requires.b_within)) in
    let more : 0 < c.min-n.result = omega (arith, left, right, c.min-n.ensures) in
    let same : number_of_basic c.loop-at.left.basic ≡ number_of_basic c.loop-at.right.basic = c.is_same-same.ensures.same.0 c.if-not-same.false in
    record {
      matched = matched_more xs ys c.loop-at.at c.min-n.result _ _ _ _ c.loop-at.left.basic c.loop-at.right.basic i.matched same c.pass-left.ensures.ahead c.pass-right.ensures.ahead;
      left_ready = c.pass-left.ensures.ready;
      right_ready = c.pass-right.ensures.ready;
      cost = omega (arith, more, i.cost, c.is_same-same.ensures.cost);
      cost_within = omega (arith, more, i.cost, c.is_same-same.ensures.cost, c.loop-at-test.true);
    }

pub returns-clause-none : goal.returns-clause-none
returns-clause-none g c =
    let xs = repeated c.args.a_times (laid c.args.a.now) in
    let ys = repeated c.args.b_times (laid c.args.b.now) in
    λ _. matched_agree xs ys c.loop-at.at c.args.stretch _ _ c.loop-at.invariant.matched (omega (arith, c.loop-at-test.false))

pub overflow_add-at : goal.overflow_add-at
overflow_add-at g c =
    let n = ahead_length c.loop-at.invariant.matched in
    let a = repeated_length c.args.a_times (laid c.args.a.now) in
    record { fits = omega (arith, n.0, a, left_within c.args.a.now c.loop-at.left, c.min-n.ensures, c.requires.a_long) }

pub loop-at-smaller : goal.loop-at-smaller
loop-at-smaller g c =
    let i = c.loop-at.invariant in
    let n = ahead_length i.matched in
    let a = repeated_length c.args.a_times (laid c.args.a.now) in
    let b = repeated_length c.args.b_times (laid c.args.b.now) in
    let left = at_hand c.args.a.now c.loop-at.left i.left_ready (omega (arith, n.0, a, c.loop-at-test.true, c.requires.a_within)) in
    let right = at_hand c.args.b.now c.loop-at.right i.right_ready (omega (arith, n.1, b, c.loop-at-test.true, c.requires.b_within)) in
    let more : 0 < c.min-n.result = omega (arith, left, right, c.min-n.ensures) in
    omega (arith, more, c.loop-at-test.true)
