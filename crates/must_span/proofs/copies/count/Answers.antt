use Rattle.std.proofs.Common.{◌≡◌, ◌∙◌, sym, ap, arith, get_or, pos, ◌+ℤ◌, ◌≤ℤ◌, ◌<ℤ◌, ◌-ℤ◌, subst, ◌+◌, to_z, of_z}
use Rattle.std.specs.Int.{w128}
use Rattle.std.proofs.lemmas.Int.{ints}
use Rattle.std.specs.Int.RustNames.{unsigned_abs}
use Rattle.must_span.proofs.RangeLaws.{past, all_at, apart_filled}
use Rattle.must_span.specs.Ranges.{IsFilled}
use Rattle.std.proofs.lemmas.List.{take_all}
use Rattle.must_span.specs.Steps.{count_of}
use Rattle.must_span.proofs.CopyLaws.{count_is, count_more, count_room, abs_same, abs_pos}
use Rattle.must_span.proofs.copies.count.Goals as goal

pub overflow_add-total : goal.overflow_add-total
overflow_add-total c =
    let rs = c.args.ranges.now in
    let i = c.loop-range.range-index in
    let r = get_or rs i past in
    let low : (pos 0 -ℤ pos 170141183460469231731687303715884105728) ≤ℤ r.low = grind (arith, ints) in
    let high : r.high <ℤ pos 170141183460469231731687303715884105728 = grind (arith, ints) in
    let room = count_room rs i c.loop-range.total 170141183460469231731687303715884105728 c.requires c.loop-range-test.true c.loop-range.invariant.total low c.loop-range.invariant.room in
    let eh : to_z w128 (of_z w128 r.high) ≡ r.high = omega (arith, ints) in
    let el : to_z w128 (of_z w128 r.low) ≡ r.low = omega (arith, ints) in
    let d : c.abs_diff-total.result ≡ unsigned_abs (r.high -ℤ r.low) = c.abs_diff-total.ensures ∙ abs_same r.high r.low _ _ eh el in
    let own = abs_pos (r.high -ℤ r.low) (omega (arith, ints, all_at IsFilled rs i c.loop-range-test.true (apart_filled rs c.requires))) in
    omega (arith, ints, room, d, own, high)

pub loop-range-preserved : goal.loop-range-preserved
loop-range-preserved c =
    let rs = c.args.ranges.now in
    let i = c.loop-range.range-index in
    let r = get_or rs i past in
    let low : (pos 0 -ℤ pos 170141183460469231731687303715884105728) ≤ℤ r.low = grind (arith, ints) in
    let room = count_room rs i c.loop-range.total 170141183460469231731687303715884105728 c.requires c.loop-range-test.true c.loop-range.invariant.total low c.loop-range.invariant.room in
    let eh : to_z w128 (of_z w128 r.high) ≡ r.high = omega (arith, ints) in
    let el : to_z w128 (of_z w128 r.low) ≡ r.low = omega (arith, ints) in
    let d : c.abs_diff-total.result ≡ unsigned_abs (r.high -ℤ r.low) = c.abs_diff-total.ensures ∙ abs_same r.high r.low _ _ eh el in
    let own = abs_pos (r.high -ℤ r.low) (omega (arith, ints, all_at IsFilled rs i c.loop-range-test.true (apart_filled rs c.requires))) in
    let m = count_more rs i past c.loop-range-test.true in
    record {
      total = omega (arith, m, d, c.loop-range.invariant.total);
      room = λ k e. let same : k ≡ i = omega (arith, e) in subst (λ j. pos (c.loop-range.total + c.abs_diff-total.result) ≤ℤ ((get_or rs j past).high +ℤ pos 170141183460469231731687303715884105728)) (sym same) (omega (arith, ints, room, d, own));
    }

pub returns : goal.returns
returns c = c.loop-range.invariant.total ∙ ap count_of (take_all c.loop-range.range-index c.args.ranges.now c.loop-range-test.false) ∙ count_is c.args.ranges.now
