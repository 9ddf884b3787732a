use Rattle.std.proofs.Common.{◌≤◌, ◌⊎◌, length, sym, inl, inr, arith}
use Rattle.must_find.specs.Order.{by_all}
use Rattle.must_find.specs.OrderLaws.{by_all_total, by_all_same}
use Rattle.must_find.proofs.Merged.{at_first, left_at, right_at, both_at, ends_of, at_end}
use Rattle.must_find.proofs.findings.merged.Goals as goal
use Rattle.must_find.proofs.findings.merged.Goals.{then-loop-i-test+else-j-ys, else-loop-i-test}

pub loop-i-init : goal.loop-i-init
loop-i-init c = record {
  within_xs = omega arith;
  within_ys = omega arith;
  merging = rw c.new-out.ensures.items (at_first by_all c.args.xs.now c.args.ys.now c.requires.0 c.requires.1);
}

pub loop-i-preserved-in-Less : goal.loop-i-preserved-in-Less
loop-i-preserved-in-Less c = record {
  within_xs = omega (arith, c.loop-i-test.true);
  within_ys = c.loop-i.invariant.within_ys;
  merging = rw c.in_ok-push-in-Less.ensures.items
      (left_at by_all by_all_total c.args.xs.now c.args.ys.now c.loop-i.out.items c.loop-i.i c.loop-i.j _ c.loop-i-test.true c.if-j-ys.true (sym c.in-Less.ensures) c.loop-i.invariant.merging);
}

pub loop-i-preserved-in-Greater : goal.loop-i-preserved-in-Greater
loop-i-preserved-in-Greater c = record {
  within_xs = c.loop-i.invariant.within_xs;
  within_ys = omega (arith, c.if-j-ys.true);
  merging = rw c.in_ok-push-in-Greater.ensures.items
      (right_at by_all by_all_total c.args.xs.now c.args.ys.now c.loop-i.out.items c.loop-i.i c.loop-i.j _ c.loop-i-test.true c.if-j-ys.true (sym c.in-Greater.ensures) c.loop-i.invariant.merging);
}

pub loop-i-preserved : goal.loop-i-preserved
loop-i-preserved c = record {
  within_xs = omega (arith, c.loop-i-test.true);
  within_ys = omega (arith, c.if-j-ys.true);
  merging = rw c.in_ok-push-in-Equal.ensures.items
      (both_at by_all c.args.xs.now c.args.ys.now c.loop-i.out.items c.loop-i.i c.loop-i.j _ c.loop-i-test.true c.if-j-ys.true (by_all_same _ _ (sym c.in-Equal.ensures)) c.loop-i.invariant.merging);
}

pub returns : goal.returns
returns c =
    let ends : (length c.args.xs.now ≤ c.loop-i.i) ⊎ (length c.args.ys.now ≤ c.loop-i.j) = elim c.loop-i-test.branch [
      | then-loop-i-test+else-j-ys w ↦ inr (omega (arith, w.if-j-ys.false))
      | else-loop-i-test w ↦ inl (omega (arith, w.loop-i-test.false))
    ] in
    rw (c.in_ok-extend_from_slice-2.ensures.items, c.in_ok-extend_from_slice.ensures.items, c.split_at.ensures.back, c.split_at-2.ensures.back)
    (at_end by_all c.args.xs.now c.args.ys.now c.loop-i.out.items _ _ (ends_of c.args.xs.now c.args.ys.now c.loop-i.i c.loop-i.j ends) c.loop-i.invariant.merging)
