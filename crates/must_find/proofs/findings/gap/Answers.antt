use Rattle.std.proofs.Common.{◌<◌, length, sym, subst, arith}
use Rattle.must_find.specs.declared.finding.Finding.{Finding}
use Rattle.must_base.specs.Listing.{Has}
use Rattle.must_find.specs.Order.{by_all}
use Rattle.must_find.specs.OrderLaws.{by_all_total, by_all_same}
use Rattle.must_find.proofs.Inserted.{has_at, before_more, after_more, rises_insert}
use Rattle.must_find.proofs.findings.gap.Goals as goal
use Rattle.must_find.proofs.findings.gap.Goals.{in-Less, in-Greater}

pub returns-in-Equal : goal.returns-in-Equal
returns-in-Equal c =
    let probe = c.loop-low.invariant.probe (omega arith) in
    let within : c.loop-low.middle < length c.args.items.now = omega (arith, probe.1, c.loop-low.invariant.high_in) in
    let e = by_all_same _ _ (sym c.in-Equal.ensures) in
    subst (λ (x : Finding). Has c.args.items.now x) e (has_at c.args.items.now c.loop-low.middle _ within)

pub loop-low-preserved : goal.loop-low-preserved
loop-low-preserved c =
    let probe = c.loop-low.invariant.probe (omega arith) in
    let within : c.loop-low.middle < length c.args.items.now = omega (arith, probe.1, c.loop-low.invariant.high_in) in
    elim c.match-cmp.branch [
      | in-Less w ↦ record {
        low_in = omega (arith, w.low-is, w.high-is, probe.1);
        high_in = omega (arith, w.high-is, c.loop-low.invariant.high_in);
        probe = λ h. (omega arith, omega arith);
        before = λ k d h. before_more by_all by_all_total c.args.items.now c.args.f.now c.loop-low.middle _ c.requires within (sym w.in-Less.ensures) k d (omega (arith, w.low-is));
        after = λ k d h v. c.loop-low.invariant.after k d (omega (arith, w.high-is)) v;
      }
      | in-Greater w ↦ record {
        low_in = omega (arith, w.low-is, w.high-is, probe.0);
        high_in = omega (arith, w.high-is, within);
        probe = λ h. (omega arith, omega arith);
        before = λ k d h. c.loop-low.invariant.before k d (omega (arith, w.low-is));
        after = λ k d h v. after_more by_all by_all_total c.args.items.now c.args.f.now c.loop-low.middle _ c.requires within (sym w.in-Greater.ensures) k d (omega (arith, w.high-is)) v;
      }
    ]

pub returns : goal.returns
returns c = (
  omega (arith, c.loop-low.invariant.low_in, c.loop-low.invariant.high_in),
  rises_insert by_all c.args.items.now c.loop-low.low c.args.f.now c.requires
      (λ k d h w. c.loop-low.invariant.before k d h) (λ k d h w. c.loop-low.invariant.after k d (omega arith) w),
)
