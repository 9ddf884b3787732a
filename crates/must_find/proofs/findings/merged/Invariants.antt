use Rattle.std.proofs.Common.{◌≤◌, ◌-◌, ◌+◌, length, drop}
use Rattle.must_find.specs.Order.{by_all}
use Rattle.must_find.proofs.Merged.{Merging}
use Rattle.must_find.proofs.findings.merged.Given as goal

abbrev pub invariant-loop-i : goal.invariant-loop-i
invariant-loop-i l = record {
  within_xs : l.i ≤ length l.xs;
  within_ys : l.j ≤ length l.ys;
  merging : Merging by_all l.xs l.ys l.out.items (drop l.i l.xs) (drop l.j l.ys);
}

abbrev pub decreases-loop-i : goal.decreases-loop-i
decreases-loop-i l = (length l.xs - l.i) + (length l.ys - l.j)
