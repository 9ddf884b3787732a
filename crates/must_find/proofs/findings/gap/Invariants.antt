use Rattle.std.proofs.Common.{◌-◌, ◌≡◌, ◌≤◌, ◌<◌, ℕ, length, get_or}
use Rattle.std.proofs.Common.{Less}
use Rattle.must_find.specs.declared.finding.Finding.{Finding}
use Rattle.must_find.specs.Order.{by_all}
use Rattle.must_find.proofs.findings.gap.Given as goal

abbrev pub invariant-loop-low : goal.invariant-loop-low
invariant-loop-low l = record {
  low_in : l.low ≤ l.high;
  high_in : l.high ≤ length l.items;
  probe : l.low < l.high → (l.low ≤ l.middle) × (l.middle < l.high);
  before : (k : ℕ) (d : Finding) → k < l.low → by_all (get_or l.items k d) l.f ≡ Less;
  after : (k : ℕ) (d : Finding) → l.high ≤ k → k < length l.items → by_all l.f (get_or l.items k d) ≡ Less;
}

abbrev pub decreases-loop-low : goal.decreases-loop-low
decreases-loop-low l = l.high - l.low
