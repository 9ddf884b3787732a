use Rattle.std.proofs.Common.{◌≡◌, ℕ, ◌^◌, ◌<◌, ◌≤◌, ◌-◌}
use Rattle.must_levels.proofs.shape.levels.Given as goal

abbrev pub invariant-loop-covered : goal.invariant-loop-covered
invariant-loop-covered l = record { some : 1 ≤ l.levels; is : l.covered ≡ l.fan_in ^ l.levels; small : l.levels ≤ l.covered; lower : (k : ℕ) → 1 ≤ k → k < l.levels → l.fan_in ^ k < l.n }

abbrev pub decreases-loop-covered : goal.decreases-loop-covered
decreases-loop-covered l = l.n - l.covered
