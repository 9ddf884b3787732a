use Rattle.std.proofs.Common.{◌≡◌, ◌≤◌, ◌-◌, ◌++◌, ℕ, List, length}
use Rattle.std.specs.Prelude.{Some}
use Rattle.must_codec.proofs.step.take_front.Given as goal

-- each turn took a byte, and no read failed
abbrev pub invariant-loop-len : goal.invariant-loop-len
invariant-loop-len g l = record {
  taken : (rest : List ℕ) → g.S.Source.left l.fn.src ≡ Some rest → (others : List ℕ) × (rest ≡ l.window ++ others) × (g.S.Source.left l.src ≡ Some others);
  few : length l.window ≤ 17;
  kept : g.S.Source.faults l.src ≡ g.S.Source.faults l.fn.src;
}

abbrev pub decreases-loop-len : goal.decreases-loop-len
decreases-loop-len g l = 17 - length l.window
