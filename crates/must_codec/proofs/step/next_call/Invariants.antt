use Rattle.std.proofs.Common.{◌≡◌, ◌+◌, ◌-◌, ℕ, List, cond, length}
use Rattle.std.specs.Prelude.{Some}
use Rattle.must_codec.specs.declared.window.TheConstants.{CAPACITY}
use Rattle.must_codec.specs.Views.{IsReady}
use Rattle.must_codec.proofs.Steps.{Mid}
use Rattle.must_codec.proofs.step.next_call.Given as goal

-- some bytes were taken, and no read failed
abbrev pub invariant-loop-fault : goal.invariant-loop-fault
invariant-loop-fault g l = record {
  mid : (rest : List ℕ) → g.S.Source.left l.fn.src ≡ Some rest → Mid l.fn.window l.window rest (g.S.Source.left l.src) l.ended;
  ready : IsReady l.header l.place l.window;
  place : l.place ≡ l.fn.place;
  kept : g.S.Source.faults l.src ≡ g.S.Source.faults l.fn.src;
}

abbrev pub decreases-loop-fault : goal.decreases-loop-fault
decreases-loop-fault g l = CAPACITY + 1 - (length l.window + cond l.ended 1 0)
