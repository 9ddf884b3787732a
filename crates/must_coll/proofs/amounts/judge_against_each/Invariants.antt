use Rattle.std.proofs.Common.{◌≡◌, drop, length}
use Rattle.must_coll.specs.Amounts.{first_against}
use Rattle.must_coll.proofs.amounts.judge_against_each.Given as goal

abbrev pub invariant-loop-j : goal.invariant-loop-j
invariant-loop-j l = first_against l.exchange (length l.calls) l.i l.x l.j (drop l.j l.calls) ≡ first_against l.exchange (length l.calls) l.i l.x 0 l.calls
