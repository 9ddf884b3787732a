use Rattle.std.proofs.Common.{◌≡◌, drop}
use Rattle.must_coll.specs.Made.{unlike_from}
use Rattle.must_coll.proofs.made.first_unlike.Given as goal

abbrev pub invariant-loop-i : goal.invariant-loop-i
invariant-loop-i l = unlike_from l.i (drop l.i l.xs) (drop l.i l.ys) ≡ unlike_from 0 l.xs l.ys
