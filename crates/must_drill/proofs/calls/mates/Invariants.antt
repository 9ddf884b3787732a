use Rattle.std.proofs.Common.{◌≡◌}
use Rattle.must_drill.specs.Calls.{mates_of}
use Rattle.must_drill.proofs.calls.mates.Given as goal

-- those below
abbrev pub invariant-loop-mate : goal.invariant-loop-mate
invariant-loop-mate l = l.mates.items ≡ mates_of l.mate l.fn.rank
