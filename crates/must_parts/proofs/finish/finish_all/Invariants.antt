use Rattle.std.proofs.Common.{◌≡◌, take}
use Rattle.must_parts.specs.Ending.{left}
use Rattle.must_parts.proofs.finish.finish_all.Given as goal

abbrev pub invariant-loop-request : goal.invariant-loop-request
invariant-loop-request l = l.pending ≡ left (take l.request-index l.requests) l.initial.pending
