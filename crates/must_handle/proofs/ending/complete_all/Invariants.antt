use Rattle.std.proofs.Common.{take}
use Rattle.must_handle.specs.Changes.{Changes, complete_requests}
use Rattle.must_handle.proofs.ending.complete_all.Given as goal

abbrev pub invariant-loop-request : goal.invariant-loop-request
invariant-loop-request l = Changes (complete_requests (take l.request-index l.requests) l.k) l.initial.slots l.slots
