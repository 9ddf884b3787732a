use Rattle.std.proofs.Common.{take}
use Rattle.must_handle.specs.Changes.{Changes, start_requests}
use Rattle.must_handle.proofs.ending.start_all.Given as goal

abbrev pub invariant-loop-request : goal.invariant-loop-request
invariant-loop-request l = Changes (start_requests (take l.request-index l.requests) l.k) l.initial.slots l.slots
