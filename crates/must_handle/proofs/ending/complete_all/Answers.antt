use Rattle.std.proofs.Common.{arith}
use Rattle.must_handle.proofs.Completing.{completed_next}
use Rattle.must_handle.proofs.ending.complete_all.Goals as goal

pub loop-request-preserved : goal.loop-request-preserved
loop-request-preserved c = completed_next c.args.requests.now c.loop-request.request-index c.args.k c.args.slots.now c.loop-request.slots c.complete_request.new.slots (omega arith) c.loop-request.invariant c.complete_request.ensures
