use Rattle.std.proofs.Common.{arith}
use Rattle.must_parts.proofs.Ending.{none_left, left_next}
use Rattle.must_parts.proofs.finish.finish_all.Goals as goal

pub loop-request-preserved : goal.loop-request-preserved
loop-request-preserved c = left_next c.args.requests.now c.loop-request.request-index c.args.pending.now c.loop-request.pending c.finish.new.self (omega arith) c.loop-request.invariant c.finish.ensures

pub loop-request-init : goal.loop-request-init
loop-request-init c = none_left c.args.pending.now
