use Rattle.must_local.proofs.Buffering.{sees}
use Rattle.must_rules.specs.PendingOperations.{pending_limit_at}
use Rattle.must_rules.specs.Limits.{handle_limit_at}
use Rattle.must_local.proofs.buffers.take_buffers.Goals as goal

pub returns-in-Ok-clause-rows : goal.returns-in-Ok-clause-rows
returns-in-Ok-clause-rows c = λ r calls rank number s b. c.in-Ok.ensures.rows r calls rank number (sees r c.args.handles.now calls s) b

pub returns-in-Ok-clause-stands : goal.returns-in-Ok-clause-stands
returns-in-Ok-clause-stands c = λ r calls number s b. c.in-Ok.ensures.stands r calls number (sees r c.args.handles.now calls s) b

pub returns-in-Ok-clause-within : goal.returns-in-Ok-clause-within
returns-in-Ok-clause-within c = λ r calls size number s b. c.in-Ok.ensures.within r calls size number (sees r c.args.handles.now calls s) b

pub returns-in-Err-clause-over : goal.returns-in-Err-clause-over
returns-in-Err-clause-over c = λ r calls size number s b.
    c.fault_at.ensures (pending_limit_at r calls c.args.call.now) (handle_limit_at r calls c.args.call.now) (c.in-Err.ensures.over r calls size number (sees r c.args.handles.now calls s) b)
