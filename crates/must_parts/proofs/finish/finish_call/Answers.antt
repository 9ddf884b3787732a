use Rattle.must_parts.proofs.Ending.{ended}
use Rattle.must_parts.proofs.finish.finish_call.Goals as goal

pub returns : goal.returns
returns c = λ ops held. ended c.args.call.now c.args.pending.now _ _ ops held c.finish_completed.ensures c.finish_freed.ensures
