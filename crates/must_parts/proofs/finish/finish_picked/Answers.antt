use Rattle.std.proofs.Common.{arith}
use Rattle.must_parts.proofs.Ending.{none_left, left_picked}
use Rattle.must_parts.proofs.finish.finish_picked.Goals as goal

pub loop-completion-preserved : goal.loop-completion-preserved
loop-completion-preserved c = left_picked c.args.requests.now c.args.completions.now c.loop-completion.completion-index _ c.args.pending.now c.loop-completion.pending c.finish_index.new.pending (omega arith) c.loop-completion.invariant c.finish_index.ensures

pub loop-completion-init : goal.loop-completion-init
loop-completion-init c = none_left c.args.pending.now
