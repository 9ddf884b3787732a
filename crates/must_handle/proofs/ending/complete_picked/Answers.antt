use Rattle.std.proofs.Common.{arith}
use Rattle.must_handle.proofs.Completing.{picked_more}
use Rattle.must_handle.proofs.ending.complete_picked.Goals as goal

pub loop-completion-preserved : goal.loop-completion-preserved
loop-completion-preserved c = picked_more c.args.requests.now c.args.completions.now c.loop-completion.completion-index c.args.k _ c.args.slots.now c.loop-completion.slots c.complete_index.new.slots (omega arith) c.loop-completion.invariant c.complete_index.ensures
