use Rattle.std.proofs.Common.{arith}
use Rattle.must_hold.proofs.Recording.{named_next}
use Rattle.must_hold.proofs.completed.requests_picked.Goals as goal

pub loop-completion-preserved : goal.loop-completion-preserved
loop-completion-preserved c = named_next c.args.requests.now c.args.completions.now c.loop-completion.completion-index _ c.loop-completion.named.items c.put_index.new.named.items (omega arith) c.loop-completion.invariant c.in_ok-put_index.ensures
