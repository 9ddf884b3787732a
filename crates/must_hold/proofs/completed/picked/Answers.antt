use Rattle.std.proofs.Common.{ap, arith}
use Rattle.std.specs.Prelude.{map}
use Rattle.must_hold.specs.Told.{recorded_seen}
use Rattle.must_hold.proofs.Recording.{picked_next}
use Rattle.must_hold.proofs.completed.picked.Goals as goal

pub loop-completion-preserved : goal.loop-completion-preserved
loop-completion-preserved c = picked_next c.args.requests.now c.args.completions.now c.loop-completion.completion-index _ c.loop-completion.told.items c.push_index.new.told.items (omega arith) c.loop-completion.invariant c.in_ok-push_index.ensures
