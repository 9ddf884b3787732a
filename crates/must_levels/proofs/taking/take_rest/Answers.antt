use Rattle.must_levels.proofs.Moves.{idle_taken}
use Rattle.must_levels.proofs.taking.take_rest.Goals as goal

pub loop-init : goal.loop-init
loop-init g c = record { can = c.requires.take; taken = idle_taken c.args.root c.args.inbox.now c.args.upper.now c.args.taker.now c.args.node.now c.args.port.now c.requires.take }
