use Rattle.must_tree.proofs.Gathering.{gathers_end}
use Rattle.must_tree.proofs.rank.end_walk.Goals as goal

pub returns : goal.returns
returns c = λ told version calls first g.
    gathers_end told version c.args.walk calls c.in_ok-batch.batch first c.args.node.now c.take.new.self c.in_ok-batch.ensures c.in_ok-take.ensures g
