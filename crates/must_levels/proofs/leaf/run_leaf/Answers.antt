use Rattle.std.proofs.Common.{rules}
use Rattle.must_levels.proofs.Leaves.{leaf_done}
use Rattle.must_levels.proofs.leaf.run_leaf.Goals as goal

pub returns-in-Ok-None : goal.returns-in-Ok-None
returns-in-Ok-None g c =
    let sent = c.loop.port.sent in
    let first = c.args.part.now in
    let now = c.next-given.new.part in
    let gave = c.loop.invariant.gave in
    let law = g.met.M.RankReader.lawful c.args.size c.args.rank first c.loop.part c.loop.reader sent gave in
    let all : g.M.RankReader.whole c.args.size c.args.rank first now sent = search rules in
    let after = c.next-given.ensures.since c.args.size c.args.rank first sent gave in
    leaf_done (g.M.RankReader.whole c.args.size) (g.M.RankReader.failed c.args.size) g.M.RankReader.since c.args.rank first now after c.args.port.now c.loop.port c.requires.range c.loop.invariant.port law all
