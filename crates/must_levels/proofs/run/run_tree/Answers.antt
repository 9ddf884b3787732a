use Rattle.std.proofs.Common.{ap, length}
use Rattle.must_inbox.specs.States.{PortState}
use Rattle.must_levels.proofs.RankLists.{since_unread}
use Rattle.must_levels.proofs.Trees.{tree_ran, can_root}
use Rattle.must_levels.proofs.run.run_tree.Goals as goal

pub returns-in_err-above-clause-since : goal.returns-in_err-above-clause-since
returns-in_err-above-clause-since g c = since_unread g.M.RankReader.ready g.M.RankReader.since (g.met.M.RankReader g.world.𝓛 g.world.𝓜 g.world.𝓡 ((λ s x. x), (λ x. x), (λ x. x), λ x. x)).untouched c.args.parts.now c.requires.ready

pub run_node-requires-after_bounds : goal.run_node-requires-after_bounds
run_node-requires-after_bounds g c =
    let port = c.port-port.ensures.port in
    λ κs bounds. can_root g.M.RankReader.ready c.in_ok-above.above c.args.parts.now c.levels-children.result c.args.fan_in c.port-port.result c.requires.shape c.levels-children.ensures c.requires.ready
    (ap (λ (s : PortState). s.inbox) port) (ap (λ (s : PortState). s.sent) port) (ap (λ (s : PortState). s.range) port)

pub returns-clause-answer : goal.returns-clause-answer
returns-clause-answer g c = tree_ran (g.M.RankReader.whole (length c.args.parts.now)) (g.M.RankReader.failed (length c.args.parts.now)) g.M.RankReader.since c.args.parts.now c.run_node.new.parts c.port-port.result c.run_node.new.port c.run_node.result (ap (λ (s : PortState). s.range) c.port-port.ensures.port) c.run_node.ensures
