use Rattle.must_coll.proofs.LaneSteps.{one_empty_more}
use Rattle.must_coll.proofs.lanes.empty_lanes.Goals as goal

pub loop-preserved : goal.loop-preserved
loop-preserved c = one_empty_more c.args.members.now c.loop.lanes.items c.loop.index c.new.result (omega Rattle.std.proofs.Common.arith) c.loop.invariant c.new.ensures.items c.push.new.self.items c.in_ok-push.ensures.items
