use Rattle.std.proofs.Common.{arith}
use Rattle.must_coll.proofs.LaneSteps.{missing_more}
use Rattle.must_coll.proofs.lanes.missing_of.Goals as goal

pub loop-i-preserved : goal.loop-i-preserved
loop-i-preserved c = missing_more c.args.members.now c.args.lanes.now c.loop-i.i c.index-lanes-i.result (omega arith) c.index-lanes-i.is c.in-Some.ensures.item.3.0 c.loop-i.invariant
