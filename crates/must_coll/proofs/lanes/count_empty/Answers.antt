use Rattle.std.proofs.Common.{arith}
use Rattle.must_coll.proofs.LaneSteps.{gaps_more}
use Rattle.must_coll.proofs.lanes.count_empty.Goals as goal

pub loop-lane-preserved : goal.loop-lane-preserved
loop-lane-preserved c =
    let more = gaps_more c.args.lanes.now c.loop-lane.lane-index c.lane-item.result c.loop-lane-test.true c.lane-item.is in
    (omega (c.loop-lane.invariant.0, c.fills-empty.ensures.small, arith), omega (more, c.fills-empty.ensures.value, c.loop-lane.invariant.1, arith))
