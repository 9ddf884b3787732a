use Rattle.must_hold.specs.Ended.{need_seen}
use Rattle.std.proofs.Common.{map}
use Rattle.must_needs.specs.Naming.{name_need}
use Rattle.must_needs.proofs.Telling.{each_more}
use Rattle.must_needs.proofs.tell.each_way.Goals as goal

pub loop-name-preserved : goal.loop-name-preserved
loop-name-preserved c =
    each_more (name_need c.args.rank (map (need_seen c.args.rank) c.args.needs.now)) c.args.names.now c.loop-name.name-index _ _ _ c.loop-name-test.true c.in_ok-way.ensures c.in_ok-push_way.ensures c.loop-name.invariant
