use Rattle.must_pending.proofs.FirstLaws.{first_more}
use Rattle.must_pending.proofs.group.first_clash.Goals as goal

pub loop-placed-preserved : goal.loop-placed-preserved
loop-placed-preserved c = first_more c.args.operations.now c.loop-placed.placed-index c.placed-item.result _ _ _ _ _ c.loop-placed-test.true c.placed-item.is c.loop-placed.invariant c.clash.ensures c.earlier-first.ensures
