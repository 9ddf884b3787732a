use Rattle.std.proofs.Common.{◌∙◌, sym}
use Rattle.must_p2p.proofs.Distinct.{nil_distinct, distinct_more}
use Rattle.must_hold.proofs.tests.is_distinct.Goals as goal

pub loop-place-init : goal.loop-place-init
loop-place-init c = nil_distinct

pub loop-place-preserved : goal.loop-place-preserved
loop-place-preserved c = distinct_more c.args.ranks.now c.loop-place.place c.loop-place-test.true c.loop-place.invariant (sym c.contains.ensures.value ∙ c.if-contains.false)
