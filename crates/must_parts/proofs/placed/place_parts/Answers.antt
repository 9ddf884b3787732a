use Rattle.std.proofs.Common.{List, subst}
use Rattle.must_rules.specs.Parts.{Part}
use Rattle.must_parts.specs.Telling.{IsTold}
use Rattle.must_parts.specs.Placing.{ArePlaced}
use Rattle.must_parts.proofs.Matching.{matched_all}
use Rattle.must_parts.proofs.Placing.{placed_step}
use Rattle.must_parts.proofs.placed.place_parts.Goals as goal

pub loop-told-preserved : goal.loop-told-preserved
loop-told-preserved c = λ ps all.
    placed_step c.args.table.now.slots c.args.parts.now ps c.loop-told.told-index c.told-item.result _ _ _ all c.loop-told-test.true c.told-item.is (c.loop-told.invariant ps all) c.in_ok-place.ensures c.in_ok-push.ensures.items

pub returns : goal.returns
returns c = λ ps all. subst (λ (l : List Part). ArePlaced c.loop-told.placed.items l) (matched_all (IsTold c.args.table.now.slots) c.args.parts.now ps c.loop-told.told-index all c.loop-told-test.false) (c.loop-told.invariant ps all)
