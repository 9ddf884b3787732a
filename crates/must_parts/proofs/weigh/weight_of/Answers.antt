use Rattle.std.proofs.Common.{ap, ◌∙◌}
use Rattle.std.specs.Prelude.{sum_by}
use Rattle.must_rules.specs.Parts.{part_weight}
use Rattle.must_parts.specs.Telling.{IsTold}
use Rattle.must_parts.proofs.Matching.{matched_all}
use Rattle.must_parts.proofs.Fields.{sum_step}
use Rattle.must_parts.proofs.weigh.weight_of.Goals as goal

pub loop-told-preserved : goal.loop-told-preserved
loop-told-preserved c = λ ps all.
    sum_step c.args.table.now.slots c.args.parts.now ps c.loop-told.told-index c.told-item.result c.loop-told.sum c.in-Some.more _ all c.loop-told-test.true c.told-item.is (c.loop-told.invariant ps all) c.in_ok-part_weight.ensures (c.in-Some.ensures).1

pub returns : goal.returns
returns c = λ ps all. c.loop-told.invariant ps all ∙ ap (sum_by part_weight) (matched_all (IsTold c.args.table.now.slots) c.args.parts.now ps c.loop-told.told-index all c.loop-told-test.false)
