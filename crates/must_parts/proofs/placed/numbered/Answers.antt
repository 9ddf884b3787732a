use Rattle.must_parts.proofs.Placing.{numbered_here, numbered_next, numbered_none}
use Rattle.must_parts.proofs.placed.numbered.Goals as goal

pub returns-then-part-number : goal.returns-then-part-number
returns-then-part-number c = λ ps all.
    numbered_here c.args.parts.now ps c.loop-part.part-index c.args.number c.part-item.result all c.loop-part-test.true c.part-item.is c.if-part-number.true (c.loop-part.invariant ps all)

pub loop-part-preserved : goal.loop-part-preserved
loop-part-preserved c = λ ps all.
    numbered_next c.args.parts.now ps c.loop-part.part-index c.args.number c.part-item.result all c.loop-part-test.true c.part-item.is c.if-part-number.false (c.loop-part.invariant ps all)

pub returns : goal.returns
returns c = λ ps all. numbered_none c.args.parts.now ps c.loop-part.part-index c.args.number all c.loop-part-test.false (c.loop-part.invariant ps all)
