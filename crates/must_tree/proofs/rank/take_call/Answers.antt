use Rattle.std.proofs.Common.{refl}
use Rattle.must_tree.proofs.Reached.{limit_told}
use Rattle.must_tree.proofs.Gathering.{gathers_more}
use Rattle.must_tree.proofs.rank.take_call.Goals as goal

pub returns-in_ok-take-in-Ok-clause-took : goal.returns-in_ok-take-in-Ok-clause-took
returns-in_ok-take-in-Ok-clause-took c = λ told calls first g.
    gathers_more told c.args.walk.now c.step.new.self calls c.args.call.now c.in-Ok.batch first c.args.node.now c.take.new.self
    c.in-Ok.ensures.walks c.in-Ok.ensures.rank c.in_ok-take-in-Ok.ensures g

pub returns-in-Err-TooWide-clause-over : goal.returns-in-Err-TooWide-clause-over
returns-in-Err-TooWide-clause-over c = λ told version calls first g.
    (refl, limit_told told c.args.walk.now version calls c.args.call.now first c.args.node.now c.in-Err-TooWide.field-0 c.in-Err-TooWide.field-0-0 c.in-Err-TooWide.limit g c.in-Err-TooWide.ensures.over c.in-Err-TooWide.field-0-is)
