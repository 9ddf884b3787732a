use Rattle.std.proofs.Common.{◌∙◌, sym}
use Rattle.must_type.proofs.SlotLaws.{is_live_there, none_past}
use Rattle.must_type.proofs.slots.is_in.Goals as goal

pub returns-then-index-slots : goal.returns-then-index-slots
returns-then-index-slots c = (λ yes. cc yes, λ live. absurd (none_past c.args.slots.now c.args.no.number c.if-index-slots.true live))

pub returns : goal.returns
returns c =
    let same = is_live_there c.args.slots.now c.args.no.number c.index-slots-index.result c.if-index-slots.false c.index-slots-index.is in
    (λ yes. same ∙ sym c.is_some.ensures ∙ yes, λ live. c.is_some.ensures ∙ sym same ∙ live)
