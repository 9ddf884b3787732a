use Rattle.std.proofs.Common.{Bool, Option, None, cond, sym, subst, ◌∙◌}
use Rattle.must_call.specs.Kinds.{kind_of}
use Rattle.must_call.specs.declared.field.Side.TheVariants.{Receive}
use Rattle.must_messages.specs.declared.asked.Asked.{Asked}
use Rattle.must_rules.specs.Operations.{message_of, message_probed, waits_for_probe}
use Rattle.must_begin.specs.Telling.{IsAskedOf}
use Rattle.must_begin.proofs.Beginning.{asked_either}
use Rattle.must_begin.proofs.Seeing.{parts_seen, clear_seen}
use Rattle.must_begin.proofs.begun.awaited.Goals as goal

pub returns : goal.returns
returns g c = λ r calls sees on.
    let call = c.args.call.now in
    let none = subst (λ (o : Option Asked). IsAskedOf o (message_of r calls call Receive)) c.in_default.is (c.in_ok-asked.ensures r calls (parts_seen r calls _ _ _ _ sees call.body c.args.usable.now.parts c.requires.parts) sees.stands on) in
    let probed = c.in_ok-asked-2.ensures r calls sees.facts_are (clear_seen r calls _ _ _ _ sees call c.args.usable.now.clear c.requires.clear) on in
    asked_either None c.in_ok-asked-2.asked (message_of r calls call Receive) (cond (waits_for_probe (kind_of call.body)) (message_probed r calls call) None) none
    (subst (λ (b : Bool). IsAskedOf c.in_ok-asked-2.asked (cond b (message_probed r calls call) None)) (sym c.if-not-waits_for_probe.false ∙ c.waits_for_probe.ensures) probed)
