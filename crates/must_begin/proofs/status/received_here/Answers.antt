use Rattle.std.proofs.Common.{Option, None, subst}
use Rattle.must_call.specs.declared.field.Side.TheVariants.{Receive}
use Rattle.must_messages.specs.declared.asked.Asked.{Asked}
use Rattle.must_rules.specs.Operations.{message_of, message_probed}
use Rattle.must_begin.specs.Telling.{IsAskedOf}
use Rattle.must_begin.proofs.Beginning.{asked_either}
use Rattle.must_begin.proofs.Seeing.{parts_seen, clear_seen}
use Rattle.must_begin.proofs.status.received_here.Goals as goal

pub returns : goal.returns
returns g c = λ r calls sees on.
    let call = c.args.call.now in
    let none = subst (λ (o : Option Asked). IsAskedOf o (message_of r calls call Receive)) c.in_default.is (c.in_ok-asked.ensures r calls (parts_seen r calls _ _ _ _ sees call.body c.args.usable.now.parts c.requires.parts) sees.stands on) in
    asked_either None c.in_ok-asked-2.asked (message_of r calls call Receive) (message_probed r calls call) none
    (c.in_ok-asked-2.ensures r calls sees.facts_are (clear_seen r calls _ _ _ _ sees call c.args.usable.now.clear c.requires.clear) on)
