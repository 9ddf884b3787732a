use Rattle.std.proofs.Common.{Option, Some, None, sym, ap, subst, ◌∙◌}
use Rattle.std.specs.Option.{option_map}
use Rattle.must_messages.specs.declared.asked.Asked.{Asked}
use Rattle.must_begin.specs.Keeping.{message_kept}
use Rattle.must_begin.specs.Telling.{IsAskedOf}
use Rattle.must_begin.proofs.Starting.{not_started, started_by}
use Rattle.must_begin.proofs.requests.Requests.started.Goals as goal

pub returns-then-not-starts_now : goal.returns-then-not-starts_now
returns-then-not-starts_now g c = λ r calls call starts clear again keeps.
    not_started r calls call (g.V.View.starts c.args.view.now) c.args.clear c.args.again c.args.index c.args.request starts clear again (sym c.starts_now.ensures ∙ c.if-not-starts_now.true)

pub returns-in_default : goal.returns-in_default
returns-in_default g c = λ r calls call starts clear again keeps.
    started_by r calls call (g.V.View.starts c.args.view.now) c.args.clear c.args.again c.args.index c.args.request starts clear again (sym c.starts_now.ensures ∙ c.if-not-starts_now.false) None
    (subst (λ (o : Option Asked). IsAskedOf o (message_kept r calls c.args.request)) (sym c.get.ensures.value ∙ ap (option_map (λ p. p.now)) c.in_default.is) (keeps c.args.request))

pub returns : goal.returns
returns g c = λ r calls call starts clear again keeps.
    started_by r calls call (g.V.View.starts c.args.view.now) c.args.clear c.args.again c.args.index c.args.request starts clear again (sym c.starts_now.ensures ∙ c.if-not-starts_now.false) (Some c.in_ok-asked.asked)
    (subst (λ (o : Option Asked). IsAskedOf o (message_kept r calls c.args.request)) (sym c.get.ensures.value ∙ ap (option_map (λ p. p.now)) c.in-Some.is ∙ ap (λ (a : Asked). Some a) (sym c.in_ok-asked.ensures)) (keeps c.args.request))
