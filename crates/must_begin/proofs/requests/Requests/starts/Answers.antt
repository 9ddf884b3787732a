use Rattle.std.proofs.Common.{List, [], length, ap, sym, subst, ◌∙◌}
use Rattle.std.proofs.lemmas.Result.{IfOk-weaker}
use Rattle.must_call.specs.declared.body.Body.TheVariants.{Persist}
use Rattle.must_rules.specs.Making.{is_persistent_kind, started_of}
use Rattle.must_messages.specs.declared.asked.Begun.{Begun}
use Rattle.must_messages.specs.Asking.{AreBegun}
use Rattle.must_rules.specs.Operations.{started_from, operations_at}
use Rattle.must_begin.proofs.Beginning.{starts_are}
use Rattle.must_begin.proofs.Shapes.{starts_none}
use Rattle.must_begin.proofs.requests.Requests.starts.Goals as goal

pub returns-in-Start : goal.returns-in-Start
returns-in-Start g c = IfOk-weaker c.start.result _ _ (λ begun is. λ r calls call body starts clear keeps.
    let named = ap started_of (body ∙ ap Persist c.in-Start.is) in
    subst (AreBegun (length calls) begun.items) (sym (starts_are r calls call (ap is_persistent_kind body) ∙ ap (started_from r calls call 0) named)) (is r calls call starts clear named keeps)) c.start.ensures

pub returns-in-Startall : goal.returns-in-Startall
returns-in-Startall g c = IfOk-weaker c.start_all.result _ _ (λ begun is. λ r calls call body starts clear keeps.
    let named = ap started_of (body ∙ ap Persist c.in-Startall.is) ∙ sym c.items.ensures in
    subst (AreBegun (length calls) begun.items) (sym (starts_are r calls call (ap is_persistent_kind body) ∙ ap (started_from r calls call 0) named)) (is r calls call starts clear named keeps)) c.start_all.ensures

pub returns-in_default : goal.returns-in_default
returns-in_default g c = λ r calls call body starts clear keeps.
    let named = ap started_of body ∙ starts_none c.args.persist.now c.in_default.not-Start c.in_default.not-Startall in
    subst (λ (l : List Begun). AreBegun (length calls) l (operations_at r calls call)) (sym c.new.ensures.items)
    (subst (AreBegun (length calls) []) (sym (starts_are r calls call (ap is_persistent_kind body) ∙ ap (started_from r calls call 0) named)) tt)
