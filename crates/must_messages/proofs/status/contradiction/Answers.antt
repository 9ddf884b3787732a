use Rattle.std.proofs.Common.{ℤ, Bool, true, ap, sym, ◌∙◌, pos, w32}
use Rattle.std.proofs.lemmas.Int.{to_z-of_z}
use Rattle.must_rules.specs.Statuses.{wrong_envelope}
use Rattle.must_rules.specs.ArgumentRules.{unless}
use Rattle.must_messages.specs.declared.asked.Deed.{Deed}
use Rattle.must_messages.specs.Asking.{action_seen, envelope_seen}
use Rattle.must_messages.proofs.Contradicting.{wrong_as, cancelled_is, wrong_is, taking}
use Rattle.must_messages.proofs.status.contradiction.Goals as goal

pub returns-then-asked_to_cancel : goal.returns-then-asked_to_cancel
returns-then-asked_to_cancel c = λ m is. ap (λ (b : Bool). unless b (pos 3)) (sym c.if-asked_to_cancel.true) ∙ cancelled_is c.args.tag_ub m c.args.asked_to_cancel c.args.status c.if-status.true

pub returns-else-asked_to_cancel : goal.returns-else-asked_to_cancel
returns-else-asked_to_cancel c = λ m is. ap (λ (b : Bool). unless b (pos 3)) (sym c.if-asked_to_cancel.false) ∙ cancelled_is c.args.tag_ub m c.args.asked_to_cancel c.args.status c.if-status.true

pub returns-in-Send : goal.returns-in-Send
returns-in-Send c = λ m is.
    ap (λ (d : Deed). wrong_as c.args.tag_ub (action_seen d) (envelope_seen c.args.asked.now) c.args.status) (sym c.in-Send.is)
    ∙ wrong_is c.args.tag_ub c.args.asked.now m c.args.asked_to_cancel c.args.status is c.if-status.false

pub returns-in-Receive : goal.returns-in-Receive
returns-in-Receive c = λ m is.
    c.wrong_envelope.ensures
    ∙ ap (λ (z : ℤ). wrong_envelope z (envelope_seen c.args.asked.now) c.args.status) (to_z-of_z w32 c.args.tag_ub c.ranges.tag_ub)
    ∙ taking c.args.tag_ub (envelope_seen c.args.asked.now) c.args.status c.args.asked.now.deed c.in-Receive.is
    ∙ wrong_is c.args.tag_ub c.args.asked.now m c.args.asked_to_cancel c.args.status is c.if-status.false
