-- A status beside what was asked for.
use Rattle.std.proofs.Common.{◌≡◌, ◌⊎◌, inl, inr, ℤ, pos, Bool, true, false, cond, Option, Some, None, refl, ap, sym, ◌∙◌}
use Rattle.must_call.specs.declared.status.Status3.{Status3}
use Rattle.must_rules.specs.Parts.{Part}
use Rattle.must_rules.specs.ArgumentRules.{unless}
use Rattle.must_messages.specs.declared.asked.Deed.{Deed}
use Rattle.must_messages.specs.declared.asked.Deed.TheVariants as deed
use Rattle.must_messages.specs.declared.asked.Asked.{Asked}
use Rattle.must_rules.specs.Operations.{Action, Sends, Receives, Probes, Envelope, Message}
use Rattle.must_messages.specs.Asking.{IsAsked, action_seen, envelope_seen}
use Rattle.must_rules.specs.Statuses.{wrong_envelope, wrong_message, contradiction}

abbrev pub wrong_as : (tag_ub : ℤ) → Action → Envelope → Status3 → Option ℤ
wrong_as tag_ub (Sends mode) e status = None
wrong_as tag_ub _ e status = wrong_envelope tag_ub e status

plain : (tag_ub : ℤ) (a : Action) (e : Envelope) (buffer : Option Part) (status : Status3) → wrong_message tag_ub (record { action = a; envelope = e; buffer = buffer }) status ≡ wrong_as tag_ub a e status
plain tag_ub (Sends mode) e buffer status = refl
plain tag_ub Receives e buffer status = refl
plain tag_ub Probes e buffer status = refl

pub cancelled_is : (tag_ub : ℤ) (m : Message) (asked : Bool) (status : Status3) → status.cancelled ≡ true → unless asked (pos 3) ≡ contradiction tag_ub m asked status
unfolding contradiction
cancelled_is tag_ub m asked status e = ap (λ (b : Bool). cond b (unless asked (pos 3)) (wrong_message tag_ub m status)) (sym e)

pub wrong_is : (tag_ub : ℤ) (asked : Asked) (m : Message) (b : Bool) (status : Status3) → IsAsked asked m → status.cancelled ≡ false → wrong_as tag_ub (action_seen asked.deed) (envelope_seen asked) status ≡ contradiction tag_ub m b status
unfolding contradiction
wrong_is tag_ub asked m b status is e =
    ap (λ (a : Action). wrong_as tag_ub a (envelope_seen asked) status) (sym is.action_is)
    ∙ ap (λ (v : Envelope). wrong_as tag_ub m.action v status) (sym is.envelope_is)
    ∙ sym (plain tag_ub m.action m.envelope m.buffer status)
    ∙ ap (λ (c : Bool). cond c (unless b (pos 3)) (wrong_message tag_ub m status)) (sym e)

pub taking : (tag_ub : ℤ) (e : Envelope) (status : Status3) (d : Deed) → (d ≡ deed.Receive) ⊎ (d ≡ deed.Probe) → wrong_envelope tag_ub e status ≡ wrong_as tag_ub (action_seen d) e status
taking tag_ub e status d (inl is) = ap (λ (x : Deed). wrong_as tag_ub (action_seen x) e status) (sym is)
taking tag_ub e status d (inr is) = ap (λ (x : Deed). wrong_as tag_ub (action_seen x) e status) (sym is)
