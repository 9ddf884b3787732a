use Rattle.std.proofs.Common.{[], ◌∷◌, ◌++◌, refl, sym, subst, ◌∙◌, ap}
use Rattle.must_p2p.specs.Items.{Orderly}
use Rattle.must_coll.specs.Waves as waves
use Rattle.must_entry.specs.declared.entry.Entry.{Entry}
use Rattle.must_entry.specs.declared.entry.Entry.TheVariants.{Message, Wave}
use Rattle.must_entry.specs.Entries.{messages, calls}
use Rattle.must_node.specs.declared.fact.Fact.{Fact}
use Rattle.must_node.specs.declared.settled.Settled.{Settled}
use Rattle.must_node.specs.EntryLaws.{messages_push, calls_push}
use Rattle.must_node.specs.Settling.{Knows}
use Rattle.must_node.proofs.Settle.{knows_row, knows_need, knows_message, knows_wave}
use Rattle.must_node.proofs.settled.Settled.settle.Goals as goal

pub returns-in_ok-add-in-Row : goal.returns-in_ok-add-in-Row
returns-in_ok-add-in-Row c = λ g k o w.
    let s = c.args.self.now in
    let new : Settled = record { channels = s.channels; waves = s.waves; findings = c.add.new.self; facts = s.facts } in
    subst (λ (e : Entry). Orderly (messages (g ++ e ∷ [])) → Knows new (g ++ e ∷ [])) (sym c.in-Row.is) (λ ordered. knows_row s new g c.in-Row.finding k ordered refl refl refl c.in_ok-add-in-Row.ensures.ok) o

pub returns-in_ok-push-in-Need : goal.returns-in_ok-push-in-Need
returns-in_ok-push-in-Need c = λ g k o w.
    let s = c.args.self.now in
    let new : Settled = record { channels = s.channels; waves = s.waves; findings = s.findings; facts = c.push.new.self } in
    subst (λ (e : Entry). Orderly (messages (g ++ e ∷ [])) → Knows new (g ++ e ∷ [])) (sym c.in-Need.is) (λ ordered. knows_need s new g c.in-Need.place c.in-Need.ways k ordered refl refl refl c.in_ok-push-in-Need.ensures) o

pub returns-in_ok-put-in-Message : goal.returns-in_ok-put-in-Message
returns-in_ok-put-in-Message c = λ g k o w.
    let s = c.args.self.now in
    let x = c.in-Message.item in
    let new : Settled = record { channels = c.put-in-Message.new.self; waves = s.waves; findings = c.put-in-Message.new.out; facts = c.push-in-Message.new.self } in
    let h = messages g in
    let items = c.in_ok-push-in-Message.ensures ∙ ap (λ (w : Fact). s.facts ++ w ∷ []) c.in_ok-of_message-in-Message.ensures in
    subst (λ (e : Entry). Orderly (messages (g ++ e ∷ [])) → Knows new (g ++ e ∷ [])) (sym c.in-Message.is) (λ ordered. knows_message s new g x c.next_number-number.result k ordered (c.next_number-number.ensures h k.channels (subst Orderly (messages_push g (Message x)) ordered)) refl
    (c.in_ok-put-in-Message.ensures.put h k.channels (subst Orderly (messages_push g (Message x)) ordered)) (c.in_ok-put-in-Message.ensures.rows h k.channels (subst Orderly (messages_push g (Message x)) ordered)) items) o

pub returns-in_ok-put-in-Wave : goal.returns-in_ok-put-in-Wave
returns-in_ok-put-in-Wave c = λ g k o w.
    let s = c.args.self.now in
    let x = c.in-Wave.item in
    let new : Settled = record { channels = s.channels; waves = c.put.new.self; findings = c.put.new.out; facts = c.push-in-Wave.new.self } in
    let h = calls g in
    let items = c.in_ok-push-in-Wave.ensures ∙ ap (λ (w : Fact). s.facts ++ w ∷ []) c.in_ok-of_call-in-Wave.ensures in
    subst (λ (e : Entry). Orderly (messages (g ++ e ∷ [])) → waves.Orderly (calls (g ++ e ∷ [])) → Knows new (g ++ e ∷ [])) (sym c.in-Wave.is) (λ ordered lanes.
    let l = subst waves.Orderly (calls_push g (Wave x)) lanes in
    knows_wave s new g x k ordered l refl (c.in_ok-put-in-Wave.ensures.put h k.waves l) (c.in_ok-put-in-Wave.ensures.rows h k.waves l) items) o w
