-- The number of the item that comes next.
use Rattle.std.proofs.Common.{◌≡◌, ℕ, List, [], ◌∷◌, ◌++◌, length, Option, Some, None, refl, sym, ap, subst, ◌∙◌}
use Rattle.std.proofs.lemmas.List.{length-map}
use Rattle.must_p2p.specs.declared.side.Side.{Side}
use Rattle.must_p2p.specs.declared.side.Side.TheVariants.{Send, Receive, Probe}
use Rattle.must_p2p.specs.declared.item.MsgItem.{MsgItem}
use Rattle.must_p2p.specs.declared.queue.Queue.{Queue}
use Rattle.must_p2p.specs.declared.channels.Channels.{Channels}
use Rattle.must_p2p.specs.Items.{Class, class_of, lane, counted, number, Orderly}
use Rattle.must_p2p.specs.Queues.{waiting, StandsAt}
use Rattle.must_p2p.specs.Standing.{queue_of, kept, StandsFor}
use Rattle.must_p2p.specs.GrowthLaws.{number_last}

pub none_from : (o : Option ℕ) → ((i : ℕ) → o ≡ Some i → ⊥) → o ≡ None
none_from None h = refl
none_from (Some i) h = absurd (h i refl)

at_queue : (channels : Channels) (items : List MsgItem) (x : MsgItem) (o : Option Queue) → StandsFor channels items → queue_of channels.names channels.queues (class_of x) ≡ o
    → StandsAt o (kept (class_of x) Send items) (kept (class_of x) Receive items)
at_queue channels items x o st e = subst (λ (q : Option Queue). StandsAt q (kept (class_of x) Send items) (kept (class_of x) Receive items)) e (st.keeps (class_of x))

none_came : (t : Side) (c : Class) (items : List MsgItem) → StandsAt None (kept c Send items) (kept c Receive items) → 0 ≡ length (lane c (counted t) items)
none_came Send c items st = sym (ap length st.0) ∙ length-map (lane c Send items) waiting
none_came Receive c items st = sym (ap length st.1) ∙ length-map (lane c Receive items) waiting
none_came Probe c items st = sym (ap length st.1) ∙ length-map (lane c Receive items) waiting

-- no item of its class came
pub next_first : (channels : Channels) (items : List MsgItem) (x : MsgItem) → StandsFor channels items → Orderly (items ++ x ∷ []) → queue_of channels.names channels.queues (class_of x) ≡ None → 0 ≡ number (items ++ x ∷ []) x
next_first channels items x st o e = none_came x.side (class_of x) items (at_queue channels items x None st e) ∙ sym (number_last items x o)

pub next_send : (channels : Channels) (items : List MsgItem) (x : MsgItem) (q : Queue) → StandsFor channels items → Orderly (items ++ x ∷ []) → queue_of channels.names channels.queues (class_of x) ≡ Some q → counted x.side ≡ Send → q.sent ≡ number (items ++ x ∷ []) x
next_send channels items x q st o e side =
    (at_queue channels items x (Some q) st e).sent ∙ length-map (lane (class_of x) Send items) waiting ∙ ap (λ t. length (lane (class_of x) t items)) (sym side) ∙ sym (number_last items x o)

pub next_receive : (channels : Channels) (items : List MsgItem) (x : MsgItem) (q : Queue) → StandsFor channels items → Orderly (items ++ x ∷ []) → queue_of channels.names channels.queues (class_of x) ≡ Some q → counted x.side ≡ Receive → q.received ≡ number (items ++ x ∷ []) x
next_receive channels items x q st o e side =
    (at_queue channels items x (Some q) st e).received ∙ length-map (lane (class_of x) Receive items) waiting ∙ ap (λ t. length (lane (class_of x) t items)) (sym side) ∙ sym (number_last items x o)
