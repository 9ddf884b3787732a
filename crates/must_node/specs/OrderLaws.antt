-- What lawful batches give comes in order, and so does each part of it that a node settles or hands up.
use Rattle.std.proofs.Common.{◌≡◌, ℕ, Bool, true, false, cond, not, List, [], ◌∷◌, ◌++◌, refl, sym, ap, subst, ◌∙◌, inl, inr}
use Rattle.std.specs.Prelude.{filter, slice_get, ◌==◌, ◌||◌, Some, None}
use Rattle.std.specs.Ordering.{is_eq}
use Rattle.std.proofs.lemmas.Bool.{and_parts, cases_Bool}
use Rattle.std.proofs.lemmas.List.Elements.{filter-append}
use Rattle.must_base.specs.Listing.{Has}
use Rattle.must_group.specs.Names.{Name, name_cmp}
use Rattle.must_group.specs.NameOrder.{name_same}
use Rattle.must_p2p.specs.declared.item.MsgItem.{MsgItem}
use Rattle.must_p2p.specs.Items.{Orderly}
use Rattle.must_p2p.specs.SetLaws.{all_filter, orderly_filter, has_filter}
use Rattle.must_coll.specs.declared.item.WaveItem.{WaveItem}
use Rattle.must_coll.specs.Waves as waves
use Rattle.must_coll.specs.WaveLaws.{equal_from, lane_keeps}
use Rattle.must_entry.specs.declared.entry.Entry.{Entry}
use Rattle.must_entry.specs.declared.entry.Entry.TheVariants.{Row, Message, Wave, Need}
use Rattle.must_entry.specs.declared.range.RankRange.{RankRange}
use Rattle.must_entry.specs.declared.batch.Batch.{Batch}
use Rattle.must_entry.specs.Entries.{message_of, messages, call_of, calls, entries_of}
use Rattle.must_entry.specs.Lawful.{IsLawful}
use Rattle.must_node.specs.Inner.{all_in, is_inner, inner, outer}
use Rattle.must_node.specs.ListLaws.{flat_push, all_front, has_front, filter_in, filter_out}

-- ---- messages

skip_message : (b : Bool) (e : Entry) (l : List Entry) → message_of e ≡ [] → messages (cond b (e ∷ l) l) ≡ messages l
skip_message true e l none = ap (λ (m : List MsgItem). m ++ messages l) none
skip_message false e l none = refl

take_message : (b : Bool) (x : MsgItem) (l : List Entry) → messages (cond b (Message x ∷ l) l) ≡ cond b (x ∷ messages l) (messages l)
take_message true x l = refl
take_message false x l = refl

-- the messages of what passes
pub messages_cut : (p : Entry → Bool) (entries : List Entry) → messages (filter p entries) ≡ filter (λ x. p (Message x)) (messages entries)
messages_cut p [] = refl
messages_cut p (Row f ∷ es) = skip_message (p (Row f)) (Row f) (filter p es) refl ∙ messages_cut p es
messages_cut p (Message x ∷ es) = take_message (p (Message x)) x (filter p es) ∙ ap (λ (m : List MsgItem). cond (p (Message x)) (x ∷ m) m) (messages_cut p es)
messages_cut p (Wave x ∷ es) = skip_message (p (Wave x)) (Wave x) (filter p es) refl ∙ messages_cut p es
messages_cut p (Need q ways ∷ es) = skip_message (p (Need q ways)) (Need q ways) (filter p es) refl ∙ messages_cut p es

-- leaving out entries keeps messages in order
pub messages_keep : (p : Entry → Bool) (entries : List Entry) → Orderly (messages entries) → Orderly (messages (filter p entries))
messages_keep p entries o = subst Orderly (sym (messages_cut p entries)) (orderly_filter (λ x. p (Message x)) (messages entries) o)

-- what is inner of lawful batches comes in order
pub lawful_order : (root : Bool) (range : RankRange) (batches : List Batch) → IsLawful range batches → Orderly (messages (inner root range (entries_of batches)))
lawful_order root range batches l = messages_keep (is_inner root range) (entries_of batches) l.messages

-- the inner entries of one batch more
pub inner_push : (root : Bool) (range : RankRange) (batches : List Batch) (b : Batch) → inner root range (entries_of (batches ++ b ∷ [])) ≡ inner root range (entries_of batches) ++ inner root range b.entries
inner_push root range batches b =
    ap (inner root range) (flat_push (λ (w : Batch). w.entries) batches b) ∙ filter-append (is_inner root range) (entries_of batches) b.entries

-- ---- collective calls

skip_calls : (b : Bool) (e : Entry) (l : List Entry) → call_of e ≡ [] → calls (cond b (e ∷ l) l) ≡ calls l
skip_calls true e l none = ap (λ (m : List WaveItem). m ++ calls l) none
skip_calls false e l none = refl

take_calls : (b : Bool) (x : WaveItem) (l : List Entry) → calls (cond b (Wave x ∷ l) l) ≡ cond b (x ∷ calls l) (calls l)
take_calls true x l = refl
take_calls false x l = refl

pub calls_cut : (p : Entry → Bool) (es : List Entry) → calls (filter p es) ≡ filter (λ x. p (Wave x)) (calls es)
calls_cut p [] = refl
calls_cut p (Row f ∷ es) = skip_calls (p (Row f)) (Row f) (filter p es) refl ∙ calls_cut p es
calls_cut p (Message x ∷ es) = skip_calls (p (Message x)) (Message x) (filter p es) refl ∙ calls_cut p es
calls_cut p (Wave x ∷ es) = take_calls (p (Wave x)) x (filter p es) ∙ ap (λ (m : List WaveItem). cond (p (Wave x)) (x ∷ m) m) (calls_cut p es)
calls_cut p (Need q ways ∷ es) = skip_calls (p (Need q ways)) (Need q ways) (filter p es) refl ∙ calls_cut p es

name_in : (name : Name) (m : ℕ) (x : WaveItem) → waves.is_of name m x ≡ true → name ≡ x.name
name_in name m x e = name_same name x.name (equal_from (name_cmp name x.name) (and_parts (is_eq (name_cmp name x.name)) (x.place.rank == m) e).0)

-- a cut between names keeps the calls in order
pub order_cut : (q : Name → Bool) (items : List WaveItem) → waves.Orderly items → waves.Orderly (filter (λ x. q x.name) items)
order_cut q items o = record {
  numbered = λ name rank k x e. elim (cases_Bool (q name)) [
    | inl pass ↦ o.numbered name rank k x (ap (λ (l : List WaveItem). slice_get l k) (sym (filter_in (λ y. q y.name) (waves.is_of name rank) items (λ y hit. ap q (sym (name_in name rank y hit)) ∙ pass))) ∙ e)
    | inr miss ↦ absurd (let n : None ≡ Some x = sym (ap (λ (l : List WaveItem). slice_get l k) (filter_out (λ y. q y.name) (waves.is_of name rank) items (λ y hit yes_y. let c : true ≡ false = sym yes_y ∙ ap q (sym (name_in name rank y hit)) ∙ miss in cc))) ∙ e in cc)
  ];
  members = all_filter (λ x. Has x.name.members x.place.rank) (λ x. q x.name) items o.members;
  named = λ x y h k. o.named x y ((has_filter (λ w. q w.name) items x).0 h).0 ((has_filter (λ w. q w.name) items y).0 k).0;
}

-- what is inner has its calls in order, where all have
pub calls_inner : (root : Bool) (range : RankRange) (entries : List Entry) → waves.Orderly (calls entries) → waves.Orderly (calls (inner root range entries))
calls_inner root range entries o = subst waves.Orderly (sym (calls_cut (is_inner root range) entries)) (order_cut (λ name. root || all_in range name.members) (calls entries) o)

-- and so has the rest
pub calls_outer : (root : Bool) (range : RankRange) (entries : List Entry) → waves.Orderly (calls entries) → waves.Orderly (calls (outer root range entries))
calls_outer root range entries o = subst waves.Orderly (sym (calls_cut (λ e. not (is_inner root range e)) entries)) (order_cut (λ name. not (root || all_in range name.members)) (calls entries) o)

-- what is inner of lawful batches has its calls in order
pub lawful_calls : (root : Bool) (range : RankRange) (batches : List Batch) → IsLawful range batches → waves.Orderly (calls (inner root range (entries_of batches)))
lawful_calls root range batches l = calls_inner root range (entries_of batches) l.numbered

-- a front of calls in order is in order
pub calls_front : (h zs : List WaveItem) → waves.Orderly (h ++ zs) → waves.Orderly h
calls_front h zs o = record {
  numbered = λ name rank k x e. o.numbered name rank k x (lane_keeps name rank h zs k x e);
  members = all_front (λ x. Has x.name.members x.place.rank) h zs o.members;
  named = λ x y p q. o.named x y (has_front h zs x p) (has_front h zs y q);
}
