-- What one entry more at the end changes.
use Rattle.std.proofs.Common.{◌≡◌, List, [], ◌∷◌, ◌++◌, refl, sym, ap, subst, ◌∙◌, inl, inr}
use Rattle.std.specs.Prelude.{◌⊎◌, ◌↔◌}
use Rattle.std.proofs.lemmas.List.{append-nil}
use Rattle.must_call.specs.declared.place.Place.{Place}
use Rattle.must_base.specs.Listing.{Has}
use Rattle.must_find.specs.declared.finding.Finding.{Finding}
use Rattle.must_p2p.specs.declared.item.MsgItem.{MsgItem}
use Rattle.must_p2p.specs.Items.{number, Orderly}
use Rattle.must_p2p.specs.Matching.{IsMatchRow, IsRowOf}
use Rattle.must_p2p.specs.GrowthLaws.{number_keeps, match_rows_push}
use Rattle.must_coll.specs.declared.item.WaveItem.{WaveItem}
use Rattle.must_entry.specs.declared.want.Want.{Want}
use Rattle.must_entry.specs.declared.entry.Entry.{Entry}
use Rattle.must_entry.specs.declared.entry.Entry.TheVariants.{Row, Message, Wave, Need}
use Rattle.must_entry.specs.Entries.{message_of, messages, call_of, calls}
use Rattle.must_node.specs.declared.fact.Fact.{Fact}
use Rattle.must_node.specs.EntryRows.{IsEarlyRow}
use Rattle.must_node.specs.Facts.{message_fact, fact_among, facts_of}
use Rattle.must_node.specs.ListLaws.{flat_push, flat_same, has_push, has_behind, has_front}

pub has_message : (g : List Entry) (x : MsgItem) → Has g (Message x) → Has (messages g) x
has_message [] x h = absurd h
has_message (e ∷ es) x (inl is) = has_front (message_of e) (messages es) x (subst (λ (w : Entry). Has (message_of w) x) is (inl refl))
has_message (e ∷ es) x (inr h) = has_behind (message_of e) (messages es) x (has_message es x h)

pub messages_push : (g : List Entry) (e : Entry) → messages (g ++ e ∷ []) ≡ messages g ++ message_of e
messages_push g e = flat_push message_of g e

number_still : (h : List MsgItem) (e : Entry) (y : MsgItem) → Orderly (h ++ message_of e) → Has h y → number (h ++ message_of e) y ≡ number h y
number_still h (Row f) y o there = ap (λ (l : List MsgItem). number l y) (append-nil h)
number_still h (Message x) y o there = number_keeps h x y o there
number_still h (Wave x) y o there = ap (λ (l : List MsgItem). number l y) (append-nil h)
number_still h (Need place ways) y o there = ap (λ (l : List MsgItem). number l y) (append-nil h)

fact_still : (g : List Entry) (e w : Entry) → Orderly (messages (g ++ e ∷ [])) → Has g w → fact_among (messages (g ++ e ∷ [])) w ≡ fact_among (messages g) w
fact_still g e (Row f) o there = refl
fact_still g e (Message y) o there =
    ap (λ n. message_fact n y ∷ []) (ap (λ (l : List MsgItem). number l y) (messages_push g e) ∙ number_still (messages g) e y (subst Orderly (messages_push g e) o) (has_message g y there))
fact_still g e (Wave x) o there = refl
fact_still g e (Need place ways) o there = refl

-- the facts of one entry more
pub facts_push : (g : List Entry) (e : Entry) → Orderly (messages (g ++ e ∷ [])) → facts_of (g ++ e ∷ []) ≡ facts_of g ++ fact_among (messages (g ++ e ∷ [])) e
facts_push g e o =
    let m = messages (g ++ e ∷ []) in
    flat_push (fact_among m) g e ∙ ap (λ (l : List Fact). l ++ fact_among m e) (flat_same (fact_among m) (fact_among (messages g)) g (λ w there. fact_still g e w o there))

row_is : (f g : Finding) → Row f ≡ Row g → f ≡ g
row_is f g e = cc

-- the rows of one entry more, before the end
pub row_push : (g : List Entry) (finding f : Finding) → IsEarlyRow (g ++ Row finding ∷ []) f ↔ ((f ≡ finding) ⊎ IsEarlyRow g f)
row_push g finding f =
    let same : messages (g ++ Row finding ∷ []) ≡ messages g = messages_push g (Row finding) ∙ append-nil (messages g) in (
      λ h. elim h [
        | inl there ↦ elim ((has_push g (Row finding) (Row f)).0 there) [ inl t ↦ inr (inl t) | inr e ↦ inl (row_is f finding e) ]
        | inr m ↦ inr (inr (subst (λ (l : List MsgItem). IsMatchRow l f) same m))
      ],
      λ h. elim h [
        | inl e ↦ inl ((has_push g (Row finding) (Row f)).1 (inr (ap Row e)))
        | inr r ↦ elim r [ inl t ↦ inl ((has_push g (Row finding) (Row f)).1 (inl t)) | inr m ↦ inr (subst (λ (l : List MsgItem). IsMatchRow l f) (sym same) m) ]
      ],
    )

row_is_message : (f : Finding) (x : MsgItem) → Row f ≡ Message x → ⊥
row_is_message f x e = cc

pub message_push : (g : List Entry) (x : MsgItem) (f : Finding) → Orderly (messages g ++ x ∷ []) → IsEarlyRow (g ++ Message x ∷ []) f ↔ (IsEarlyRow g f ⊎ IsRowOf (messages g ++ x ∷ []) x f)
message_push g x f o =
    let same : messages (g ++ Message x ∷ []) ≡ messages g ++ x ∷ [] = messages_push g (Message x) in
    let push = match_rows_push (messages g) x f o in (
      λ h. elim h [
        | inl there ↦ elim ((has_push g (Message x) (Row f)).0 there) [ inl t ↦ inl (inl t) | inr e ↦ absurd (row_is_message f x e) ]
        | inr m ↦ elim (push.0 (subst (λ (l : List MsgItem). IsMatchRow l f) same m)) [ inl t ↦ inl (inr t) | inr r ↦ inr r ]
      ],
      λ h. elim h [
        | inl r ↦ elim r [ inl t ↦ inl ((has_push g (Message x) (Row f)).1 (inl t)) | inr m ↦ inr (subst (λ (l : List MsgItem). IsMatchRow l f) (sym same) (push.1 (inl m))) ]
        | inr r ↦ inr (subst (λ (l : List MsgItem). IsMatchRow l f) (sym same) (push.1 (inr r)))
      ],
    )

not_wave : (f : Finding) (x : WaveItem) → Row f ≡ Wave x → ⊥
not_wave f x e = cc

pub wave_push : (g : List Entry) (x : WaveItem) (f : Finding) → IsEarlyRow (g ++ Wave x ∷ []) f ↔ IsEarlyRow g f
wave_push g x f =
    let same : messages (g ++ Wave x ∷ []) ≡ messages g = messages_push g (Wave x) ∙ append-nil (messages g) in (
      λ h. elim h [
        | inl there ↦ elim ((has_push g (Wave x) (Row f)).0 there) [ inl t ↦ inl t | inr e ↦ absurd (not_wave f x e) ]
        | inr m ↦ inr (subst (λ (l : List MsgItem). IsMatchRow l f) same m)
      ],
      λ h. elim h [
        | inl t ↦ inl ((has_push g (Wave x) (Row f)).1 (inl t))
        | inr m ↦ inr (subst (λ (l : List MsgItem). IsMatchRow l f) (sym same) m)
      ],
    )

pub calls_push : (g : List Entry) (e : Entry) → calls (g ++ e ∷ []) ≡ calls g ++ call_of e
calls_push g e = flat_push call_of g e

not_need : (f : Finding) (p : Place) (ways : List (List Want)) → Row f ≡ Need p ways → ⊥
not_need f p ways e = cc

pub need_push : (g : List Entry) (p : Place) (ways : List (List Want)) (f : Finding) → IsEarlyRow (g ++ Need p ways ∷ []) f ↔ IsEarlyRow g f
need_push g p ways f =
    let same : messages (g ++ Need p ways ∷ []) ≡ messages g = messages_push g (Need p ways) ∙ append-nil (messages g) in (
      λ h. elim h [
        | inl there ↦ elim ((has_push g (Need p ways) (Row f)).0 there) [ inl t ↦ inl t | inr e ↦ absurd (not_need f p ways e) ]
        | inr m ↦ inr (subst (λ (l : List MsgItem). IsMatchRow l f) same m)
      ],
      λ h. elim h [
        | inl t ↦ inl ((has_push g (Need p ways) (Row f)).1 (inl t))
        | inr m ↦ inr (subst (λ (l : List MsgItem). IsMatchRow l f) (sym same) m)
      ],
    )
