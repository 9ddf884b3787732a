-- The rows and facts of all entries are those that the nodes of a level close with, and those of what they hand up.
use Rattle.std.proofs.Common.{◌≡◌, Bool, true, false, ◌||◌, ◌&&◌, not, List, [], ◌∷◌, ◌++◌, refl, sym, ap, subst, ◌∙◌, inl, inr, append_assoc}
use Rattle.std.specs.Prelude.{filter, ◌⊎◌, ◌↔◌}
use Rattle.std.specs.List.{AllByRecursion, flat_map}
use Rattle.std.proofs.lemmas.List.Elements.{filter-append}
use Rattle.std.proofs.lemmas.List.{append-nil}
use Rattle.must_base.specs.Listing.{Has}
use Rattle.must_find.specs.declared.finding.Finding.{Finding}
use Rattle.must_find.specs.Rearranged.{Rearranges, same, through, ahead, from_equal, still_has, flat_mapped, split}
use Rattle.must_group.specs.Names.{Name}
use Rattle.must_p2p.specs.declared.item.MsgItem.{MsgItem}
use Rattle.must_p2p.specs.Items.{Class, number}
use Rattle.must_p2p.specs.Matching.{IsMessageRow}
use Rattle.must_p2p.specs.SetLaws.{KeepsClasses, number_alike, number_cut, message_row_alike, has_filter, all_filter, rows_cut}
use Rattle.must_coll.specs.declared.item.WaveItem.{WaveItem}
use Rattle.must_coll.specs.Waves as waves
use Rattle.must_coll.specs.Rows.{IsWaveRow}
use Rattle.must_coll.specs.GrowthLaws.{wave_rows_either, wave_rows_cut}
use Rattle.must_coll.specs.OrderFree.{wave_row_alike}
use Rattle.must_entry.specs.declared.entry.Entry.{Entry}
use Rattle.must_entry.specs.declared.entry.Entry.TheVariants.{Row, Message, Wave, Need}
use Rattle.must_entry.specs.declared.range.RankRange.{RankRange}
use Rattle.must_entry.specs.Entries.{message_of, messages, call_of, calls}
use Rattle.must_entry.specs.Lawful.{in_range}
use Rattle.must_node.specs.declared.fact.Fact.{Fact}
use Rattle.must_node.specs.Inner.{all_in, within, is_inner, inner, outer}
use Rattle.must_node.specs.EntryRows.{IsPlainRow, IsRow}
use Rattle.must_node.specs.Facts.{message_fact, fact_among, facts_of}
use Rattle.must_node.specs.Levels.{Part, all_given, all_left, IsRowOfOne, all_facts, NoneWithin, AreApart}
use Rattle.must_node.specs.ListLaws.{flat_same, flat_append, none_pass, all_stay, all_join, all_weaker}
use Rattle.must_node.specs.OrderLaws.{messages_cut, calls_cut}

-- ---- in another order

pub plain_alike : {a b : List Entry} (f : Finding) → Rearranges a b → IsPlainRow a f → IsPlainRow b f
plain_alike f r (inl h) = inl (still_has (Row f) r h)
plain_alike f r (inr h) = inr (message_row_alike f (flat_mapped message_of r) h)

fact_alike : {a b : List Entry} (e : Entry) → Rearranges a b → fact_among (messages a) e ≡ fact_among (messages b) e
fact_alike (Row f) r = refl
fact_alike (Message x) r = ap (λ n. message_fact n x ∷ []) (number_alike x (flat_mapped message_of r))
fact_alike (Wave x) r = refl
fact_alike (Need p ways) r = refl

pub facts_alike : (a b : List Entry) → Rearranges a b → Rearranges (facts_of a) (facts_of b)
facts_alike a b r = through (flat_mapped (fact_among (messages a)) r) (from_equal (flat_map (fact_among (messages a)) b) (facts_of b) (flat_same (fact_among (messages a)) (fact_among (messages b)) b (λ e h. fact_alike e r)))

-- ---- along a cut

abbrev pub on_items : (Entry → Bool) → MsgItem → Bool
on_items p x = p (Message x)

local_either : (p : Entry → Bool) (entries : List Entry) (f : Finding) (b : Bool) → p (Row f) ≡ b → Has entries (Row f) → Has (filter p entries) (Row f) ⊎ Has (filter (λ e. not (p e)) entries) (Row f)
local_either p entries f true e h = inl ((has_filter p entries (Row f)).1 (h, e))
local_either p entries f false e h = inr ((has_filter (λ w. not (p w)) entries (Row f)).1 (h, ap not e))

pub plain_cut : (p : Entry → Bool) → KeepsClasses (on_items p) → (entries : List Entry) (f : Finding) → IsPlainRow entries f ↔ (IsPlainRow (filter p entries) f ⊎ IsPlainRow (filter (λ e. not (p e)) entries) f)
plain_cut p k entries f =
    let c = rows_cut (on_items p) k (messages entries) f in
    let yes = messages_cut p entries in
    let no = messages_cut (λ e. not (p e)) entries in (
      λ h. elim h [
        | inl there ↦ elim (local_either p entries f (p (Row f)) refl there) [ inl a ↦ inl (inl a) | inr a ↦ inr (inl a) ]
        | inr m ↦ elim (c.0 m) [
          | inl a ↦ inl (inr (subst (λ (l : List MsgItem). IsMessageRow l f) (sym yes) a))
          | inr a ↦ inr (inr (subst (λ (l : List MsgItem). IsMessageRow l f) (sym no) a))
        ]
      ],
      λ h. elim h [
        | inl r ↦ elim r [ inl a ↦ inl ((has_filter p entries (Row f)).0 a).0 | inr m ↦ inr (c.1 (inl (subst (λ (l : List MsgItem). IsMessageRow l f) yes m))) ]
        | inr r ↦ elim r [ inl a ↦ inl ((has_filter (λ e. not (p e)) entries (Row f)).0 a).0 | inr m ↦ inr (c.1 (inr (subst (λ (l : List MsgItem). IsMessageRow l f) no m))) ]
      ],
    )

fact_cut : (p : Entry → Bool) → KeepsClasses (on_items p) → (entries : List Entry) (e : Entry) → p e ≡ true → fact_among (messages entries) e ≡ fact_among (messages (filter p entries)) e
fact_cut p k entries (Row f) pe = refl
fact_cut p k entries (Message x) pe = ap (λ n. message_fact n x ∷ []) (sym (number_cut (on_items p) k x pe (messages entries)) ∙ ap (λ (l : List MsgItem). number l x) (sym (messages_cut p entries)))
fact_cut p k entries (Wave x) pe = refl
fact_cut p k entries (Need q ways) pe = refl

facts_in : (p : Entry → Bool) → KeepsClasses (on_items p) → (entries : List Entry) → flat_map (fact_among (messages entries)) (filter p entries) ≡ facts_of (filter p entries)
facts_in p k entries = flat_same (fact_among (messages entries)) (fact_among (messages (filter p entries))) (filter p entries) (λ e h. fact_cut p k entries e ((has_filter p entries e).0 h).1)

keeps_not : (p : Entry → Bool) → KeepsClasses (on_items p) → KeepsClasses (on_items (λ e. not (p e)))
keeps_not p k = λ x y e. ap not (k x y e)

pub facts_cut : (p : Entry → Bool) → KeepsClasses (on_items p) → (entries : List Entry) → Rearranges (facts_of entries) (facts_of (filter p entries) ++ facts_of (filter (λ e. not (p e)) entries))
facts_cut p k entries =
    let f = fact_among (messages entries) in
    let n = λ (e : Entry). not (p e) in
    through (flat_mapped f (split p entries)) (from_equal (flat_map f (filter p entries ++ filter n entries)) (facts_of (filter p entries) ++ facts_of (filter n entries))
    (flat_append f (filter p entries) (filter n entries) ∙ ap (λ (l : List Fact). l ++ flat_map f (filter n entries)) (facts_in p k entries) ∙ ap (λ (l : List Fact). facts_of (filter p entries) ++ l) (facts_in n (keeps_not p k) entries)))

-- ---- at a node

-- a node splits no class
pub inner_keeps : (root : Bool) (range : RankRange) → KeepsClasses (on_items (is_inner root range))
inner_keeps root range = λ x y e.
    ap (λ n. root || (in_range range n && in_range range x.dest)) (ap (λ (c : Class). c.source) e) ∙ ap (λ n. root || (in_range range y.source && in_range range n)) (ap (λ (c : Class). c.dest) e)

none_given : (range : RankRange) (parts : List Part) → AllByRecursion (λ part. NoneWithin range part.given) parts → NoneWithin range (all_given parts)
none_given range [] a = tt
none_given range (part ∷ parts) a = all_join (λ e. within range e ≡ false) part.given (all_given parts) a.0 (none_given range parts a.1)

-- what one node takes out of all
module _ (before : List Entry) (part : Part) (parts : List Part) (none : NoneWithin part.range before) (apart : AllByRecursion (λ other. NoneWithin other.range part.given × NoneWithin part.range other.given) parts) where
  after_none : NoneWithin part.range (all_given parts)
  after_none = none_given part.range parts (all_weaker (λ (other : Part). NoneWithin other.range part.given × NoneWithin part.range other.given) (λ (other : Part). NoneWithin part.range other.given) parts (λ other a. a.1) apart)

  pub taken : filter (is_inner false part.range) (before ++ (part.given ++ all_given parts)) ≡ inner false part.range part.given
  taken =
      let p = is_inner false part.range in
      filter-append p before (part.given ++ all_given parts) ∙ ap (λ (l : List Entry). l ++ filter p (part.given ++ all_given parts)) (none_pass p before none)
      ∙ filter-append p part.given (all_given parts) ∙ ap (λ (l : List Entry). filter p part.given ++ l) (none_pass p (all_given parts) after_none) ∙ append-nil (filter p part.given)

  pub left_there : filter (λ e. not (is_inner false part.range e)) (before ++ (part.given ++ all_given parts)) ≡ (before ++ outer false part.range part.given) ++ all_given parts
  left_there =
      let n = λ (e : Entry). not (is_inner false part.range e) in
      let p = is_inner false part.range in
      filter-append n before (part.given ++ all_given parts) ∙ ap (λ (l : List Entry). l ++ filter n (part.given ++ all_given parts)) (all_stay p before none)
      ∙ ap (λ (l : List Entry). before ++ l) (filter-append n part.given (all_given parts) ∙ ap (λ (l : List Entry). filter n part.given ++ l) (all_stay p (all_given parts) after_none))
      ∙ sym (append_assoc before (filter n part.given) (all_given parts))

-- none of what stands before is inner to a later part, also with what this part hands up
pub none_later : (before : List Entry) (part : Part) (parts : List Part) → AllByRecursion (λ other. NoneWithin other.range before) parts
    → AllByRecursion (λ other. NoneWithin other.range part.given × NoneWithin part.range other.given) parts → AllByRecursion (λ other. NoneWithin other.range (before ++ outer false part.range part.given)) parts
none_later before part [] none apart = tt
none_later before part (other ∷ others) none apart = (
  all_join (λ e. within other.range e ≡ false) before (outer false part.range part.given) none.0 (all_filter (λ e. within other.range e ≡ false) (λ e. not (is_inner false part.range e)) part.given apart.0.0),
  none_later before part others none.1 apart.1,
)

-- the rows of entries in another order; of those with waves the later ones come in order
pub row_alike : (a b : List Entry) (f : Finding) → waves.Orderly (calls b) → Rearranges a b → IsRow a f → IsRow b f
row_alike a b f o r (inl p) = inl (plain_alike f r p)
row_alike a b f o r (inr w) = inr (wave_row_alike (calls a) (calls b) f o (flat_mapped call_of r) w)

-- a node splits no name
inner_cut : (range : RankRange) (es : List Entry) (f : Finding) → IsRow es f ↔ (IsRow (filter (is_inner false range) es) f ⊎ IsRow (filter (λ e. not (is_inner false range e)) es) f)
inner_cut range es f =
    let p = is_inner false range in
    let q = λ (n : Name). all_in range n.members in
    let plain = plain_cut p (inner_keeps false range) es f in
    let in_there : calls (filter p es) ≡ filter (λ x. q x.name) (calls es) = calls_cut p es in
    let out_there : calls (filter (λ e. not (p e)) es) ≡ filter (λ x. not (q x.name)) (calls es) = calls_cut (λ e. not (p e)) es in (
      λ h. elim h [
        | inl r ↦ elim (plain.0 r) [ inl a ↦ inl (inl a) | inr a ↦ inr (inl a) ]
        | inr w ↦ elim (wave_rows_either q (calls es) f w) [
          | inl a ↦ inl (inr (subst (λ (l : List WaveItem). IsWaveRow l f) (sym in_there) a))
          | inr a ↦ inr (inr (subst (λ (l : List WaveItem). IsWaveRow l f) (sym out_there) a))
        ]
      ],
      λ h. elim h [
        | inl r ↦ elim r [ inl a ↦ inl (plain.1 (inl a)) | inr w ↦ inr (wave_rows_cut q (calls es) f (subst (λ (l : List WaveItem). IsWaveRow l f) in_there w)) ]
        | inr r ↦ elim r [ inl a ↦ inl (plain.1 (inr a)) | inr w ↦ inr (wave_rows_cut (λ n. not (q n)) (calls es) f (subst (λ (l : List WaveItem). IsWaveRow l f) out_there w)) ]
      ],
    )

row_change : (a b : List Entry) (f : Finding) → a ≡ b → IsRow a f → IsRow b f
row_change a b f e h = subst (λ (l : List Entry). IsRow l f) e h

rows_from : (before : List Entry) (parts : List Part) (f : Finding) → AllByRecursion (λ part. NoneWithin part.range before) parts → AreApart parts
    → IsRow (before ++ all_given parts) f ↔ (IsRowOfOne parts f ⊎ IsRow (before ++ all_left parts) f)
rows_from before [] f none apart = (λ h. inr h, λ h. elim h [ inl n ↦ absurd n | inr r ↦ r ])
rows_from before (part ∷ parts) f none apart =
    let e = before ++ (part.given ++ all_given parts) in
    let cut = inner_cut part.range e f in
    let t = taken before part parts none.0 apart.0 in
    let l = left_there before part parts none.0 apart.0 in
    let next = before ++ outer false part.range part.given in
    let rest = rows_from next parts f (none_later before part parts none.1 apart.0) apart.1 in
    let up : next ++ all_left parts ≡ before ++ all_left (part ∷ parts) = append_assoc before (outer false part.range part.given) (all_left parts) in (
      λ h. elim (cut.0 h) [
        | inl r ↦ inl (inl (subst (λ (w : List Entry). IsRow w f) t r))
        | inr r ↦ elim (rest.0 (subst (λ (w : List Entry). IsRow w f) l r)) [ inl one ↦ inl (inr one) | inr left ↦ inr (subst (λ (w : List Entry). IsRow w f) up left) ]
      ],
      λ h. elim h [
        | inl one ↦ elim one [
          | inl r ↦ cut.1 (inl (subst (λ (w : List Entry). IsRow w f) (sym t) r))
          | inr r ↦ cut.1 (inr (subst (λ (w : List Entry). IsRow w f) (sym l) (rest.1 (inl r))))
        ]
        | inr left ↦ cut.1 (inr (subst (λ (w : List Entry). IsRow w f) (sym l) (rest.1 (inr (subst (λ (w : List Entry). IsRow w f) (sym up) left)))))
      ],
    )

pub all_none : (parts : List Part) → AllByRecursion (λ part. NoneWithin part.range []) parts
all_none [] = tt
all_none (part ∷ parts) = (tt, all_none parts)

-- the rows of all entries are those that the nodes close with, and those of what they hand up
pub level_rows : (parts : List Part) (f : Finding) → AreApart parts → IsRow (all_given parts) f ↔ (IsRowOfOne parts f ⊎ IsRow (all_left parts) f)
level_rows parts f apart = rows_from [] parts f (all_none parts) apart

facts_from : (before : List Entry) (parts : List Part) → AllByRecursion (λ part. NoneWithin part.range before) parts → AreApart parts
    → Rearranges (facts_of (before ++ all_given parts)) (all_facts parts ++ facts_of (before ++ all_left parts))
facts_from before [] none apart = same (facts_of (before ++ []))
facts_from before (part ∷ parts) none apart =
    let e = before ++ (part.given ++ all_given parts) in
    let p = is_inner false part.range in
    let t = taken before part parts none.0 apart.0 in
    let l = left_there before part parts none.0 apart.0 in
    let next = before ++ outer false part.range part.given in
    let mine = facts_of (inner false part.range part.given) in
    let rest = facts_from next parts (none_later before part parts none.1 apart.0) apart.1 in
    let up : next ++ all_left parts ≡ before ++ all_left (part ∷ parts) = append_assoc before (outer false part.range part.given) (all_left parts) in
    through (facts_cut p (inner_keeps false part.range) e)
    (through (from_equal (facts_of (filter p e) ++ facts_of (filter (λ w. not (p w)) e)) (mine ++ facts_of (next ++ all_given parts))
    (ap (λ (w : List Entry). facts_of w ++ facts_of (filter (λ v. not (p v)) e)) t ∙ ap (λ (w : List Entry). mine ++ facts_of w) l))
    (through (ahead mine rest) (from_equal (mine ++ (all_facts parts ++ facts_of (next ++ all_left parts))) ((mine ++ all_facts parts) ++ facts_of (before ++ all_left (part ∷ parts)))
    (sym (append_assoc mine (all_facts parts) (facts_of (next ++ all_left parts))) ∙ ap (λ (w : List Entry). (mine ++ all_facts parts) ++ facts_of w) up))))

-- and so are their facts
pub level_facts : (parts : List Part) → AreApart parts → Rearranges (facts_of (all_given parts)) (all_facts parts ++ facts_of (all_left parts))
level_facts parts apart = facts_from [] parts (all_none parts) apart
