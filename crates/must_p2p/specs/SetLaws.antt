-- Matches and rows don't depend on the order of the items, and fall apart along any cut that splits no class.
use Rattle.std.proofs.Common.{◌≡◌, Bool, true, false, cond, ◌&&◌, not, List, [], ◌∷◌, length, refl, sym, ap, ◌∙◌, inl, inr}
use Rattle.std.specs.Prelude.{filter, ◌⊎◌, ◌↔◌}
use Rattle.std.proofs.lemmas.Bool.{and_parts}
use Rattle.must_base.specs.Listing.{Has}
use Rattle.must_find.specs.declared.finding.Finding.{Finding}
use Rattle.must_p2p.specs.declared.item.MsgItem.{MsgItem}
use Rattle.std.specs.List.{AllByRecursion}
use Rattle.std.specs.declared.cmp.Ordering.TheVariants.{Less}
use Rattle.must_p2p.specs.Items.{class_of, spot_cmp, is_earlier, counted, in_lane, number, IsPlaced, InOrder, Orderly}
use Rattle.must_p2p.specs.Matching.{IsMatch, IsOneOf, IsMatchRow, IsLoneRow, IsMessageRow}
use Rattle.must_find.specs.Rearranged.{Rearranges, back, filtered, as_long, still_has}
use Rattle.must_p2p.specs.ClassLaws.{in_lane_is}

-- ---- in another order

pub number_alike : {a b : List MsgItem} (x : MsgItem) → Rearranges a b → number a x ≡ number b x
number_alike x r = as_long (filtered (λ y. in_lane (class_of x) (counted x.side) y && is_earlier y x) r)

pub match_alike : {a b : List MsgItem} (s r : MsgItem) → Rearranges a b → IsMatch a s r → IsMatch b s r
match_alike s r m is = record { send_there = still_has s m is.send_there; receive_there = still_has r m is.receive_there; sends = is.sends; receives = is.receives; one_class = is.one_class; one_number = sym (number_alike s m) ∙ is.one_number ∙ number_alike r m }

pub match_row_alike : {a b : List MsgItem} (f : Finding) → Rearranges a b → IsMatchRow a f → IsMatchRow b f
match_row_alike f m row = record { send = row.send; receive = row.receive; is_match = match_alike row.send row.receive m row.is_match; gives = row.gives }

pub lone_row_alike : {a b : List MsgItem} (f : Finding) → Rearranges a b → IsLoneRow a f → IsLoneRow b f
lone_row_alike f m row = record { item = row.item; there = still_has row.item m row.there; is_lone = λ s r is one. row.is_lone s r (match_alike s r (back m) is) one; gives = row.gives }

pub message_row_alike : {a b : List MsgItem} (f : Finding) → Rearranges a b → IsMessageRow a f → IsMessageRow b f
message_row_alike f m (inl row) = inl (match_row_alike f m row)
message_row_alike f m (inr row) = inr (lone_row_alike f m row)

-- ---- along a cut

-- the cut splits no class
abbrev pub KeepsClasses : (MsgItem → Bool) → Type 0
KeepsClasses p = (x y : MsgItem) → class_of x ≡ class_of y → p x ≡ p y

keeps_other : (p : MsgItem → Bool) → KeepsClasses p → KeepsClasses (λ x. not (p x))
keeps_other p k = λ x y e. ap not (k x y e)

in_filter : {X : Type 0} (p : X → Bool) (b : Bool) (y : X) (l ys : List X) (x : X) → p y ≡ b → (Has l x ↔ (Has ys x × (p x ≡ true))) → Has (cond b (y ∷ l) l) x ↔ (Has (y ∷ ys) x × (p x ≡ true))
in_filter p true y l ys x e rest = (
  λ h. elim h [ inl is ↦ (inl is, ap p is ∙ e) | inr t ↦ let r = rest.0 t in (inr r.0, r.1) ],
  λ h. elim h.0 [ inl is ↦ inl is | inr t ↦ inr (rest.1 (t, h.1)) ],
)
in_filter p false y l ys x e rest = (
  λ h. let r = rest.0 h in (inr r.0, r.1),
  λ h. elim h.0 [ inl is ↦ absurd (let n : true ≡ false = sym h.1 ∙ ap p is ∙ e in cc) | inr t ↦ rest.1 (t, h.1) ],
)

pub has_filter : {X : Type 0} (p : X → Bool) (xs : List X) (x : X) → Has (filter p xs) x ↔ (Has xs x × (p x ≡ true))
has_filter p [] x = (λ h. absurd h, λ h. absurd h.0)
has_filter p (y ∷ ys) x = in_filter p (p y) y (filter p ys) ys x refl (has_filter p ys x)

one_all : {X : Type 0} (P : X → Type 0) (b : Bool) (y : X) (l : List X) → P y → AllByRecursion P l → AllByRecursion P (cond b (y ∷ l) l)
one_all P true y l a rest = (a, rest)
one_all P false y l a rest = rest

pub all_filter : {X : Type 0} (P : X → Type 0) (p : X → Bool) (xs : List X) → AllByRecursion P xs → AllByRecursion P (filter p xs)
all_filter P p [] a = tt
all_filter P p (y ∷ ys) a = one_all P (p y) y (filter p ys) a.0 (all_filter P p ys a.1)

one_order : (b : Bool) (x : MsgItem) (l : List MsgItem) → AllByRecursion (λ y. x.place.rank ≡ y.place.rank → spot_cmp x y ≡ Less) l → InOrder l → InOrder (cond b (x ∷ l) l)
one_order true x l a rest = (a, rest)
one_order false x l a rest = rest

order_filter : (p : MsgItem → Bool) (xs : List MsgItem) → InOrder xs → InOrder (filter p xs)
order_filter p [] o = tt
order_filter p (x ∷ xs) o = one_order (p x) x (filter p xs) (all_filter (λ y. x.place.rank ≡ y.place.rank → spot_cmp x y ≡ Less) p xs o.0) (order_filter p xs o.1)

-- what passes a test is in order
pub orderly_filter : (p : MsgItem → Bool) (items : List MsgItem) → Orderly items → Orderly (filter p items)
orderly_filter p items o = record {
  placed = all_filter IsPlaced p items o.placed;
  rising = order_filter p items o.rising;
  named = λ x y h k. o.named x y ((has_filter p items x).0 h).0 ((has_filter p items y).0 k).0;
}

abbrev counts : MsgItem → MsgItem → Bool
counts x y = in_lane (class_of x) (counted x.side) y && is_earlier y x

counts_class : (x y : MsgItem) → counts x y ≡ true → class_of x ≡ class_of y
counts_class x y e = (in_lane_is (class_of x) (counted x.side) y (and_parts (in_lane (class_of x) (counted x.side) y) (is_earlier y x) e).0).1

counted_one : (p : MsgItem → Bool) → KeepsClasses p → (x : MsgItem) → p x ≡ true → (y : MsgItem) (b c : Bool) → p y ≡ b → counts x y ≡ c → (l ys : List MsgItem) → filter (counts x) l ≡ filter (counts x) ys
    → filter (counts x) (cond b (y ∷ l) l) ≡ cond c (y ∷ filter (counts x) ys) (filter (counts x) ys)
counted_one p k x px y true true e c l ys rest = ap (λ d. cond d (y ∷ filter (counts x) l) (filter (counts x) l)) c ∙ ap (λ (m : List MsgItem). y ∷ m) rest
counted_one p k x px y true false e c l ys rest = ap (λ d. cond d (y ∷ filter (counts x) l) (filter (counts x) l)) c ∙ rest
counted_one p k x px y false true e c l ys rest = absurd (let n : true ≡ false = sym px ∙ k x y (counts_class x y c) ∙ e in cc)
counted_one p k x px y false false e c l ys rest = rest

same_counted : (p : MsgItem → Bool) → KeepsClasses p → (x : MsgItem) → p x ≡ true → (items : List MsgItem) → filter (counts x) (filter p items) ≡ filter (counts x) items
same_counted p k x px [] = refl
same_counted p k x px (y ∷ ys) = counted_one p k x px y (p y) (counts x y) refl refl (filter p ys) ys (same_counted p k x px ys)

-- the numbers of what passes
pub number_cut : (p : MsgItem → Bool) → KeepsClasses p → (x : MsgItem) → p x ≡ true → (items : List MsgItem) → number (filter p items) x ≡ number items x
number_cut p k x px items = ap length (same_counted p k x px items)

pub match_cut : (p : MsgItem → Bool) → KeepsClasses p → (items : List MsgItem) (s r : MsgItem) → IsMatch (filter p items) s r ↔ (IsMatch items s r × (p s ≡ true))
match_cut p k items s r = (
  λ m.
      let a = (has_filter p items s).0 m.send_there in
      let b = (has_filter p items r).0 m.receive_there in
      (record { send_there = a.0; receive_there = b.0; sends = m.sends; receives = m.receives; one_class = m.one_class; one_number = sym (number_cut p k s a.1 items) ∙ m.one_number ∙ number_cut p k r b.1 items }, a.1),
  λ h.
      let m = h.0 in
      let pr = sym (k s r m.one_class) ∙ h.1 in
      record { send_there = (has_filter p items s).1 (m.send_there, h.1); receive_there = (has_filter p items r).1 (m.receive_there, pr); sends = m.sends; receives = m.receives; one_class = m.one_class; one_number = number_cut p k s h.1 items ∙ m.one_number ∙ sym (number_cut p k r pr items) },
)

pub match_row_cut : (p : MsgItem → Bool) → KeepsClasses p → (items : List MsgItem) (f : Finding) → IsMatchRow (filter p items) f → IsMatchRow items f
match_row_cut p k items f row = record { send = row.send; receive = row.receive; is_match = ((match_cut p k items row.send row.receive).0 row.is_match).0; gives = row.gives }

one_passes : (p : MsgItem → Bool) → KeepsClasses p → (items : List MsgItem) (s r x : MsgItem) → IsMatch items s r → IsOneOf x s r → p s ≡ p x
one_passes p k items s r x m (inl e) = ap p (sym e)
one_passes p k items s r x m (inr e) = k s r m.one_class ∙ ap p (sym e)

pub lone_row_cut : (p : MsgItem → Bool) → KeepsClasses p → (items : List MsgItem) (f : Finding) → IsLoneRow (filter p items) f → IsLoneRow items f
lone_row_cut p k items f row =
    let a = (has_filter p items row.item).0 row.there in
    record { item = row.item; there = a.0; is_lone = λ s r m one. row.is_lone s r ((match_cut p k items s r).1 (m, one_passes p k items s r row.item m one ∙ a.1)) one; gives = row.gives }

pub message_row_cut : (p : MsgItem → Bool) → KeepsClasses p → (items : List MsgItem) (f : Finding) → IsMessageRow (filter p items) f → IsMessageRow items f
message_row_cut p k items f (inl row) = inl (match_row_cut p k items f row)
message_row_cut p k items f (inr row) = inr (lone_row_cut p k items f row)

match_row_in : (p : MsgItem → Bool) → KeepsClasses p → (items : List MsgItem) (f : Finding) (row : IsMatchRow items f) → p row.send ≡ true → IsMatchRow (filter p items) f
match_row_in p k items f row e = record { send = row.send; receive = row.receive; is_match = (match_cut p k items row.send row.receive).1 (row.is_match, e); gives = row.gives }

lone_row_in : (p : MsgItem → Bool) → KeepsClasses p → (items : List MsgItem) (f : Finding) (row : IsLoneRow items f) → p row.item ≡ true → IsLoneRow (filter p items) f
lone_row_in p k items f row e = record { item = row.item; there = (has_filter p items row.item).1 (row.there, e); is_lone = λ s r m one. row.is_lone s r ((match_cut p k items s r).0 m).0 one; gives = row.gives }

match_row_either : (p : MsgItem → Bool) → KeepsClasses p → (items : List MsgItem) (f : Finding) (row : IsMatchRow items f) (b : Bool) → p row.send ≡ b → IsMessageRow (filter p items) f ⊎ IsMessageRow (filter (λ x. not (p x)) items) f
match_row_either p k items f row true e = inl (inl (match_row_in p k items f row e))
match_row_either p k items f row false e = inr (inl (match_row_in (λ x. not (p x)) (keeps_other p k) items f row (ap not e)))

lone_row_either : (p : MsgItem → Bool) → KeepsClasses p → (items : List MsgItem) (f : Finding) (row : IsLoneRow items f) (b : Bool) → p row.item ≡ b → IsMessageRow (filter p items) f ⊎ IsMessageRow (filter (λ x. not (p x)) items) f
lone_row_either p k items f row true e = inl (inr (lone_row_in p k items f row e))
lone_row_either p k items f row false e = inr (inr (lone_row_in (λ x. not (p x)) (keeps_other p k) items f row (ap not e)))

-- the rows are those of what passes and those of the rest
pub rows_cut : (p : MsgItem → Bool) → KeepsClasses p → (items : List MsgItem) (f : Finding) → IsMessageRow items f ↔ (IsMessageRow (filter p items) f ⊎ IsMessageRow (filter (λ x. not (p x)) items) f)
rows_cut p k items f = (
  λ h. elim h [ inl row ↦ match_row_either p k items f row (p row.send) refl | inr row ↦ lone_row_either p k items f row (p row.item) refl ],
  λ h. elim h [ inl row ↦ message_row_cut p k items f row | inr row ↦ message_row_cut (λ x. not (p x)) (keeps_other p k) items f row ],
)

pub match_alike_both : (a b : List MsgItem) (s r : MsgItem) → Rearranges a b → IsMatch a s r ↔ IsMatch b s r
match_alike_both a b s r m = (match_alike s r m, match_alike s r (back m))

pub message_row_alike_both : (a b : List MsgItem) (f : Finding) → Rearranges a b → IsMessageRow a f ↔ IsMessageRow b f
message_row_alike_both a b f m = (message_row_alike f m, message_row_alike f (back m))
