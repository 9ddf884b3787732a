-- What one item more at the end changes: its own match comes, and nothing else.
use Rattle.std.proofs.Common.{◌≡◌, ℕ, zero, suc, Bool, true, false, cond, ◌&&◌, List, [], ◌∷◌, ◌++◌, length, Some, Less, refl, sym, ap, subst, ◌∙◌, inl, inr}
use Rattle.std.specs.Prelude.{slice_get, filter, ◌⊎◌, ◌↔◌}
use Rattle.std.specs.Ordering.{is_lt, ordering_reverse}
use Rattle.std.proofs.lemmas.List.Elements.{filter-append}
use Rattle.std.proofs.lemmas.List.{append-nil}
use Rattle.std.proofs.lemmas.Bool.{and_left, and_right}
use Rattle.must_base.specs.Listing.{Has}
use Rattle.must_base.specs.ListingLaws.{all_has}
use Rattle.must_find.specs.declared.finding.Finding.{Finding}
use Rattle.must_p2p.specs.declared.side.Side.{Side}
use Rattle.must_p2p.specs.declared.side.Side.TheVariants.{Send, Receive, Probe}
use Rattle.must_p2p.specs.declared.item.MsgItem.{MsgItem}
use Rattle.must_p2p.specs.Items.{Class, class_of, is_earlier, spot_cmp, counted, in_lane, lane, number, end_of, IsPlaced, InOrder, Orderly}
use Rattle.must_p2p.specs.Matching.{IsMatch, IsOneOf, IsMatchRow, IsRowOf}
use Rattle.must_p2p.specs.LaneLaws.{get_before, none_is, some_is, has_before, has_last}
use Rattle.must_p2p.specs.ClassLaws.{in_lane_is, spot_total, earlier_itself, orderly_front}
use Rattle.must_p2p.specs.MatchLaws.{pair_matches, send_place, receive_place}

has_at : {X : Type 0} (xs : List X) (n : ℕ) (y : X) → slice_get xs n ≡ Some y → Has xs y
has_at [] n y e = absurd (none_is y e)
has_at (x ∷ xs) zero y e = inl (sym (some_is x y e))
has_at (x ∷ xs) (suc n) y e = inr (has_at xs n y e)

get_either : {X : Type 0} (xs ys : List X) (n : ℕ) (y : X) → slice_get (xs ++ ys) n ≡ Some y → (slice_get xs n ≡ Some y) ⊎ Has ys y
get_either [] ys n y e = inr (has_at ys n y e)
get_either (x ∷ xs) ys zero y e = inl e
get_either (x ∷ xs) ys (suc n) y e = get_either xs ys n y e

one_of_one : {X : Type 0} (b : Bool) (x y : X) → Has (cond b (x ∷ []) []) y → y ≡ x
one_of_one true x y (inl e) = e
one_of_one true x y (inr h) = absurd h
one_of_one false x y h = absurd h

lane_either : (c : Class) (side : Side) (h : List MsgItem) (x : MsgItem) (n : ℕ) (y : MsgItem) → slice_get (lane c side (h ++ x ∷ [])) n ≡ Some y → (slice_get (lane c side h) n ≡ Some y) ⊎ (y ≡ x)
lane_either c side h x n y e =
    elim (get_either (lane c side h) (lane c side (x ∷ [])) n y (ap (λ (l : List MsgItem). slice_get l n) (sym (filter-append (in_lane c side) h (x ∷ []))) ∙ e)) [
      | inl there ↦ inl there
      | inr last ↦ inr (one_of_one (in_lane c side x) x y last)
    ]

lane_keeps : (c : Class) (side : Side) (h zs : List MsgItem) (n : ℕ) (y : MsgItem) → slice_get (lane c side h) n ≡ Some y → slice_get (lane c side (h ++ zs)) n ≡ Some y
lane_keeps c side h zs n y e = ap (λ (l : List MsgItem). slice_get l n) (filter-append (in_lane c side) h zs) ∙ get_before (lane c side h) (lane c side zs) n y e

-- a match stays
pub match_keeps : (h zs : List MsgItem) (s r : MsgItem) → Orderly (h ++ zs) → IsMatch h s r → IsMatch (h ++ zs) s r
match_keeps h zs s r o m =
    let f = orderly_front h zs o in
    let n = number h s in
    pair_matches (class_of s) (h ++ zs) n s r o (lane_keeps (class_of s) Send h zs n s (send_place h s r f m)) (lane_keeps (class_of s) Receive h zs n r (receive_place h s r f m))

-- and a new one has the last item
pub match_either : (h : List MsgItem) (x s r : MsgItem) → Orderly (h ++ x ∷ []) → IsMatch (h ++ x ∷ []) s r → IsMatch h s r ⊎ IsOneOf x s r
match_either h x s r o m =
    let n = number (h ++ x ∷ []) s in
    elim (lane_either (class_of s) Send h x n s (send_place (h ++ x ∷ []) s r o m)) [
      | inr e ↦ inr (inl (sym e))
      | inl p ↦ elim (lane_either (class_of s) Receive h x n r (receive_place (h ++ x ∷ []) s r o m)) [
        | inr e ↦ inr (inr (sym e))
        | inl q ↦ inl (pair_matches (class_of s) h n s r (orderly_front h (x ∷ []) o) p q)
      ]
    ]

-- the rows M1 and M2 of one item more
pub match_rows_push : (h : List MsgItem) (x : MsgItem) (f : Finding) → Orderly (h ++ x ∷ []) → IsMatchRow (h ++ x ∷ []) f ↔ (IsMatchRow h f ⊎ IsRowOf (h ++ x ∷ []) x f)
match_rows_push h x f o = (
  λ row. elim (match_either h x row.send row.receive o row.is_match) [
    | inl m ↦ inl (record { send = row.send; receive = row.receive; is_match = m; gives = row.gives })
    | inr one ↦ inr (record { send = row.send; receive = row.receive; is_match = row.is_match; is_one = one; gives = row.gives })
  ],
  λ rows. elim rows [
    | inl row ↦ record { send = row.send; receive = row.receive; is_match = match_keeps h (x ∷ []) row.send row.receive o row.is_match; gives = row.gives }
    | inr row ↦ record { send = row.send; receive = row.receive; is_match = row.is_match; gives = row.gives }
  ],
)

order_last : (h : List MsgItem) (x y : MsgItem) → InOrder (h ++ x ∷ []) → Has h y → y.place.rank ≡ x.place.rank → spot_cmp y x ≡ Less
order_last [] x y o h e = absurd h
order_last (z ∷ zs) x y o (inl is) e =
    subst (λ (w : MsgItem). w.place.rank ≡ x.place.rank → spot_cmp w x ≡ Less) (sym is) (all_has (λ w. z.place.rank ≡ w.place.rank → spot_cmp z w ≡ Less) (zs ++ x ∷ []) x o.0 (has_last zs x)) e
order_last (z ∷ zs) x y o (inr h) e = order_last zs x y o.1 h e

end_counted : (x : MsgItem) (t : Side) → end_of x t ≡ end_of x (counted t)
end_counted x Send = refl
end_counted x Receive = refl
end_counted x Probe = refl

-- what the number of x counts stands at the rank of x
ranks_meet : (x y : MsgItem) (t : Side) → x.side ≡ t → y.side ≡ counted t → class_of x ≡ class_of y → IsPlaced x → IsPlaced y → y.place.rank ≡ x.place.rank
ranks_meet x y Send s t c px py = py ∙ ap (end_of y) t ∙ sym (ap (λ (k : Class). k.source) c) ∙ sym (ap (end_of x) s) ∙ sym px
ranks_meet x y Receive s t c px py = py ∙ ap (end_of y) t ∙ sym (ap (λ (k : Class). k.dest) c) ∙ sym (ap (end_of x) s) ∙ sym px
ranks_meet x y Probe s t c px py = py ∙ ap (end_of y) t ∙ sym (ap (λ (k : Class). k.dest) c) ∙ sym (ap (end_of x) s) ∙ sym px

abbrev counts : MsgItem → MsgItem → Bool
counts x y = in_lane (class_of x) (counted x.side) y && is_earlier y x

not_earlier : (h : List MsgItem) (x y : MsgItem) (b : Bool) → in_lane (class_of y) (counted y.side) x ≡ b → Orderly (h ++ x ∷ []) → Has h y → counts y x ≡ false
not_earlier h x y false e o there = and_left (in_lane (class_of y) (counted y.side) x) (is_earlier x y) e
not_earlier h x y true e o there =
    let i = in_lane_is (class_of y) (counted y.side) x e in
    let px = all_has IsPlaced (h ++ x ∷ []) x o.placed (has_last h x) in
    let py = all_has IsPlaced (h ++ x ∷ []) y o.placed (has_before h (x ∷ []) y there) in
    let less = order_last h x y o.rising there (sym (ranks_meet y x y.side refl i.0 i.1 py px)) in
    and_right (in_lane (class_of y) (counted y.side) x) (is_earlier x y) (ap is_lt (spot_total.antisymm x y ∙ ap ordering_reverse less))

-- the number of an item stays
pub number_keeps : (h : List MsgItem) (x y : MsgItem) → Orderly (h ++ x ∷ []) → Has h y → number (h ++ x ∷ []) y ≡ number h y
number_keeps h x y o there =
    ap length (filter-append (counts y) h (x ∷ []) ∙ ap (λ b. filter (counts y) h ++ cond b (x ∷ []) []) (not_earlier h x y (in_lane (class_of y) (counted y.side) x) refl o there) ∙ append-nil (filter (counts y) h))

pub filter_same : {X : Type 0} (p q : X → Bool) (xs : List X) → ((x : X) → Has xs x → p x ≡ q x) → filter p xs ≡ filter q xs
filter_same p q [] same = refl
filter_same p q (x ∷ xs) same = ap (λ b. cond b (x ∷ filter p xs) (filter p xs)) (same x (inl refl)) ∙ ap (λ l. cond (q x) (x ∷ l) l) (filter_same p q xs (λ y h. same y (inr h)))

and_both : (a b : Bool) → (a ≡ true → b ≡ true) → (a && b) ≡ a
and_both true b h = h refl
and_both false b h = refl

all_earlier : (h : List MsgItem) (x y : MsgItem) → Orderly (h ++ x ∷ []) → Has h y → counts x y ≡ in_lane (class_of x) (counted x.side) y
all_earlier h x y o there = and_both (in_lane (class_of x) (counted x.side) y) (is_earlier y x) (λ e.
    let i = in_lane_is (class_of x) (counted x.side) y e in
    let px = all_has IsPlaced (h ++ x ∷ []) x o.placed (has_last h x) in
    let py = all_has IsPlaced (h ++ x ∷ []) y o.placed (has_before h (x ∷ []) y there) in
    ap is_lt (order_last h x y o.rising there (ranks_meet x y x.side refl i.0 i.1 px py)))

-- the number of the last item
pub number_last : (h : List MsgItem) (x : MsgItem) → Orderly (h ++ x ∷ []) → number (h ++ x ∷ []) x ≡ length (lane (class_of x) (counted x.side) h)
number_last h x o =
    ap length (filter-append (counts x) h (x ∷ []) ∙ ap (λ b. filter (counts x) h ++ cond b (x ∷ []) []) (and_right (in_lane (class_of x) (counted x.side) x) (is_earlier x x) (earlier_itself x)) ∙ append-nil (filter (counts x) h)
    ∙ filter_same (counts x) (in_lane (class_of x) (counted x.side)) h (λ y there. all_earlier h x y o there))
