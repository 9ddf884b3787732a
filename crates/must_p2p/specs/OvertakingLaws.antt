-- Messages don't overtake one another, and no two items of a class wait on both sides (MPI 3.1, 3.5).
use Rattle.std.proofs.Common.{◌≡◌, ℕ, zero, suc, ◌<◌, ◌≤◌, Bool, true, false, cond, List, [], ◌∷◌, length, Some, refl, sym, ap, subst, ◌∙◌, inl, inr, arith}
use Rattle.std.specs.Prelude.{slice_get, filter}
use Rattle.std.proofs.lemmas.Bool.{cases_lt}
use Rattle.std.proofs.lemmas.Option.{slice_get_past}
use Rattle.must_base.specs.Listing.{Has}
use Rattle.must_base.specs.ListingLaws.{all_has}
use Rattle.must_p2p.specs.declared.side.Side.{Side}
use Rattle.must_p2p.specs.declared.side.Side.TheVariants.{Send, Receive}
use Rattle.must_p2p.specs.declared.item.MsgItem.{MsgItem}
use Rattle.must_p2p.specs.Items.{Class, class_of, is_earlier, in_lane, lane, number, Orderly}
use Rattle.must_p2p.specs.Matching.{IsMatch, IsLone}
use Rattle.must_p2p.specs.LaneLaws.{Chain, IsAfter, place_of, some_is, none_is}
use Rattle.must_p2p.specs.ClassLaws.{chain_of, earlier_itself}
use Rattle.must_p2p.specs.MatchLaws.{stands_at, pair_matches, send_place, receive_place}

-- ---- places in a lane are in order

-- the one is before the other, and not the other way round
abbrev IsBefore : {X : Type 0} → (X → X → Bool) → X → X → Type 0
IsBefore before x y = (before x y ≡ true) × (before y x ≡ false)

rising_by : {X : Type 0} (p : X → Bool) (before : X → X → Bool) → ((x : X) → before x x ≡ false) → (z : X) (zs : List X) (i j : ℕ) (x y : X) (b : Bool) → p z ≡ b → Chain p before (z ∷ zs) → i < j
    → slice_get (cond b (z ∷ filter p zs) (filter p zs)) i ≡ Some x → slice_get (cond b (z ∷ filter p zs) (filter p zs)) j ≡ Some y
    → ((i j : ℕ) → i < j → slice_get (filter p zs) i ≡ Some x → slice_get (filter p zs) j ≡ Some y → IsBefore before x y) → IsBefore before x y
rising_by p before irr z zs i j x y false e ch less at there rest = rest i j less at there
rising_by p before irr z zs i zero x y true e ch less at there rest = absurd (omega (arith, less))
rising_by p before irr z zs zero (suc j) x y true e ch less at there rest =
    let is = place_of p before irr zs j y ch.1 there in
    subst (λ w. IsBefore before w y) (some_is z x at) (all_has (IsAfter p before z) zs y (ch.0 e) is.there is.passes)
rising_by p before irr z zs (suc i) (suc j) x y true e ch less at there rest = rest i j (omega (arith, less)) at there

pub rising : {X : Type 0} (p : X → Bool) (before : X → X → Bool) → ((x : X) → before x x ≡ false) → (xs : List X) (i j : ℕ) (x y : X) → Chain p before xs → i < j
    → slice_get (filter p xs) i ≡ Some x → slice_get (filter p xs) j ≡ Some y → IsBefore before x y
rising p before irr [] i j x y ch less at there = absurd (none_is x at)
rising p before irr (z ∷ zs) i j x y ch less at there = rising_by p before irr z zs i j x y (p z) refl ch less at there (λ k l m a b. rising p before irr zs k l x y ch.1 m a b)

lane_rises : (c : Class) (side : Side) (items : List MsgItem) (i j : ℕ) (x y : MsgItem) → Orderly items → i < j → slice_get (lane c side items) i ≡ Some x → slice_get (lane c side items) j ≡ Some y → IsBefore is_earlier x y
lane_rises c side items i j x y o less at there = rising (in_lane c side) is_earlier earlier_itself items i j x y (chain_of c side items o.placed o.rising) less at there

-- an item that is earlier than another of its lane stands before it
lane_order : (c : Class) (side : Side) (items : List MsgItem) (i j : ℕ) (x y : MsgItem) → Orderly items → is_earlier x y ≡ true → slice_get (lane c side items) i ≡ Some x → slice_get (lane c side items) j ≡ Some y → i < j
lane_order c side items i j x y o earlier at there = elim (cases_lt i j) [
  | inl less ↦ less
  | inr more ↦ elim (cases_lt j i) [
    | inl less ↦ absurd (let n : true ≡ false = sym earlier ∙ (lane_rises c side items j i y x o less there at).1 in cc)
    | inr equal ↦
        let k : i ≡ j = omega (arith, more, equal) in
        let same : x ≡ y = some_is x y (sym at ∙ ap (λ n. slice_get (lane c side items) n) k ∙ there) in
        absurd (let n : true ≡ false = sym earlier ∙ ap (is_earlier x) (sym same) ∙ earlier_itself x in cc)
  ]
]

-- ---- what the standard says

-- of two sends of a class the earlier is received first
pub no_overtaking : (items : List MsgItem) (s r t u : MsgItem) → Orderly items → IsMatch items s r → IsMatch items t u → class_of s ≡ class_of t → is_earlier s t ≡ true → is_earlier r u ≡ true
no_overtaking items s r t u o m n same earlier =
    let c = class_of s in
    let t_there : slice_get (lane c Send items) (number items t) ≡ Some t = ap (λ (k : Class). slice_get (lane k Send items) (number items t)) same ∙ send_place items t u o n in
    let u_there : slice_get (lane c Receive items) (number items t) ≡ Some u = ap (λ (k : Class). slice_get (lane k Receive items) (number items t)) same ∙ receive_place items t u o n in
    let less = lane_order c Send items (number items s) (number items t) s t o earlier (send_place items s r o m) t_there in
    (lane_rises c Receive items (number items s) (number items t) r u o less (receive_place items s r o m) u_there).0

within : (xs : List MsgItem) (n : ℕ) → n < length xs → (y : MsgItem) × (slice_get xs n ≡ Some y)
within [] n h = absurd (omega (arith, h))
within (x ∷ xs) zero h = (x, refl)
within (x ∷ xs) (suc n) h = within xs n (omega (arith, h))

-- below a place that something has stands something
below : (xs : List MsgItem) (i j : ℕ) (y : MsgItem) → i ≤ j → slice_get xs j ≡ Some y → (x : MsgItem) × (slice_get xs i ≡ Some x)
below xs i j y less there = elim (cases_lt i (length xs)) [
  | inl inside ↦ within xs i inside
  | inr past ↦ absurd (none_is y (sym (slice_get_past xs j (omega (arith, less, past))) ∙ there))
]

-- a send and a receive of one class don't both stay without a match
pub no_two_wait : (items : List MsgItem) (s r : MsgItem) → Orderly items → Has items s → Has items r → s.side ≡ Send → r.side ≡ Receive → class_of s ≡ class_of r → IsLone items s → IsLone items r → ⊥
no_two_wait items s r o s_there r_there sends receives same lone alone =
    let c = class_of s in
    let at_s = stands_at Send items s o s_there sends refl c refl in
    let at_r = stands_at Receive items r o r_there receives refl c same in
    elim (cases_lt (number items r) (number items s)) [
      | inl less ↦ let x = below (lane c Send items) (number items r) (number items s) s (omega (arith, less)) at_s in alone x.0 r (pair_matches c items (number items r) x.0 r o x.1 at_r) (inr refl)
      | inr more ↦ let y = below (lane c Receive items) (number items s) (number items r) r more at_r in lone s y.0 (pair_matches c items (number items s) s y.0 o at_s y.1) (inl refl)
    ]
