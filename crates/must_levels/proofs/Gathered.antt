-- What was taken of children is what they sent, in another order.
use Rattle.std.proofs.Common.{◌≡◌, ℕ, zero, suc, ◌+◌, ◌<◌, ◌≤◌, Bool, true, false, cond, not, List, [], ◌∷◌, ◌++◌, length, map, refl, sym, ap, ◌∙◌, inl, inr, arith}
use Rattle.std.specs.Prelude.{filter, ◌==◌}
use Rattle.std.specs.List.{AllByRecursion, flat_map}
use Rattle.std.proofs.lemmas.Bool.{true≢false, cases_eq, eq-eqb, ne_eqb}
use Rattle.must_find.specs.Rearranged.{Rearranges, empty, through, from_equal, joined, split, flat_mapped}
use Rattle.must_entry.specs.declared.batch.Batch.{Batch}
use Rattle.must_inbox.specs.Children.{of_child, batches_of, AreNumbered, HasAll}
use Rattle.must_inbox.specs.ChildLaws.{batches_of-append}
use Rattle.must_inbox.specs.ListLaws.{all_weaker}
use Rattle.must_inbox.specs.States.{PortState}
use Rattle.must_levels.specs.Sending.{ArePlaced, closing_of}

abbrev Taken : Type 0
Taken = ℕ × Batch

abbrev hits : ℕ → Taken → Bool
hits k m = m.0 == k

batches_flat : (ms : List Taken) → flat_map (λ (m : Taken). m.1 ∷ []) ms ≡ batches_of ms
batches_flat [] = refl
batches_flat (m ∷ ms) = ap (λ l. m.1 ∷ l) (batches_flat ms)

batches_moved : (xs ys : List Taken) → Rearranges xs ys → Rearranges (batches_of xs) (batches_of ys)
batches_moved xs ys r = through (from_equal (batches_of xs) (flat_map (λ (m : Taken). m.1 ∷ []) xs) (sym (batches_flat xs))) (through (flat_mapped (λ (m : Taken). m.1 ∷ []) r) (from_equal (flat_map (λ (m : Taken). m.1 ∷ []) ys) (batches_of ys) (batches_flat ys)))

hit_one : (b : Bool) (m : Taken) (l : List Taken) (w : List Batch) → batches_of l ≡ w → batches_of (cond b (m ∷ l) l) ≡ cond b (m.1 ∷ w) w
hit_one true m l w e = ap (λ v. m.1 ∷ v) e
hit_one false m l w e = e

hit_batches : (k : ℕ) (ms : List Taken) → batches_of (filter (hits k) ms) ≡ of_child k ms
hit_batches k [] = refl
hit_batches k (m ∷ ms) = hit_one (m.0 == k) m (filter (hits k) ms) (of_child k ms) (hit_batches k ms)

other_one : (j k : ℕ) (b : Bool) (m : Taken) (l : List Taken) (w : List Batch) → m.0 == k ≡ b → (j ≡ k → ⊥) → of_child j l ≡ w → of_child j (cond (not b) (m ∷ l) l) ≡ cond (m.0 == j) (m.1 ∷ w) w
other_one j k false m l w is other e = ap (λ v. cond (m.0 == j) (m.1 ∷ v) v) e
other_one j k true m l w is other e = elim (cases_eq m.0 j) [
  | inl here ↦ absurd (other (sym here ∙ eqb-is m.0 k is))
  | inr there ↦ e ∙ ap (λ (c : Bool). cond c (m.1 ∷ w) w) (sym (ne_eqb m.0 j there))
]
  where
    eqb-is : (a b : ℕ) → a == b ≡ true → a ≡ b
    eqb-is a b t = elim (cases_eq a b) [ inl e ↦ e | inr n ↦ absurd (true≢false (sym t ∙ ne_eqb a b n)) ]

others_same : (j k : ℕ) (ms : List Taken) → (j ≡ k → ⊥) → of_child j (filter (λ m. not (hits k m)) ms) ≡ of_child j ms
others_same j k [] other = refl
others_same j k (m ∷ ms) other = other_one j k (m.0 == k) m (filter (λ m. not (hits k m)) ms) (of_child j ms) refl other (others_same j k ms other)

all_others : (k : ℕ) (qs : List PortState) (from : ℕ) (ms : List Taken) → k < from → ArePlaced from qs → HasAll (map closing_of qs) ms → HasAll (map closing_of qs) (filter (λ m. not (hits k m)) ms)
all_others k [] from ms lt placed all = tt
all_others k (q ∷ qs) from ms lt placed all =
    let is = placed.0 in
    (others_same q.number k ms (λ e. absurd (omega (arith, lt, is, e))) ∙ all.0, all_others k qs (from + 1) ms (omega (arith, lt)) placed.1 all.1)

abbrev AreFrom : (k end : ℕ) → List Taken → Type 0
AreFrom k end ms = AllByRecursion (λ (m : Taken). (k ≤ m.0) × (m.0 < end)) ms

from_one : (k end : ℕ) (b : Bool) (m : Taken) (l : List Taken) → m.0 == k ≡ b → (k ≤ m.0) × (m.0 < end) → AreFrom (k + 1) end l → AreFrom (k + 1) end (cond (not b) (m ∷ l) l)
from_one k end true m l is a rest = rest
from_one k end false m l is a rest = (elim (cases_eq m.0 k) [ inl e ↦ absurd (true≢false (sym (eq-eqb m.0 k e) ∙ is)) | inr n ↦ (more k m.0 a.0 n, a.1) ], rest)
  where
    more : (k n : ℕ) → k ≤ n → (n ≡ k → ⊥) → k + 1 ≤ n
    more zero zero le n = absurd (n refl)
    more zero (suc n) le other = omega arith
    more (suc k) zero le n = absurd (omega (arith, le))
    more (suc k) (suc n) le other = let rest = more k n (omega (arith, le)) (λ e. other (ap suc e)) in omega (arith, rest)

from_others : (k end : ℕ) (ms : List Taken) → AreFrom k end ms → AreFrom (k + 1) end (filter (λ m. not (hits k m)) ms)
from_others k end [] a = tt
from_others k end (m ∷ ms) a = from_one k end (m.0 == k) m (filter (λ m. not (hits k m)) ms) refl a.0 (from_others k end ms a.1)

gathered_from : (k end : ℕ) (qs : List PortState) (ms : List Taken) → end ≡ k + length qs → ArePlaced k qs → AreFrom k end ms → HasAll (map closing_of qs) ms → Rearranges (batches_of ms) (flat_map (λ (q : PortState). q.sent) qs)
gathered_from k end [] [] e placed a all = empty
gathered_from k end [] (m ∷ ms) e placed a all = let low = a.0.0 in let high = a.0.1 in absurd (omega (arith, e, low, high))
gathered_from k end (q ∷ qs) ms e placed a all =
    let mine = filter (hits k) ms in
    let others = filter (λ m. not (hits k m)) ms in
    let rest = gathered_from (k + 1) end qs others (omega (arith, e)) placed.1 (from_others k end ms a) (all_others k qs (k + 1) ms (omega arith) placed.1 all.1) in
    let first : batches_of mine ≡ q.sent = hit_batches k ms ∙ ap (λ n. of_child n ms) (sym placed.0) ∙ all.0 in
    through (batches_moved ms (mine ++ others) (split (hits k) ms)) (through (from_equal (batches_of (mine ++ others)) (batches_of mine ++ batches_of others) (batches_of-append mine others)) (joined (from_equal (batches_of mine) q.sent first) rest))

pub gathered : (qs : List PortState) (ms : List Taken) (count : ℕ) → count ≡ length qs → ArePlaced 0 qs → AreNumbered count ms → HasAll (map closing_of qs) ms → Rearranges (batches_of ms) (flat_map (λ (q : PortState). q.sent) qs)
gathered qs ms count e placed numbered all = gathered_from 0 count qs ms (omega (arith, e)) placed (all_weaker (λ (m : Taken). m.0 < count) (λ (m : Taken). (0 ≤ m.0) × (m.0 < count)) ms (λ m lt. (omega arith, lt)) numbered) all
