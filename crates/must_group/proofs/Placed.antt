-- The place of a rank among distinct ranks.
use Rattle.std.proofs.Common.{◌≡◌, ℕ, ◌+◌, ◌<◌, ◌≤◌, Bool, true, false, List, length, get_or, Option, Some, None, Result, Ok, Err, MatchResult, refl, sym, ap, subst, ◌∙◌, arith, nat_eq, is_le}
use Rattle.std.specs.Prelude.{IfSome, IsTrue, MatchBool, position, [], ◌∷◌, ◌++◌}
use Rattle.std.specs.Result.{result_ok}
use Rattle.std.specs.List.{All, IsAllAdjacentAnswer, IsDistinct, position_or_len}
use Rattle.std.specs.List.Sorted.{IsBinarySearchResult, IsNonDecreasing}
use Rattle.std.specs.Ordering.{nat_cmp}
use Rattle.std.proofs.lemmas.Bool.{eq-eqb, ne_eqb, lt-ltb, le-ltb, cases_lt}
use Rattle.std.proofs.Common.{⊎_elim}
use Rattle.std.proofs.lemmas.List.{get_or_default}
use Rattle.std.proofs.lemmas.List.Quantifiers.{position-Some}
use Rattle.std.proofs.lemmas.List.Sorted.{searched, non_decreasing_from_is_sorted}
use Rattle.std.proofs.lemmas.List.Sums.{position_or_len_is}
use Rattle.std.proofs.lemmas.Map.Keys.{apart_from_distinct}
use Rattle.std.proofs.lemmas.Map.Steps.{length-le_from_distinct_below}
use Rattle.must_group.proofs.Listed.{all_below}

-- ---- a place is below the number of numbers that an element may have

few : (xs : List ℕ) (n : ℕ) → IsDistinct nat_eq xs → ((k : ℕ) → get_or xs k 0 < n) → length xs ≤ n
few xs n distinct below =
    let all : All (λ x. x < n) xs = λ k d within. rw (get_or_default xs k d 0 within) (below k) in
    length-le_from_distinct_below xs n distinct (all_below xs n all)

place_small : (xs : List ℕ) (p : ℕ → Bool) (n : ℕ) (o : Option ℕ) → IsDistinct nat_eq xs → ((k : ℕ) → get_or xs k 0 < n) → position p xs ≡ o → IfSome o (λ place. place < n)
place_small xs p n None distinct below e = tt
place_small xs p n (Some i) distinct below e = let at = position-Some p xs i 0 e in omega (arith, at.0, few xs n distinct below)

pub small_place : (xs : List ℕ) (p : ℕ → Bool) (n : ℕ) (o : Option ℕ) → IsDistinct nat_eq xs → ((k : ℕ) → get_or xs k 0 < n) → o ≡ position p xs → IfSome o (λ place. place < n)
small_place xs p n o distinct below e = place_small xs p n o distinct below (sym e)

-- ---- what a search in rising ranks finds

position_found : (p : ℕ → Bool) (xs : List ℕ) (i : ℕ) → i < length xs → position_or_len p xs ≡ i → position p xs ≡ Some i
position_found p xs i within e = rw (e, lt-ltb i (length xs) within) refl

position_absent : (p : ℕ → Bool) (xs : List ℕ) → position_or_len p xs ≡ length xs → position p xs ≡ None
position_absent p xs e = rw (e, le-ltb (length xs) (length xs) (omega arith)) refl

by_cases : (xs : List ℕ) (x : ℕ) (r : Result ℕ ℕ) → IsDistinct nat_eq xs
    → MatchResult r (λ i. (i < length xs) × (get_or xs i 0 ≡ x)) (λ i. (i ≤ length xs) × ((k : ℕ) → k < i → get_or xs k 0 < x) × ((k : ℕ) → i ≤ k → k < length xs → x < get_or xs k 0))
    → result_ok r ≡ position (λ member. nat_eq member x) xs
by_cases xs x (Ok i) distinct h =
    let p : ℕ → Bool = λ member. nat_eq member x in
    let before : (k : ℕ) → k < i → p (get_or xs k 0) ≡ false = λ k less. ap (λ y. nat_eq (get_or xs k 0) y) (sym h.1) ∙ apart_from_distinct nat_eq xs k i 0 distinct less h.0 in
    sym (position_found p xs i h.0 (position_or_len_is p xs i 0 (omega (arith, h.0)) before (λ w. eq-eqb (get_or xs i 0) x h.1)))
by_cases xs x (Err i) distinct h =
    let p : ℕ → Bool = λ member. nat_eq member x in
    let none : (k : ℕ) → k < length xs → p (get_or xs k 0) ≡ false = λ k within.
    ne_eqb (get_or xs k 0) x (λ e. ⊎_elim (λ less. omega (arith, h.1 k less, e)) (λ more. omega (arith, h.2 k more within, e)) (cases_lt k i)) in
    sym (position_absent p xs (position_or_len_is p xs (length xs) 0 (omega arith) none (λ w. absurd (omega (arith, w)))))

pub found_place : (xs : List ℕ) (x : ℕ) (r : Result ℕ ℕ) → IsBinarySearchResult (λ y. nat_cmp y x) xs r → IsDistinct nat_eq xs → IsNonDecreasing xs → result_ok r ≡ position (λ member. nat_eq member x) xs
found_place xs x r h distinct up = by_cases xs x r distinct (searched xs x r h (λ i j le within. up i j 0 le within))

-- ---- ranks that were tested to rise

rises_by : (xs : List ℕ) (r : Bool) → MatchBool r (IsNonDecreasing xs) ((k : ℕ) × (k + 1 < length xs) × ((d : ℕ) → get_or xs (k + 1) d < get_or xs k d)) → r ≡ true → IsNonDecreasing xs
rises_by xs true m e = m
rises_by xs false m e = absurd (cc)

pub rises_if : (xs : List ℕ) (r : Bool) → IsAllAdjacentAnswer (λ x y b. is_le (nat_cmp x y) ≡ b) xs r → r ≡ true → IsNonDecreasing xs
rises_if xs r answer = rises_by xs r (non_decreasing_from_is_sorted xs r answer)

-- a rank behind the last keeps them so
pub still_rises : (now ranks : List ℕ) (rank : ℕ) (behind rises : Bool) → now ≡ ranks → (IsTrue behind → IsNonDecreasing now → IsNonDecreasing (now ++ rank ∷ [])) → rises ≡ behind → rises ≡ true → IsNonDecreasing ranks
    → IsNonDecreasing (ranks ++ rank ∷ [])
still_rises now ranks rank behind rises same f is up ranks_rise =
    subst (λ (xs : List ℕ). IsNonDecreasing xs → IsNonDecreasing (xs ++ rank ∷ [])) same (f (sym is ∙ up)) ranks_rise
