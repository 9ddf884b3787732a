-- A binary search in rising ranks tells whether one is there.
use Rattle.std.proofs.Common.{◌≡◌, ℕ, ◌<◌, ◌≤◌, ⊎_elim, List, length, get_or, Result, Ok, Err, is_ok, MatchResult, sym, arith, nat_eq}
use Rattle.std.specs.List.Sorted.{IsBinarySearchResult, IsNonDecreasing}
use Rattle.std.specs.Ordering.{nat_cmp}
use Rattle.std.specs.Set.{is_member}
use Rattle.std.proofs.lemmas.Bool.{eq-eqb, ne_eqb, cases_lt}
use Rattle.std.proofs.lemmas.List.{get_or_default}
use Rattle.std.proofs.lemmas.List.Folds.{list_any_at, list_any_none}
use Rattle.std.proofs.lemmas.List.Sorted.{searched}

-- numbers below x in front, numbers above x behind
absent : (xs : List ℕ) (x i : ℕ) → ((k : ℕ) → k < i → get_or xs k 0 < x) → ((k : ℕ) → i ≤ k → k < length xs → x < get_or xs k 0) → (k d : ℕ) → k < length xs → x ≡ get_or xs k d → ⊥
absent xs x i low high k d within e =
    let same : get_or xs k d ≡ get_or xs k 0 = get_or_default xs k d 0 within in
    ⊎_elim (λ h. omega (arith, low k h)) (λ h. omega (arith, high k h within)) (cases_lt k i)

by_cases : (xs : List ℕ) (x : ℕ) (r : Result ℕ ℕ) → MatchResult r (λ i. (i < length xs) × (get_or xs i 0 ≡ x)) (λ i. (i ≤ length xs) × ((k : ℕ) → k < i → get_or xs k 0 < x) × ((k : ℕ) → i ≤ k → k < length xs → x < get_or xs k 0)) → is_ok r ≡ is_member nat_eq xs x
by_cases xs x (Ok i) h = sym (list_any_at (nat_eq x) xs i 0 h.0 (eq-eqb x (get_or xs i 0) (sym h.1)))
by_cases xs x (Err i) h = sym (list_any_none (nat_eq x) xs (λ k d within. ne_eqb x (get_or xs k d) (absent xs x i h.1 h.2 k d within)))

pub found : (xs : List ℕ) (x : ℕ) (r : Result ℕ ℕ) → IsBinarySearchResult (λ y. nat_cmp y x) xs r → IsNonDecreasing xs → is_ok r ≡ is_member nat_eq xs x
found xs x r h up = by_cases xs x r (searched xs x r h (λ i j le within. up i j 0 le within))
