-- Tables of needs and shared lists stay tables.
use Rattle.std.proofs.Common.{◌≡◌, ℕ, zero, suc, ◌-◌, ◌<◌, ◌≤◌, ◌^◌, ◌++◌, List, [], ◌∷◌, length, map, set, get_or, take, replicate, Option, Some, None, refl, sym, ap, ◌∙◌, inl, inr, arith, slice_get, slice_index_or, length-append}
use Rattle.std.proofs.lemmas.Bool.{cases_eq, cases_order}
use Rattle.std.proofs.lemmas.List.{get_or-set_same, get_or-set_other, length-set, length-replicate}
use Rattle.std.proofs.lemmas.Option.{slice_get-get_or}
use Rattle.must_call.specs.declared.place.Place.{Place}
use Rattle.must_base.specs.Listing.{Has}
use Rattle.must_wait.specs.declared.way.Way.{Way}
use Rattle.must_wait.specs.declared.way.Way.TheVariants.{Own, Shared}
use Rattle.must_wait.specs.Needs.{Needs, Rows, calls_of}
use Rattle.must_wait.specs.Shared.{Numbers, Table, IsTable, number_at}
use Rattle.must_wait.specs.Watching.{ways_in}
use Rattle.must_wait.specs.Ways.{number_of, places_of, appended}
use Rattle.must_wait.proofs.Watched.{calls_at, index_is}

abbrev no_numbers : List (List (Option ℕ))
no_numbers = []

abbrev no_needs : List Needs
no_needs = []

none_of : (n rank : ℕ) → calls_of (replicate n no_needs) rank ≡ []
none_of zero rank = refl
none_of (suc n) zero = refl
none_of (suc n) (suc rank) = none_of n rank

none_in : (n k : ℕ) → slice_index_or (replicate n no_numbers) k [] ≡ []
none_in zero k = refl
none_in (suc n) zero = refl
none_in (suc n) (suc k) = none_in n k

pub no_calls : (t : Table) (n : ℕ) → t.needs ≡ replicate n [] → t.numbers ≡ replicate n [] → t.lists ≡ [] → n < 2 ^ 32 → IsTable t
no_calls t n needs numbers lists h = record {
  few = omega (arith, ap length needs, ap length lists, length-replicate n no_needs);
  calls = λ rank. omega (arith, ap (λ r. length (calls_of r rank)) needs, ap length (none_of n rank));
  ranks = ap length numbers ∙ length-replicate n no_numbers ∙ sym (ap length needs ∙ length-replicate n no_needs);
  numbers = λ rank. ap (λ m. length (slice_index_or m rank [])) numbers ∙ ap length (none_in n rank) ∙ sym (ap (λ r. length (calls_of r rank)) needs ∙ ap length (none_of n rank));
  shared = λ rank call way number e.
      (let none : None ≡ Some number = sym (ap (λ m. number_at m rank call way) numbers ∙ ap (λ m. slice_index_or (slice_index_or m call []) way None) (none_in n rank)) ∙ e in
      absurd (cc));
}

-- one more call
set_calls : (rows : Rows) (at rank : ℕ) (row : List Needs) → at < length rows → (rank ≡ at → calls_of (set rows at row) rank ≡ row) × ((rank ≡ at → ⊥) → calls_of (set rows at row) rank ≡ calls_of rows rank)
set_calls [] at rank row h = absurd (omega arith)
set_calls (r ∷ rows) zero zero row h = (λ e. refl, λ ne. absurd (ne refl))
set_calls (r ∷ rows) zero (suc rank) row h = (λ e. absurd (omega arith), λ ne. refl)
set_calls (r ∷ rows) (suc at) zero row h = (λ e. absurd (omega arith), λ ne. refl)
set_calls (r ∷ rows) (suc at) (suc rank) row h =
    let s = set_calls rows at rank row (omega arith) in
    (λ e. s.0 (omega arith), λ ne. s.1 (λ e. ne (omega arith)))

get_new : {X : Type 0} (xs : List X) (x : X) (k : ℕ) → k ≡ length xs → slice_get (xs ++ x ∷ []) k ≡ Some x
get_new [] x zero e = refl
get_new [] x (suc k) e = absurd (omega arith)
get_new (z ∷ xs) x zero e = absurd (omega arith)
get_new (z ∷ xs) x (suc k) e = get_new xs x k (omega arith)

or_old : {X : Type 0} (xs : List X) (x d : X) (k : ℕ) → k < length xs → slice_index_or (xs ++ x ∷ []) k d ≡ slice_index_or xs k d
or_old [] x d k h = absurd (omega arith)
or_old (z ∷ xs) x d zero h = refl
or_old (z ∷ xs) x d (suc k) h = or_old xs x d k (omega arith)

or_new : {X : Type 0} (xs : List X) (x d : X) (k : ℕ) → k ≡ length xs → slice_index_or (xs ++ x ∷ []) k d ≡ x
or_new [] x d zero e = refl
or_new [] x d (suc k) e = absurd (omega arith)
or_new (z ∷ xs) x d zero e = absurd (omega arith)
or_new (z ∷ xs) x d (suc k) e = or_new xs x d k (omega arith)

or_past : {X : Type 0} (xs : List X) (d : X) (k : ℕ) → length xs ≤ k → slice_index_or xs k d ≡ d
or_past [] d k h = refl
or_past (z ∷ xs) d zero h = absurd (omega arith)
or_past (z ∷ xs) d (suc k) h = or_past xs d k (omega arith)

way_old : (calls : List Needs) (needs : Needs) (call way : ℕ) (places : List Place) → slice_get (ways_in (slice_get calls call)) way ≡ Some places → slice_get (ways_in (slice_get (calls ++ needs ∷ []) call)) way ≡ Some places
way_old [] needs call way places e = cc
way_old (c ∷ calls) needs zero way places e = e
way_old (c ∷ calls) needs (suc call) way places e = way_old calls needs call way places e

abbrev Fitting : List (List Place) → Needs → List (Option ℕ) → Type 0
Fitting lists needs numbers = (way number : ℕ) → slice_index_or numbers way None ≡ Some number → (places : List Place) × (slice_get needs way ≡ Some places) × (slice_get lists number ≡ Some places)

shared_more : (t : Table) (rank : ℕ) (needs : Needs) (numbers : List (Option ℕ)) → IsTable t → rank < length t.needs → Fitting t.lists needs numbers
    → (call way number : ℕ) → slice_index_or (slice_index_or (slice_index_or t.numbers rank [] ++ numbers ∷ []) call []) way None ≡ Some number
    → (places : List Place) × (slice_get (ways_in (slice_get (calls_of t.needs rank ++ needs ∷ []) call)) way ≡ Some places) × (slice_get t.lists number ≡ Some places)
shared_more t rank needs numbers is h fits call way number e = elim (cases_order call (length (calls_of t.needs rank))) [
  | inl same ↦
      let f = fits way number (sym (ap (λ m. slice_index_or m way None) (or_new (slice_index_or t.numbers rank []) numbers [] call (omega (arith, is.numbers rank)))) ∙ e) in
      (f.0, ap (λ o. slice_get (ways_in o) way) (get_new (calls_of t.needs rank) needs call same) ∙ f.1, f.2)
  | inr (inl less) ↦
      let s = is.shared rank call way number (sym (ap (λ m. slice_index_or m way None) (or_old (slice_index_or t.numbers rank []) numbers [] call (omega (arith, is.numbers rank)))) ∙ e) in
      (s.0, way_old (calls_of t.needs rank) needs call way s.0 s.1, s.2)
  | inr (inr more) ↦
      let none : None ≡ Some number = sym (ap (λ m. slice_index_or m way None) (or_past (slice_index_or t.numbers rank [] ++ numbers ∷ []) [] call (omega (arith, is.numbers rank, length-append (slice_index_or t.numbers rank []) (numbers ∷ []))))) ∙ e in
      absurd (cc)
]

pub one_more_call : (t : Table) (rank : ℕ) (needs : Needs) (numbers : List (Option ℕ)) → IsTable t → rank < length t.needs → length (calls_of t.needs rank) < 2 ^ 31 → Fitting t.lists needs numbers → IsTable (appended t rank needs numbers)
one_more_call t rank needs numbers is h few fits =
    let row = calls_of t.needs rank ++ needs ∷ [] in
    let names = slice_index_or t.numbers rank [] ++ numbers ∷ [] in
    let inside : rank < length t.numbers = omega (arith, is.ranks) in
    record {
      few = omega (arith, is.few, length-set t.needs rank row);
      calls = λ r. elim (cases_eq r rank) [
        | inl same ↦ omega (arith, ap length ((set_calls t.needs rank r row h).0 same), length-append (calls_of t.needs rank) (needs ∷ []))
        | inr ne ↦ omega (arith, ap length ((set_calls t.needs rank r row h).1 ne), is.calls r)
      ];
      ranks = length-set t.numbers rank names ∙ is.ranks ∙ sym (length-set t.needs rank row);
      numbers = λ r. elim (cases_eq r rank) [
        | inl same ↦ omega (arith, ap length ((set_calls t.needs rank r row h).0 same), ap length (ap (λ k. get_or (set t.numbers rank names) k []) same ∙ get_or-set_same t.numbers rank names [] inside), is.numbers rank, length-append (calls_of t.needs rank) (needs ∷ []), length-append (slice_index_or t.numbers rank []) (numbers ∷ []))
        | inr ne ↦ omega (arith, ap length ((set_calls t.needs rank r row h).1 ne), ap length (get_or-set_other t.numbers rank r names [] ne), is.numbers r)
      ];
      shared = λ r call way number e. elim (cases_eq r rank) [
        | inl same ↦
            let s = shared_more t rank needs numbers is h fits call way number (sym (ap (λ m. slice_index_or (slice_index_or m call []) way None) (ap (λ k. get_or (set t.numbers rank names) k []) same ∙ get_or-set_same t.numbers rank names [] inside)) ∙ e) in
            (s.0, ap (λ calls. slice_get (ways_in (slice_get calls call)) way) ((set_calls t.needs rank r row h).0 same) ∙ s.1, s.2)
        | inr ne ↦
            let s = is.shared r call way number (sym (ap (λ m. slice_index_or (slice_index_or m call []) way None) (get_or-set_other t.numbers rank r names [] ne)) ∙ e) in
            (s.0, ap (λ calls. slice_get (ways_in (slice_get calls call)) way) ((set_calls t.needs rank r row h).1 ne) ∙ s.1, s.2)
      ];
    }

-- alternatives fit their numbers
pub ways_fit : (lists : List (List Place)) (ways : List Way) → ((way : Way) (number : ℕ) → Has ways way → number_of way ≡ Some number → number < length lists) → Fitting lists (map (places_of lists) ways) (map number_of ways)
ways_fit lists [] h way number e = let none : None ≡ Some number = e in absurd (cc)
ways_fit lists (Own places ∷ ways) h zero number e = let none : None ≡ Some number = e in absurd (cc)
ways_fit lists (Shared k ∷ ways) h zero number e =
    let both : Some k ≡ Some number = e in
    let same : k ≡ number = cc in
    (slice_index_or lists k [], refl, ap (slice_get lists) (sym same) ∙ slice_get-get_or lists k [] (h (Shared k) k (inl refl) refl))
ways_fit lists (w ∷ ways) h (suc way) number e = ways_fit lists ways (λ v n k. h v n (inr k)) way number e

-- a call that is taken back
pub take_back : {X : Type 0} (xs ys : List X) (x : X) (n : ℕ) → n ≡ length xs → ys ≡ take n (xs ++ x ∷ []) → ys ≡ xs
take_back [] ys x zero e is = is
take_back [] ys x (suc n) e is = absurd (omega arith)
take_back (z ∷ xs) ys x zero e is = absurd (omega arith)
take_back (z ∷ xs) ys x (suc n) e is = is ∙ ap (λ l. z ∷ l) (take_back xs (take n (xs ++ x ∷ [])) x n (omega arith) refl)

pub set_back : {X : Type 0} (xs : List X) (k : ℕ) (x y : X) → x ≡ get_or xs k x → set (set xs k y) k x ≡ xs
set_back [] k x y e = refl
set_back (z ∷ xs) zero x y e = ap (λ w. w ∷ xs) e
set_back (z ∷ xs) (suc k) x y e = ap (λ l. z ∷ l) (set_back xs k x y e)

pub set_same : {X : Type 0} (xs : List X) (k : ℕ) (x : X) → x ≡ get_or xs k x → set xs k x ≡ xs
set_same [] k x e = refl
set_same (z ∷ xs) zero x e = ap (λ w. w ∷ xs) e
set_same (z ∷ xs) (suc k) x e = ap (λ l. z ∷ l) (set_same xs k x e)

abbrev with_rows : Table → Rows → Numbers → Table
with_rows t needs numbers = record { needs = needs; numbers = numbers; lists = t.lists }

pub append_ok : (t : Table) (rank : ℕ) (needs : Needs) (numbers : List (Option ℕ)) (row more : List Needs) (names longer : List (List (Option ℕ))) → IsTable t → rank < length t.needs
    → row ≡ get_or t.needs rank row → more ≡ row ++ needs ∷ [] → names ≡ get_or t.numbers rank names → longer ≡ names ++ numbers ∷ []
    → with_rows t (set t.needs rank more) (set t.numbers rank longer) ≡ appended t rank needs numbers
append_ok t rank needs numbers row more names longer is h r m n l =
    let a : more ≡ calls_of t.needs rank ++ needs ∷ [] = m ∙ ap (λ x. x ++ needs ∷ []) (sym (calls_at t.needs rank row h r)) in
    let b : longer ≡ slice_index_or t.numbers rank [] ++ numbers ∷ [] = l ∙ ap (λ x. x ++ numbers ∷ []) (index_is t.numbers rank names [] (omega (arith, is.ranks)) n) in
    ap (λ x. with_rows t (set t.needs rank x) (set t.numbers rank longer)) a ∙ ap (λ x. with_rows t (set t.needs rank (calls_of t.needs rank ++ needs ∷ [])) (set t.numbers rank x)) b

pub append_back : (t : Table) (rank : ℕ) (numbers : List (Option ℕ)) (row more : List Needs) (names longer again back : List (List (Option ℕ))) → IsTable t → rank < length t.needs
    → row ≡ get_or t.needs rank row → more ≡ row → names ≡ get_or t.numbers rank names → longer ≡ names ++ numbers ∷ []
    → again ≡ get_or (set t.numbers rank longer) rank again → back ≡ take (length again - 1) again
    → with_rows t (set t.needs rank more) (set (set t.numbers rank longer) rank back) ≡ t
append_back t rank numbers row more names longer again back is h r m n l g b =
    let inside : rank < length t.numbers = omega (arith, is.ranks) in
    let same : again ≡ names ++ numbers ∷ [] = g ∙ get_or-set_same t.numbers rank longer again inside ∙ l in
    let old : back ≡ names = take_back names back numbers (length again - 1) (omega (arith, ap length same, length-append names (numbers ∷ []))) (b ∙ ap (take (length again - 1)) same) in
    ap (λ x. with_rows t (set t.needs rank x) (set (set t.numbers rank longer) rank back)) m
    ∙ ap (λ x. with_rows t x (set (set t.numbers rank longer) rank back)) (set_same t.needs rank row r)
    ∙ ap (λ x. with_rows t t.needs (set (set t.numbers rank longer) rank x)) old
    ∙ ap (λ x. with_rows t t.needs x) (set_back t.numbers rank names longer n)
