-- Members that are marked one after the other.
use Rattle.std.proofs.Common.{◌≡◌, ℕ, zero, suc, ◌+◌, ◌<◌, ◌≤◌, Bool, true, false, ◌||◌, List, [], ◌∷◌, length, length-append, take, get_or, set, refl, sym, ap, subst, ◌∙◌, inl, inr, arith, nat_eq, eq-eqb, eqb-true}
use Rattle.std.specs.Set.{is_member}
use Rattle.std.specs.Cmp.{nat_eq_equiv}
use Rattle.std.specs.List.{IsDistinct, list_any}
use Rattle.must_group.specs.Groups.{below}
use Rattle.std.proofs.lemmas.Bool.{cases_eq}
use Rattle.std.proofs.lemmas.List.{take_more, get_or-set_same, get_or-set_other}
use Rattle.std.proofs.lemmas.List.Folds.{list_any_more, list_any-append}
use Rattle.std.proofs.lemmas.Map.Keys.{IsDistinct-push}

abbrev pub AreMarked : List Bool → List ℕ → ℕ → Type 0
AreMarked marks xs i = (k : ℕ) → k < length marks → get_or marks k false ≡ is_member nat_eq (take i xs) k

or_true : (b : Bool) → (b || true) ≡ true
or_true true = refl
or_true false = refl

or_false : (b : Bool) → (b || false) ≡ b
or_false true = refl
or_false false = refl

unequal : (a b : ℕ) (t : Bool) → nat_eq a b ≡ t → (a ≡ b → ⊥) → t ≡ false
unequal a b false e apart = refl
unequal a b true e apart = absurd (apart (eqb-true a b e))

pub marked_more : (marks : List Bool) (xs : List ℕ) (i m : ℕ) → i < length xs → m < length marks → get_or xs i 0 ≡ m → AreMarked marks xs i
    → (k : ℕ) → k < length marks → get_or (set marks m true) k false ≡ is_member nat_eq (take (i + 1) xs) k
marked_more marks xs i m within there is old k below =
    let more : is_member nat_eq (take (i + 1) xs) k ≡ (is_member nat_eq (take i xs) k || nat_eq k m) =
    list_any_more (nat_eq k) xs i 0 within ∙ ap (λ n. is_member nat_eq (take i xs) k || nat_eq k n) is in
    elim (cases_eq k m) [
      | inl e ↦ subst (λ n. get_or (set marks m true) n false ≡ true) (sym e) (get_or-set_same marks m true false there) ∙ sym (more ∙ ap (λ b. is_member nat_eq (take i xs) k || b) (eq-eqb k m e) ∙ or_true (is_member nat_eq (take i xs) k))
      | inr apart ↦ get_or-set_other marks m k true false apart ∙ old k below ∙ sym (more ∙ ap (λ b. is_member nat_eq (take i xs) k || b) (unequal k m (nat_eq k m) refl apart) ∙ or_false (is_member nat_eq (take i xs) k))
    ]

pub distinct_more : (xs : List ℕ) (i m : ℕ) → i < length xs → get_or xs i 0 ≡ m → IsDistinct nat_eq (take i xs) → is_member nat_eq (take i xs) m ≡ false → IsDistinct nat_eq (take (i + 1) xs)
distinct_more xs i m within is old new =
    subst (IsDistinct nat_eq) (sym (take_more xs i 0 within)) (IsDistinct-push nat_eq_equiv (take i xs) (get_or xs i 0) old (subst (λ n. is_member nat_eq (take i xs) n ≡ false) (sym is) new))

pub nil_distinct : IsDistinct nat_eq []
unfolding IsDistinct
nil_distinct = tt

abbrev pub IsSmall : ℕ → Type 0
IsSmall member = member < 1024

-- ---- the world

absent_below : (n m : ℕ) → n ≤ m → list_any (nat_eq m) (below n) ≡ false
absent_below zero m le = refl
absent_below (suc n) m le =
    list_any-append (nat_eq m) (below n) (n ∷ [])
    ∙ ap (λ b. b || (nat_eq m n || false)) (absent_below n m (omega (arith, le)))
    ∙ ap (λ b. b || false) (unequal m n (nat_eq m n) refl (λ e. omega (arith, e, le)))

pub below_distinct : (n : ℕ) → IsDistinct nat_eq (below n)
below_distinct zero = nil_distinct
below_distinct (suc n) = IsDistinct-push nat_eq_equiv (below n) n (below_distinct n) (absent_below n n (omega arith))

pub below_length : (n : ℕ) → length (below n) ≡ n
below_length zero = refl
below_length (suc n) = length-append (below n) (n ∷ []) ∙ omega (arith, below_length n)

pub one_distinct : (n : ℕ) → IsDistinct nat_eq (n ∷ [])
one_distinct n = IsDistinct-push nat_eq_equiv [] n nil_distinct refl
