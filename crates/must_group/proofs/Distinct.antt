-- Lists of distinct ranks.
use Rattle.std.proofs.Common.{◌≡◌, refl, ap, ℕ, ◌+◌, ◌<◌, length, get_or, take, Bool, true, false, not, ◌||◌, cond, List, [], ◌∷◌, ◌++◌, ◌∙◌, nat_eq}
use Rattle.std.specs.Prelude.{filter}
use Rattle.std.specs.Cmp.{nat_eq_equiv}
use Rattle.std.specs.List.{list_any, All, AllByRecursion, IsDistinct}
use Rattle.std.specs.Set.{is_member}
use Rattle.std.proofs.lemmas.Bool.{not-true, or_parts}
use Rattle.std.proofs.lemmas.List.Elements.{All-from_recursion, recursion_from_All, All-append, All-filter, All-weaker, filter_passes}
use Rattle.std.proofs.lemmas.Map.Keys.{IsDistinct-cons, IsDistinct-head, IsDistinct-tail, IsDistinct-push}
use Rattle.std.proofs.lemmas.List.{take_more}
use Rattle.must_group.specs.Groups.{union, difference}

kept_distinct : (b : Bool) (x : ℕ) (ys : List ℕ) → AllByRecursion (λ y. nat_eq x y ≡ false) ys → IsDistinct nat_eq ys → IsDistinct nat_eq (cond b (x ∷ ys) ys)
kept_distinct true x ys apart rest = IsDistinct-cons nat_eq x ys apart rest
kept_distinct false x ys apart rest = rest

-- a filter keeps ranks distinct
pub filter_distinct : (p : ℕ → Bool) (xs : List ℕ) → IsDistinct nat_eq xs → IsDistinct nat_eq (filter p xs)
filter_distinct p [] h = h
filter_distinct p (x ∷ xs) h =
    let P : ℕ → Type 0 = λ y. nat_eq x y ≡ false in
    let apart = recursion_from_All P (filter p xs) (All-filter p P xs (All-from_recursion P xs (IsDistinct-head nat_eq x xs h))) in
    kept_distinct (p x) x (filter p xs) apart (filter_distinct p xs (IsDistinct-tail nat_eq x xs h))

-- distinct ranks behind distinct ranks that have none of them
pub append_distinct : (xs ys : List ℕ) → IsDistinct nat_eq xs → IsDistinct nat_eq ys → All (λ y. is_member nat_eq xs y ≡ false) ys → IsDistinct nat_eq (xs ++ ys)
append_distinct [] ys d e h = e
append_distinct (x ∷ xs) ys d e h =
    let P : ℕ → Type 0 = λ y. nat_eq x y ≡ false in
    let absent : All P ys = All-weaker (λ y. is_member nat_eq (x ∷ xs) y ≡ false) P (λ y out. nat_eq_equiv.symm x y ∙ (or_parts (nat_eq y x) (is_member nat_eq xs y) out).0) ys h in
    let rest : All (λ y. is_member nat_eq xs y ≡ false) ys = All-weaker (λ y. is_member nat_eq (x ∷ xs) y ≡ false) (λ y. is_member nat_eq xs y ≡ false) (λ y out. (or_parts (nat_eq y x) (is_member nat_eq xs y) out).1) ys h in
    IsDistinct-cons nat_eq x (xs ++ ys) (recursion_from_All P (xs ++ ys) (All-append P xs ys (All-from_recursion P xs (IsDistinct-head nat_eq x xs d)) absent)) (append_distinct xs ys (IsDistinct-tail nat_eq x xs d) e rest)

-- what a difference gives is not in the second group
pub difference_absent : (xs ys : List ℕ) → All (λ rank. is_member nat_eq xs rank ≡ false) (difference ys xs)
difference_absent xs ys =
    let test : ℕ → Bool = λ rank. not (is_member nat_eq xs rank) in
    All-weaker (λ rank. test rank ≡ true) (λ rank. is_member nat_eq xs rank ≡ false) (λ rank h. not-true (is_member nat_eq xs rank) h) (filter test ys) (filter_passes test ys)

pub union_distinct : (xs ys : List ℕ) → IsDistinct nat_eq xs → IsDistinct nat_eq (difference ys xs) → IsDistinct nat_eq (union xs ys)
union_distinct xs ys d e = append_distinct xs (difference ys xs) d e (difference_absent xs ys)

pub nil_distinct : IsDistinct nat_eq []
unfolding IsDistinct
nil_distinct = tt

any_flipped : (ys : List ℕ) (x : ℕ) → list_any (nat_eq x) ys ≡ list_any (λ y. nat_eq y x) ys
any_flipped [] x = refl
any_flipped (y ∷ ys) x = ap (λ b. b || list_any (nat_eq x) ys) (nat_eq_equiv.symm x y) ∙ ap (λ b. nat_eq y x || b) (any_flipped ys x)

-- one more element, which none before is equal to
pub distinct_more : (xs : List ℕ) (i : ℕ) → i < length xs → IsDistinct nat_eq (take i xs) → list_any (λ y. nat_eq y (get_or xs i 0)) (take i xs) ≡ false → IsDistinct nat_eq (take (i + 1) xs)
distinct_more xs i within h absent = rw (take_more xs i 0 within) (IsDistinct-push nat_eq_equiv (take i xs) (get_or xs i 0) h (any_flipped (take i xs) (get_or xs i 0) ∙ absent))
