-- Lists of distinct ranks, one rank more at a time.
use Rattle.std.proofs.Common.{◌≡◌, refl, ap, ℕ, ◌+◌, ◌<◌, length, get_or, take, false, ◌||◌, List, [], ◌∷◌, ◌∙◌, nat_eq}
use Rattle.std.specs.Cmp.{nat_eq_equiv}
use Rattle.std.specs.List.{list_any, IsDistinct}
use Rattle.std.proofs.lemmas.Map.Keys.{IsDistinct-push}
use Rattle.std.proofs.lemmas.List.{take_more}

pub nil_distinct : IsDistinct nat_eq []
unfolding IsDistinct
nil_distinct = tt

any_flipped : (ys : List ℕ) (x : ℕ) → list_any (nat_eq x) ys ≡ list_any (λ y. nat_eq y x) ys
any_flipped [] x = refl
any_flipped (y ∷ ys) x = ap (λ b. b || list_any (nat_eq x) ys) (nat_eq_equiv.symm x y) ∙ ap (λ b. nat_eq y x || b) (any_flipped ys x)

pub distinct_more : (xs : List ℕ) (i : ℕ) → i < length xs → IsDistinct nat_eq (take i xs) → list_any (λ y. nat_eq y (get_or xs i 0)) (take i xs) ≡ false → IsDistinct nat_eq (take (i + 1) xs)
distinct_more xs i within h absent = rw (take_more xs i 0 within) (IsDistinct-push nat_eq_equiv (take i xs) (get_or xs i 0) h (any_flipped (take i xs) (get_or xs i 0) ∙ absent))
