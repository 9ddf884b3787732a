-- An element that goes into a list at its place.
use Rattle.std.proofs.Common.{◌≡◌, ℕ, zero, suc, ◌+◌, ◌<◌, ◌≤◌, List, [], ◌∷◌, length, get_or, refl, sym, ap, subst, ◌∙◌, inl, inr, arith, Ordering, Less, Greater}
use Rattle.std.specs.Prelude.{◌⊎◌, ◌↔◌}
use Rattle.std.specs.List.{AllByRecursion, insert}
use Rattle.std.specs.List.Sorted.{IsStrictlySortedBy}
use Rattle.std.specs.Ordering.{ordering_reverse}
use Rattle.std.specs.Cmp.{IsTotalOrder}
use Rattle.std.proofs.lemmas.Bool.{cases_order}
use Rattle.must_base.specs.Listing.{Has, Rises}

get_any : {X : Type 0} (xs : List X) (k : ℕ) (d e : X) → k < length xs → get_or xs k d ≡ get_or xs k e
get_any [] k d e h = absurd (omega arith)
get_any (x ∷ xs) zero d e h = refl
get_any (x ∷ xs) (suc k) d e h = get_any xs k d e (omega arith)

pub has_at : {X : Type 0} (xs : List X) (k : ℕ) (d : X) → k < length xs → Has xs (get_or xs k d)
has_at [] k d h = absurd (omega arith)
has_at (x ∷ xs) zero d h = inl refl
has_at (x ∷ xs) (suc k) d h = inr (has_at xs k d (omega arith))

all_at : {X : Type 0} (P : X → Type 0) (xs : List X) (k : ℕ) (d : X) → AllByRecursion P xs → k < length xs → P (get_or xs k d)
all_at P [] k d all h = absurd (omega arith)
all_at P (x ∷ xs) zero d all h = all.0
all_at P (x ∷ xs) (suc k) d all h = all_at P xs k d all.1 (omega arith)

rises_at : {X : Type 0} (order : X → X → Ordering) (xs : List X) (i j : ℕ) (d : X) → Rises order xs → i < j → j < length xs → order (get_or xs i d) (get_or xs j d) ≡ Less
unfolding IsStrictlySortedBy
rises_at order [] i j d r h w = absurd (omega arith)
rises_at order (x ∷ xs) i zero d r h w = absurd (omega arith)
rises_at order (x ∷ xs) zero (suc j) d r h w = all_at (λ y. order x y ≡ Less) xs j d r.0 (omega arith)
rises_at order (x ∷ xs) (suc i) (suc j) d r h w = rises_at order xs i j d r.1 (omega arith) (omega arith)

-- a probe that is before f: so is all before the probe
pub before_more : {X : Type 0} (order : X → X → Ordering) → IsTotalOrder order → (xs : List X) (f : X) (m : ℕ) (e : X) → Rises order xs → m < length xs → order (get_or xs m e) f ≡ Less
    → (k : ℕ) (d : X) → k < m + 1 → order (get_or xs k d) f ≡ Less
before_more order o xs f m e r w less k d h =
    let here : order (get_or xs m d) f ≡ Less = subst (λ x. order x f ≡ Less) (get_any xs m e d w) less in
    elim (cases_order k m) [
      | inl same ↦ subst (λ i. order (get_or xs i d) f ≡ Less) (sym same) here
      | inr (inl below) ↦ o.trans _ _ _ (rises_at order xs k m d r below w) here
      | inr (inr above) ↦ absurd (omega arith)
    ]

-- a probe that is behind f: so is all behind the probe
pub after_more : {X : Type 0} (order : X → X → Ordering) → IsTotalOrder order → (xs : List X) (f : X) (m : ℕ) (e : X) → Rises order xs → m < length xs → order (get_or xs m e) f ≡ Greater
    → (k : ℕ) (d : X) → m ≤ k → k < length xs → order f (get_or xs k d) ≡ Less
after_more order o xs f m e r w more k d h v =
    let there : order (get_or xs m d) f ≡ Greater = subst (λ x. order x f ≡ Greater) (get_any xs m e d w) more in
    let here : order f (get_or xs m d) ≡ Less = o.antisymm f (get_or xs m d) ∙ ap ordering_reverse there in
    elim (cases_order k m) [
      | inl same ↦ subst (λ i. order f (get_or xs i d) ≡ Less) (sym same) here
      | inr (inl below) ↦ absurd (omega arith)
      | inr (inr above) ↦ o.trans _ _ _ here (rises_at order xs m k d r above v)
    ]

all_insert : {X : Type 0} (P : X → Type 0) (xs : List X) (i : ℕ) (f : X) → AllByRecursion P xs → P f → AllByRecursion P (insert xs i f)
all_insert P [] zero f all p = (p, tt)
all_insert P [] (suc i) f all p = (p, tt)
all_insert P (x ∷ xs) zero f all p = (p, all)
all_insert P (x ∷ xs) (suc i) f all p = (all.0, all_insert P xs i f all.1 p)

all_from : {X : Type 0} (P : X → Type 0) (xs : List X) → ((k : ℕ) (d : X) → k < length xs → P (get_or xs k d)) → AllByRecursion P xs
all_from P [] all = tt
all_from P (x ∷ xs) all = (all 0 x (omega arith), all_from P xs (λ k d h. all (suc k) d (omega arith)))

pub rises_insert : {X : Type 0} (order : X → X → Ordering) (xs : List X) (i : ℕ) (f : X) → Rises order xs
    → ((k : ℕ) (d : X) → k < i → k < length xs → order (get_or xs k d) f ≡ Less)
    → ((k : ℕ) (d : X) → i ≤ k → k < length xs → order f (get_or xs k d) ≡ Less) → Rises order (insert xs i f)
unfolding IsStrictlySortedBy
rises_insert order [] zero f r before after = (tt, tt)
rises_insert order [] (suc i) f r before after = (tt, tt)
rises_insert order (x ∷ xs) zero f r before after = (all_from (λ y. order f y ≡ Less) (x ∷ xs) (λ k d h. after k d (omega arith) h), r)
rises_insert order (x ∷ xs) (suc i) f r before after = (
  all_insert (λ y. order x y ≡ Less) xs i f r.0 (before 0 x (omega arith) (omega arith)),
  rises_insert order xs i f r.1 (λ k d h w. before (suc k) d (omega arith) (omega arith)) (λ k d h w. after (suc k) d (omega arith) (omega arith)),
)

-- what stands in the list with f
to_insert : {X : Type 0} (xs : List X) (i : ℕ) (f x : X) → (x ≡ f) ⊎ Has xs x → Has (insert xs i f) x
to_insert [] zero f x h = h
to_insert [] (suc i) f x h = h
to_insert (y ∷ ys) zero f x h = h
to_insert (y ∷ ys) (suc i) f x (inl e) = inr (to_insert ys i f x (inl e))
to_insert (y ∷ ys) (suc i) f x (inr (inl e)) = inl e
to_insert (y ∷ ys) (suc i) f x (inr (inr h)) = inr (to_insert ys i f x (inr h))

from_insert : {X : Type 0} (xs : List X) (i : ℕ) (f x : X) → Has (insert xs i f) x → (x ≡ f) ⊎ Has xs x
from_insert [] zero f x h = h
from_insert [] (suc i) f x h = h
from_insert (y ∷ ys) zero f x h = h
from_insert (y ∷ ys) (suc i) f x (inl e) = inr (inl e)
from_insert (y ∷ ys) (suc i) f x (inr h) = elim (from_insert ys i f x h) [ inl e ↦ inl e | inr k ↦ inr (inr k) ]

pub has_insert : {X : Type 0} (xs : List X) (i : ℕ) (f x : X) → Has (insert xs i f) x ↔ ((x ≡ f) ⊎ Has xs x)
has_insert xs i f x = (from_insert xs i f x, to_insert xs i f x)
