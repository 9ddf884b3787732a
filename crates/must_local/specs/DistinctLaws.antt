-- Laws of lists in which nothing stands twice.
use Rattle.std.proofs.Common.{◌≡◌, List, [], ◌∷◌, ◌++◌, refl, inl, inr, Ordering, Less}
use Rattle.std.specs.Prelude.{◌⊎◌}
use Rattle.std.specs.Cmp.{IsTotalOrder}
use Rattle.must_base.specs.Listing.{Has, Rises}
use Rattle.must_base.specs.ListingLaws.{all_has, irreflexive, rises_head, rises_tail}
use Rattle.must_local.specs.Distinct.{AreDistinct}

pub has_append : {X : Type 0} (xs ys : List X) (z : X) → Has (xs ++ ys) z → Has xs z ⊎ Has ys z
has_append [] ys z h = inr h
has_append (x ∷ xs) ys z (inl e) = inl (inl e)
has_append (x ∷ xs) ys z (inr h) = elim (has_append xs ys z h) [ inl there ↦ inl (inr there) | inr there ↦ inr there ]

pub has_front : {X : Type 0} (xs ys : List X) (z : X) → Has xs z → Has (xs ++ ys) z
has_front [] ys z h = absurd h
has_front (x ∷ xs) ys z (inl e) = inl e
has_front (x ∷ xs) ys z (inr h) = inr (has_front xs ys z h)

pub has_behind : {X : Type 0} (xs ys : List X) (z : X) → Has ys z → Has (xs ++ ys) z
has_behind [] ys z h = h
has_behind (x ∷ xs) ys z h = inr (has_behind xs ys z h)

pub distinct_append : {X : Type 0} (xs ys : List X) → AreDistinct xs → AreDistinct ys → ((z : X) → Has xs z → Has ys z → ⊥) → AreDistinct (xs ++ ys)
distinct_append [] ys d e apart = e
distinct_append (x ∷ xs) ys d e apart = (
  λ h. elim (has_append xs ys x h) [ inl there ↦ d.0 there | inr there ↦ apart x (inl refl) there ],
  distinct_append xs ys d.1 e (λ z there here. apart z (inr there) here),
)

-- what rises has nothing twice
pub rises_distinct : {X : Type 0} (order : X → X → Ordering) → IsTotalOrder order → (xs : List X) → Rises order xs → AreDistinct xs
rises_distinct order o [] r = tt
rises_distinct order o (x ∷ xs) r = (λ h. irreflexive order o x (all_has (λ y. order x y ≡ Less) xs x (rises_head order x xs r) h), rises_distinct order o xs (rises_tail order x xs r))
