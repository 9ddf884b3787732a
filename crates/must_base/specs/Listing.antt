-- Lists that rise and have exactly what a property tells.
use Rattle.std.specs.declared.cmp.Ordering.{Ordering}
use Rattle.std.specs.Prelude.{◌≡◌, ◌⊎◌, ◌↔◌, List, [], ◌∷◌}
use Rattle.std.specs.List.Sorted.{IsStrictlySortedBy}

-- x stands in the list: std's `Contains`, by recursion on the list (ListingLaws)
abbrev pub Has : {X : Type 0} → List X → X → Type 0
Has [] x = ⊥
Has (y ∷ ys) x = (x ≡ y) ⊎ Has ys x

-- each element is before all later ones
abbrev pub Rises : {X : Type 0} → (X → X → Ordering) → List X → Type 0
Rises order xs = IsStrictlySortedBy order xs

-- the list rises, and what stands in it is what P tells
pub record Lists {X : Type 0} (order : X → X → Ordering) (P : X → Type 0) (xs : List X) : Type 0 where
  pub rises : Rises order xs
  pub exact : (x : X) → Has xs x ↔ P x
