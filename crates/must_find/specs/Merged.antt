-- Two lists merged into one.
use Rattle.std.specs.declared.cmp.Ordering.{Ordering}
use Rattle.std.specs.Prelude.{◌⊎◌, ◌↔◌, List}
use Rattle.must_base.specs.Listing.{Has, Rises}

-- the list rises and has exactly what stands in either list
pub record IsMerged {X : Type 0} (order : X → X → Ordering) (xs ys out : List X) : Type 0 where
  pub rises : Rises order out
  pub exact : (z : X) → Has out z ↔ (Has xs z ⊎ Has ys z)
