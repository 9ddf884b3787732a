-- What the operations of a group have in common. No public contract speaks of it.
use Rattle.std.specs.Prelude.{◌≡◌, false, ◌≤◌, ℤ, ◌≤ℤ◌, ◌<ℤ◌, List, [], ◌∷◌, ◌++◌}
use Rattle.std.specs.List.{AllByRecursion}
use Rattle.must_span.specs.declared.ranges.AddressRange.{AddressRange}
use Rattle.must_span.specs.Ranges.{Covers}
use Rattle.must_pending.specs.declared.access.Access.TheVariants.{Reads}
use Rattle.must_pending.specs.declared.held.Held.{Held}
use Rattle.must_pending.specs.declared.group.Common.{Common}

-- each address lies from low to below high
pub record AreWithin (low high : ℤ) (spans : List AddressRange) : Type 0 where
  pub from : (x : ℤ) → Covers spans x → low ≤ℤ x
  pub below : (x : ℤ) → Covers spans x → x <ℤ high

pub record Surrounds (c : Common) (h : Held) : Type 0 where
  pub within : AreWithin c.low c.high h.spans
  pub reads : c.writes ≡ false → h.access ≡ Reads
  pub from_least : c.least ≤ h.request
  pub to_greatest : h.request ≤ c.greatest

abbrev pub SurroundAll : Common → List Held → Type 0
SurroundAll c hs = AllByRecursion (Surrounds c) hs

-- all lists, one behind another
abbrev pub joined : List (List Held) → List Held
joined [] = []
joined (hs ∷ rest) = hs ++ joined rest
