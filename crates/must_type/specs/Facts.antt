-- What a type knows of itself: the numbers that its map, its depth and its weight give.
use Rattle.std.specs.Prelude.{◌≡◌, ◌+◌, ◌≤◌, ◌^◌, ℤ, pos, List, Option, length}
use Rattle.std.specs.Option.{MatchOption}
use Rattle.std.specs.Int.RustNames.{unsigned_abs}
use Rattle.must_type.specs.declared.bounds.Bounds.{Bounds}
use Rattle.must_type.specs.declared.facts.Facts.{Facts}
use Rattle.must_type.specs.declared.summary.Summary.{Summary}
use Rattle.must_type.specs.Maps.{Entry, size, lower, upper, extent, IsBounded}
use Rattle.must_type.specs.Summaries.{summary, Fits, IsOrdered, IsBoundedBy}
use Rattle.must_type.specs.Weights.{Old}
use Rattle.must_type.specs.Tree.{TypeTree, Elementary, Made, type_map, depth, weight, row_length, IsWithinReach}

-- the size and the bounds of a map
unfoldable pub bounds_of : List Entry → Bounds
bounds_of es = record { size = pos (size es); lb = lower es; ub = upper es; extent = extent es }

unfoldable pub facts_of : TypeTree → Facts
facts_of t = record { summary = summary (type_map t); bounds = bounds_of (type_map t); depth = depth t; weight = weight t }

-- facts that numbers can be computed from without wrapping
pub record IsSettled (f : Facts) : Type 0 where
  pub fits : Fits f.summary
  pub ordered : IsOrdered f.summary
  pub aligned : 1 ≤ f.summary.alignment
  pub near : IsBounded (2 ^ 63) f.bounds.extent

-- of these facts what the map of a type gives
pub record IsOf (es : List Entry) (f : Facts) : Type 0 where
  pub summary_is : f.summary ≡ summary es
  pub extent_is : f.bounds.extent ≡ extent es

-- what the weight of a call takes from an old type with these facts
abbrev pub weighed_facts : Facts → Old
weighed_facts f = record { weight = f.weight; size = f.summary.size; extent = f.bounds.extent }

-- numbers that leave room for one step more
pub record IsModest (s : Summary) : Type 0 where
  pub bounded : IsBoundedBy (2 ^ 96) s
  pub ordered : IsOrdered s
  pub aligned : 1 ≤ s.alignment
  pub small : s.size ≤ 2 ^ 94

-- a summary, where it fits
abbrev pub IsWhereFits : Option Summary → Summary → Type 0
IsWhereFits found s = MatchOption found (Fits s → ⊥) (λ t. (t ≡ s) × Fits s)

-- numbers of a part of an array that leave room for one dimension more, in which a step is `step` bytes
pub record IsPartly (step : ℤ) (s : Summary) : Type 0 where
  pub near : IsBounded (2 ^ 63) step
  pub bounded : IsBoundedBy (2 ^ 62 + unsigned_abs step) s
  pub ordered : IsOrdered s
  pub aligned : 1 ≤ s.alignment
  pub small : s.size ≤ 2 ^ 62
