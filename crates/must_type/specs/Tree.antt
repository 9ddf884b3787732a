-- A type as it was made: a basic type, or a making call with the types that it stands on (docs/TYPES.md).
use Rattle.std.specs.Prelude.{ℕ, zero, suc, ◌+◌, ◌≤◌, ◌^◌, max, ℤ, pos, List, [], ◌∷◌, Option, Some, None}
use Rattle.std.specs.List.{AllByRecursion}
use Rattle.must_call.specs.declared.basic.Basic.{Basic}
use Rattle.must_type.specs.declared.construct.Construct.{Construct}
use Rattle.must_type.specs.declared.tree.Origin.{Origin}
use Rattle.must_type.specs.declared.tree.Origin.TheVariants.{Predefined, Derived}
use Rattle.must_type.specs.Maps.{Entry, Element, displacement, end_of, size, lower, upper, extent, IsBounded}
use Rattle.must_type.specs.Constructs.{map_of}
use Rattle.must_type.specs.Weights.{Old, weight_of}

mutual
  pub data TypeTree : Type 0 where
    Elementary : Basic → TypeTree
    Made : Origin → Construct → Trees → TypeTree

  pub data Trees : Type 0 where
    none : Trees
    more : TypeTree → Trees → Trees

-- the map, by recursion on the making call
abbrev mutual
  pub type_map : TypeTree → List Entry
  type_map (Elementary b) = Element b (pos 0) ∷ []
  type_map (Made origin call olds) = map_of call (type_maps olds)

  pub type_maps : Trees → List (List Entry)
  type_maps none = []
  type_maps (more t ts) = type_map t ∷ type_maps ts

-- a predefined type has depth 0, a derived one is one deeper than the deepest of its old types
abbrev mutual
  pub depth : TypeTree → ℕ
  depth (Elementary b) = 0
  depth (Made Predefined call olds) = 0
  depth (Made Derived call olds) = greatest_depth olds + 1

  pub greatest_depth : Trees → ℕ
  greatest_depth none = 0
  greatest_depth (more t ts) = max (depth t) (greatest_depth ts)

-- the byte ranges that one element takes at most, counted along the tree
abbrev mutual
  pub weight : TypeTree → ℕ
  weight (Elementary b) = 1
  weight (Made origin call olds) = weight_of call (weighed olds)

  pub weighed : Trees → List Old
  weighed none = []
  weighed (more t ts) = record { weight = weight t; size = size (type_map t); extent = extent (type_map t) } ∷ weighed ts

-- a number of bytes that a type may reach to
abbrev pub IsNear : ℤ → Type 0
IsNear at = IsBounded (2 ^ 62) at

pub record IsNearEntry (e : Entry) : Type 0 where
  pub begins : IsNear (displacement e)
  pub ends : IsNear (end_of e)

-- what lies within the reach of a type
pub record IsWithinReach (t : TypeTree) : Type 0 where
  pub shallow : depth t ≤ 256
  pub small : size (type_map t) ≤ 2 ^ 62
  pub lower_near : IsNear (lower (type_map t))
  pub upper_near : IsNear (upper (type_map t))
  pub entries_near : AllByRecursion IsNearEntry (type_map t)

abbrev pub row_length : Trees → ℕ
row_length none = 0
row_length (more t ts) = row_length ts + 1

abbrev pub row_get : Trees → ℕ → Option TypeTree
row_get none i = None
row_get (more t ts) zero = Some t
row_get (more t ts) (suc i) = row_get ts i

-- the basic type that a tree is; the call that made it; its i-th old type
abbrev pub basic_of : TypeTree → Option Basic
basic_of (Elementary b) = Some b
basic_of (Made origin call olds) = None

abbrev pub call_of : TypeTree → Option Construct
call_of (Elementary b) = None
call_of (Made origin call olds) = Some call

abbrev pub old_at : TypeTree → ℕ → Option TypeTree
old_at (Elementary b) i = None
old_at (Made origin call olds) i = row_get olds i

-- the maps of the old types, and what the weight of a call takes from them, in the call's order
abbrev pub old_maps : TypeTree → List (List Entry)
old_maps (Elementary b) = []
old_maps (Made origin call olds) = type_maps olds

abbrev pub as_old : TypeTree → Old
as_old t = record { weight = weight t; size = size (type_map t); extent = extent (type_map t) }

abbrev pub old_weights : TypeTree → List Old
old_weights (Elementary b) = []
old_weights (Made origin call olds) = weighed olds

-- how many calls lie one in another; it falls from a type to each of its old types
abbrev mutual
  pub height : TypeTree → ℕ
  height (Elementary b) = 0
  height (Made origin call olds) = greatest_height olds + 1

  pub greatest_height : Trees → ℕ
  greatest_height none = 0
  greatest_height (more t ts) = max (height t) (greatest_height ts)
