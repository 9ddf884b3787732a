-- What is true of a type that a table made (docs/TYPES.md).
use Rattle.std.specs.Prelude.{◌≡◌, ◌≤◌, ◌^◌, length}
use Rattle.must_type.specs.declared.construct.Construct.{Construct}
use Rattle.must_type.specs.Constructs.{map_of}
use Rattle.must_type.specs.Weights.{weight_of}
use Rattle.must_type.specs.Allowed.{IsAllowed}
use Rattle.must_type.specs.Olds.{old_numbers}
use Rattle.must_type.specs.Tree.{TypeTree, Elementary, Made, type_map, weight, old_maps, old_weights, row_length, IsWithinReach}

-- The type is what the call makes of its old types: the call names as many, and its numbers are allowed.
pub record IsMadeBy (t : TypeTree) (call : Construct) : Type 0 where
  pub map_is : type_map t ≡ map_of call (old_maps t)
  pub weight_is : weight t ≡ weight_of call (old_weights t)
  pub olds : length (old_maps t) ≡ length (old_numbers call)
  pub allowed : IsAllowed call

-- the call is allowed, and there are as many old types as it names
abbrev pub IsWellMade : TypeTree → Type 0
IsWellMade (Elementary b) = Unit {0}
IsWellMade (Made origin call olds) = IsAllowed call × (row_length olds ≡ length (old_numbers call))

-- what is true of every type that a table holds or held
pub record IsMakeable (t : TypeTree) : Type 0 where
  pub reach : IsWithinReach t
  pub made : IsWellMade t
  pub light : weight t ≤ 2 ^ 64
