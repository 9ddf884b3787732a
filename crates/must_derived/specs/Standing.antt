-- What the table of a rank's types stands for.
use Rattle.std.specs.Prelude.{◌≡◌, ℕ, ◌+◌, ◌<◌, ◌≤◌, List, length, Option, Some, None}
use Rattle.must_call.specs.declared.class.Class.TheVariants.{Datatype}
use Rattle.must_call.specs.declared.life.Life.{Life}
use Rattle.must_call.specs.declared.life.Life.TheVariants.{Never, Live, Freed, Predefined}
use Rattle.must_call.specs.declared.call.Call.{Call}
use Rattle.must_format.specs.declared.cause.Limit.{Limit}
use Rattle.must_format.specs.declared.cause.Limit.TheVariants.{TypeWeight, TypeReach}
use Rattle.must_type.specs.declared.fault.Limit2.TheVariants.{Weight, Reach}
use Rattle.must_type.specs.declared.fault.TypeFault.{TypeFault}
use Rattle.must_type.specs.declared.fault.TypeFault.TheVariants.{TooWide, NoMemory}
use Rattle.must_type.specs.declared.construct.TypeNo.{TypeNo}
use Rattle.must_type.specs.Tree.{TypeTree, type_map, weight, depth}
use Rattle.must_type.specs.Table.{tree_at, live_weight, slot_weight, IsDerived}
use Rattle.must_rules.specs.Lives.{life, made_count}
use Rattle.must_rules.specs.Starts.{Clearness}
use Rattle.must_rules.specs.Types.{type_of, types_weight}
use Rattle.must_derived.specs.declared.datatypes.Datatypes.{Datatypes}
use Rattle.must_derived.specs.Numbers.{number_of}

-- types that differ by the numbers of their old types at most
pub record IsLike (t u : TypeTree) : Type 0 where
  pub map : type_map t ≡ type_map u
  pub weight : weight t ≡ weight u
  pub depth : depth t ≡ depth u
  pub slot : slot_weight (Some t) ≡ slot_weight (Some u)

-- what the table has of a handle that is live
pub record IsHeld (at : Option TypeTree) (t : TypeTree) : Type 0 where
  pub held : TypeTree
  pub at_is : at ≡ Some held
  pub like : IsLike held t
  pub derived : IsDerived (Some held)

-- what the table has, by the life of the handle
abbrev pub Suits : Option TypeTree → Life → Option TypeTree → Type 0
Suits at life None = ⊥
Suits at (Live made) (Some t) = IsHeld at t
Suits at Predefined (Some t) = (at ≡ Some t) × (IsDerived (Some t) → ⊥)
Suits at (Freed made freed) (Some t) = at ≡ None
Suits at Never (Some t) = ⊥

abbrev pub Fits : List (Option TypeTree) → Option TypeNo → Life → Option TypeTree → Type 0
Fits slots None life t = t ≡ None
Fits slots (Some n) life t = Suits (tree_at slots n.number) life t

pub record Stands (is_clear : Clearness) (types : Datatypes) (calls : List Call) : Type 0 where
  pub size : length types.numbers ≡ made_count calls
  pub fits : (handle : ℕ) → Fits types.table.slots (number_of types.numbers handle) (life calls Datatype handle) (type_of is_clear calls handle)
  pub placed : (handle : ℕ) (n : TypeNo) → number_of types.numbers handle ≡ Some n → n.number < length types.table.slots
  pub apart : (g h : ℕ) (n : TypeNo) → number_of types.numbers g ≡ Some n → number_of types.numbers h ≡ Some n → g ≡ h
  pub fresh : (handle : ℕ) → 64 + length types.numbers ≤ handle → life calls Datatype handle ≡ Never
  pub weighs : live_weight types.table.slots ≡ types_weight is_clear calls

-- a fault other than want of memory is this limit
abbrev pub IsTypeLimit : Option Limit → TypeFault → Type 0
IsTypeLimit reached (TooWide Weight) = reached ≡ Some TypeWeight
IsTypeLimit reached (TooWide Reach) = reached ≡ Some TypeReach
IsTypeLimit reached NoMemory = Unit {0}
