-- What a call does to a table of types.
use Rattle.std.specs.Prelude.{◌≡◌, ◌⊎◌, ℕ, ◌+◌, ◌<◌, ◌≤◌, Bool, true, List, [], ◌∷◌, ◌++◌, length, Option, Some, None, slice_set}
use Rattle.must_call.specs.declared.class.Class.{Class}
use Rattle.must_call.specs.declared.class.Class.TheVariants.{Datatype}
use Rattle.must_call.specs.declared.body.Body.{Body}
use Rattle.must_type.specs.declared.fault.Limit2.TheVariants.{Weight, Reach}
use Rattle.must_type.specs.declared.fault.TypeFault.{TypeFault}
use Rattle.must_type.specs.declared.fault.TypeFault.TheVariants.{TooWide, NoMemory}
use Rattle.must_type.specs.declared.construct.TypeNo.{TypeNo}
use Rattle.must_type.specs.declared.construct.Construct.{Construct}
use Rattle.must_type.specs.Olds.{old_numbers}
use Rattle.must_type.specs.Tree.{TypeTree, weight, IsWithinReach}
use Rattle.must_type.specs.Table.{Types, tree_at, made_of, AreLive, live_weight, IsDerived}
use Rattle.must_derived.specs.Numbers.{number_of, construct_by}

-- ---- making

-- the call makes this of types that are in the table
pub record Builds (table : Types) (numbers : List (Option TypeNo)) (b : Body) : Type 0 where
  pub call : Construct
  pub call_is : construct_by numbers b ≡ Some call
  pub live : AreLive table.slots (old_numbers call)

abbrev pub built : (table : Types) (numbers : List (Option TypeNo)) (b : Body) → Builds table numbers b → TypeTree
built table numbers b builds = made_of table.slots builds.call

-- its type stands behind the others
pub record Grows (old : Types) (numbers : List (Option TypeNo)) (b : Body) (n : TypeNo) (new : Types) : Type 0 where
  pub builds : Builds old numbers b
  pub number : n.number ≡ length old.slots
  pub new_is : new ≡ record old { slots = old.slots ++ Some (built old numbers b builds) ∷ [] }
  pub light : live_weight old.slots + weight (built old numbers b builds) ≤ old.weight_limit
  pub within : IsWithinReach (built old numbers b builds)

abbrev pub Makes : Types → List (Option TypeNo) → Body → Option TypeNo → Types → Type 0
Makes old numbers b None new = (construct_by numbers b ≡ None) × (new ≡ old)
Makes old numbers b (Some n) new = Grows old numbers b n new

-- the weight is too great
pub record IsHeavy (old : Types) (numbers : List (Option TypeNo)) (b : Body) : Type 0 where
  pub builds : Builds old numbers b
  pub heavy : old.weight_limit < live_weight old.slots + weight (built old numbers b builds)

-- the reach is too great
pub record IsWide (old : Types) (numbers : List (Option TypeNo)) (b : Body) : Type 0 where
  pub builds : Builds old numbers b
  pub light : live_weight old.slots + weight (built old numbers b builds) ≤ old.weight_limit
  pub wide : IsWithinReach (built old numbers b builds) → ⊥

abbrev pub IsRefused : Types → List (Option TypeNo) → Body → TypeFault → Type 0
IsRefused old numbers b (TooWide Weight) = IsHeavy old numbers b
IsRefused old numbers b (TooWide Reach) = IsWide old numbers b
IsRefused old numbers b NoMemory = Unit {0}

-- the same of a call that makes a handle of this class: types are made by clear calls alone
abbrev pub MakesOf : Class → Bool → Types → List (Option TypeNo) → Body → Option TypeNo → Types → Type 0
MakesOf Datatype true old numbers b n new = Makes old numbers b n new
MakesOf _ _ old numbers b n new = (n ≡ None) × (new ≡ old)

abbrev pub IsRefusedOf : Class → Bool → Types → List (Option TypeNo) → Body → TypeFault → Type 0
IsRefusedOf Datatype true old numbers b fault = IsRefused old numbers b fault
IsRefusedOf _ _ old numbers b fault = fault ≡ NoMemory

-- ---- freeing

abbrev pub number_freed : List (Option TypeNo) → Option ℕ → Option TypeNo
number_freed numbers None = None
number_freed numbers (Some handle) = number_of numbers handle

-- a derived type leaves the table
abbrev pub FreesAt : Types → Option TypeNo → Types → Type 0
FreesAt old None new = new ≡ old
FreesAt old (Some n) new =
    (IsDerived (tree_at old.slots n.number) × (new ≡ record old { slots = slice_set old.slots n.number None }))
    ⊎ ((IsDerived (tree_at old.slots n.number) → ⊥) × (new ≡ old))
