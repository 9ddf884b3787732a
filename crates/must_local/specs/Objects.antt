-- A table of what a rank knows of its communicators and groups.
use Rattle.std.specs.Prelude.{◌≡◌, ℕ, Bool, ◌+◌, ◌-◌, ◌==◌, ◌<◌, ◌≤◌, nat_le, nat_eq, if◌then◌else◌, List, [], length, Option, Some, None, option_map, slice_get}
use Rattle.std.specs.List.{All, IsDistinct}
use Rattle.must_call.specs.declared.constants.TheConstants.{COMM_WORLD, COMM_SELF, GROUP_EMPTY, FIRST_MADE}
use Rattle.must_call.specs.declared.class.Class.TheVariants as class
use Rattle.must_call.specs.declared.call.Call.{Call}
use Rattle.must_rules.specs.Rank.{Rank}
use Rattle.must_rules.specs.Lives.{life, made_count}
use Rattle.must_rules.specs.Communicators.{Derived, there, collectives, name_of}
use Rattle.must_rules.specs.Known.{group_of}
use Rattle.must_items.specs.CollectiveLists.{commute_of}
use Rattle.must_local.specs.Counted.{Counted, counted}
use Rattle.must_local.specs.declared.known.Known.{Known}
use Rattle.must_local.specs.declared.known.Known.TheVariants as known

-- ---- the table: the world and the rank alone, and behind them the handles that were made, in order of number

abbrev pub place_of : ℕ → Option ℕ
place_of number = if nat_le FIRST_MADE number then Some (number - 62) else if number == COMM_WORLD then Some 0 else if number == COMM_SELF then Some 1 else None

abbrev pub slot_in : List Known → Option ℕ → Option Known
slot_in slots None = None
slot_in slots (Some place) = slice_get slots place

abbrev pub slot_of : List Known → ℕ → Option Known
slot_of slots number = slot_in slots (place_of number)

abbrev pub comm_slot : Option Known → Option Counted
comm_slot (Some (known.Comm comm)) = Some comm
comm_slot _ = None

abbrev pub comm_in : List Known → ℕ → Option Counted
comm_in slots number = comm_slot (slot_of slots number)

abbrev pub group_slot : Option Known → Option (List ℕ)
group_slot (Some (known.Group group)) = Some group
group_slot _ = None

abbrev pub group_in : List Known → ℕ → Option (List ℕ)
group_in slots number = if number == GROUP_EMPTY then Some [] else group_slot (slot_of slots number)

abbrev pub operation_slot : Option Known → Option Bool
operation_slot (Some (known.Operation commute)) = Some commute
operation_slot _ = None

-- whether a created operation commutes
abbrev pub operation_in : List Known → ℕ → Option Bool
operation_in slots number = operation_slot (slot_of slots number)

-- ---- what it stands for

-- a sound communicator after these calls
abbrev pub counted_of : Rank → List Call → ℕ → Option Counted
counted_of r calls comm = option_map (counted (collectives calls comm)) (name_of r calls comm)

-- the table tells what is known of handles that may be used
pub record Remembers (r : Rank) (slots : List Known) (calls : List Call) : Type 0 where
  pub size : length slots ≡ 2 + made_count calls
  pub comms : (comm : ℕ) → there (life calls class.Comm comm) (comm_in slots comm) ≡ there (life calls class.Comm comm) (counted_of r calls comm)
  pub groups : (group : ℕ) → there (life calls class.Group group) (group_in slots group) ≡ there (life calls class.Group group) (group_of r calls group)
  pub operations : (op : ℕ) → operation_in slots op ≡ commute_of calls op

-- the members that a communicator may have: at most 1,024 distinct ranks below that
pub record AreMembers (members : List ℕ) : Type 0 where
  pub distinct : IsDistinct nat_eq members
  pub small : All (λ member. member < 1024) members
  pub few : length members ≤ 1024

-- those of the communicator that a call makes, if any
abbrev pub HasMembers : Option Derived → Type 0
HasMembers None = Unit {0}
HasMembers (Some d) = AreMembers d.members
