-- What a table of made handles tells, and the calls that it stands for.
use Rattle.std.specs.Prelude.{◌≡◌, ℕ, ◌-◌, nat_le, Bool, false, ◌&&◌, ◌||◌, if◌then◌else◌, List, Option, Some, None, length, slice_get, is_none}
use Rattle.must_call.specs.declared.class.Class.{Class}
use Rattle.must_call.specs.declared.class.Class.TheVariants.{Datatype, Request}
use Rattle.must_call.specs.declared.life.Life.{Life}
use Rattle.must_call.specs.declared.life.Life.TheVariants.{Never, Predefined}
use Rattle.must_call.specs.declared.call.Call.{Call}
use Rattle.must_rules.specs.Making.{same_class}
use Rattle.must_rules.specs.Lives.{is_predefined, life, life_from, is_kept, committed, made_count}
use Rattle.must_rules.specs.Starts.{Clearness, start_of}
use Rattle.must_handle.specs.declared.slot.Slot.{Slot}

-- made handles have the numbers from 64 on, in the order of the table
abbrev pub slot_of : List Slot → ℕ → Option Slot
slot_of slots number = if nat_le 64 number then slice_get slots (number - 64) else None

abbrev pub life_in : Class → Option Slot → Life
life_in class None = Never
life_in class (Some slot) = if same_class slot.class class then life_from slot.made slot.freed else Never

-- the life of a handle by the table
abbrev pub state_in : List Slot → Class → ℕ → Life
state_in slots class number = if is_predefined class number then Predefined else life_in class (slot_of slots number)

abbrev pub is_open : Class → Slot → Bool
is_open class slot = same_class slot.class class && is_none slot.freed

abbrev pub kept_slot : Class → Option Slot → Bool
kept_slot class None = false
kept_slot class (Some slot) = is_open class slot && slot.persistent

-- the handle is live and a persistent request by the table
abbrev pub kept_in : List Slot → Class → ℕ → Bool
kept_in slots class number = if is_predefined class number then false else kept_slot class (slot_of slots number)

abbrev pub start_slot : Option Slot → Option ℕ
start_slot None = None
start_slot (Some slot) = if is_open Request slot then slot.start else None

-- the start of an active request by the table
abbrev pub start_in : List Slot → ℕ → Option ℕ
start_in slots number = start_slot (slot_of slots number)

abbrev pub is_committed : Option Slot → Bool
is_committed None = false
is_committed (Some slot) = slot.committed

abbrev pub committed_in : List Slot → ℕ → Bool
committed_in slots number = is_predefined Datatype number || is_committed (slot_of slots number)

-- the table tells what these calls did
pub record Stands (is_clear : Clearness) (slots : List Slot) (calls : List Call) : Type 0 where
  pub count : length slots ≡ made_count calls
  pub lives : (class : Class) (number : ℕ) → state_in slots class number ≡ life calls class number
  pub keeps : (class : Class) (number : ℕ) → kept_in slots class number ≡ is_kept calls class number
  pub starts : (number : ℕ) → start_in slots number ≡ start_of is_clear calls number
  pub commits : (number : ℕ) → committed_in slots number ≡ committed calls number
