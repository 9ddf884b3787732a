-- What a call does to a table of made handles.
use Rattle.std.specs.Prelude.{◌≡◌, ℕ, ◌+◌, ◌==◌, Bool, true, false, not, ◌&&◌, List, Option, Some, None, length, slice_get}
use Rattle.must_call.specs.declared.class.Class.{Class}
use Rattle.must_call.specs.declared.class.Class.TheVariants.{Datatype, Request}
use Rattle.must_call.specs.declared.call.Call.{Call}
use Rattle.must_call.specs.Handles.{ClassedHandle}
use Rattle.must_rules.specs.Search.{only_if}
use Rattle.must_rules.specs.Making.{is_in, same_class, made_by, persists, frees, completes, commits, copies, started_of}
use Rattle.must_rules.specs.Lives.{commits_live, copies_committed}
use Rattle.must_handle.specs.declared.slot.Slot.{Slot}
use Rattle.must_handle.specs.Slots.{life_in, committed_in}

-- each slot became what f makes of it and of its number
pub record Changes (f : ℕ → Slot → Slot) (old new : List Slot) : Type 0 where
  pub size : length new ≡ length old
  pub each : (i : ℕ) (slot : Slot) → slice_get old i ≡ Some slot → slice_get new i ≡ Some (f (64 + i) slot)

abbrev pub committed_when : Bool → Slot → Slot
committed_when true slot = record slot { committed = true }
committed_when false slot = slot

abbrev pub commit_if : Bool → Slot → Slot
commit_if is_named slot = committed_when (commits_live is_named (life_in Datatype (Some slot))) slot

-- the type of this number is committed, where it is live
abbrev pub commit_one : ℕ → ℕ → Slot → Slot
commit_one number n slot = commit_if (number == n) slot

-- what a call that commits does to a handle that an earlier one made
abbrev pub commit_slot : Call → ℕ → Slot → Slot
commit_slot call n slot = commit_if (commits n call) slot

-- a request that isn't under way is started by call k
abbrev pub started : Bool → Option ℕ → ℕ → Slot → Slot
started true None k slot = record slot { start = Some k }
started true (Some start) k slot = slot
started false start k slot = slot

abbrev pub start_if : Bool → ℕ → Slot → Slot
start_if is_named k slot = started is_named slot.start k slot

abbrev pub start_one : ℕ → ℕ → ℕ → Slot → Slot
start_one number k n slot = start_if (same_class slot.class Request && (number == n)) k slot

abbrev pub start_requests : List ℕ → ℕ → ℕ → Slot → Slot
start_requests requests k n slot = start_if (same_class slot.class Request && is_in requests n) k slot

abbrev pub started_slot : Bool → Call → ℕ → ℕ → Slot → Slot
started_slot clear call k n slot = start_if (same_class slot.class Request && (clear && is_in (started_of call.body) n)) k slot

-- a live handle is freed by call k
abbrev pub closed : Bool → Option ℕ → ℕ → Slot → Slot
closed true None k slot = record slot { freed = Some k }
closed true (Some freed) k slot = slot
closed false freed k slot = slot

abbrev pub free_if : Bool → ℕ → Slot → Slot
free_if is_named k slot = closed is_named slot.freed k slot

abbrev pub free_one : Class → ℕ → ℕ → ℕ → Slot → Slot
free_one class number k n slot = free_if (same_class class slot.class && (number == n)) k slot

abbrev pub freed_slot : Call → ℕ → ℕ → Slot → Slot
freed_slot call k n slot = free_if (frees slot.class n call) k slot

-- a live request is completed by call k: it is no longer under way, and is freed where it isn't persistent
abbrev pub completed : Bool → Option ℕ → ℕ → Slot → Slot
completed true None k slot = record slot { freed = only_if (not slot.persistent) k; start = None }
completed true (Some freed) k slot = slot
completed false freed k slot = slot

abbrev pub complete_if : Bool → ℕ → Slot → Slot
complete_if is_named k slot = completed is_named slot.freed k slot

abbrev pub complete_one : ℕ → ℕ → ℕ → Slot → Slot
complete_one number k n slot = complete_if (same_class slot.class Request && (number == n)) k slot

abbrev pub complete_requests : List ℕ → ℕ → ℕ → Slot → Slot
complete_requests requests k n slot = complete_if (same_class slot.class Request && is_in requests n) k slot

abbrev pub completed_slot : Call → ℕ → ℕ → Slot → Slot
completed_slot call k n slot = complete_if (completes slot.class n call) k slot

-- what call k, which makes no handle, does to one that an earlier call made
abbrev pub passed_slot : Bool → Call → ℕ → ℕ → Slot → Slot
passed_slot clear call k n slot = completed_slot call k n (freed_slot call k n (started_slot clear call k n (commit_slot call n slot)))

-- the handle that the call makes, if any, has the next number
abbrev pub IsNext : List Slot → Call → Type 0
IsNext slots call = (class : Class) (number : ℕ) → made_by call ≡ Some (class, number) → number ≡ 64 + length slots

-- and this tells whether it has
abbrev pub next_by : Option ClassedHandle → ℕ → Bool
next_by None next = true
next_by (Some h) next = h.1 == next

-- what the table gets for a handle of this class that call k makes
abbrev pub fresh : List Slot → ℕ → Call → Class → Slot
fresh slots k call class = record {
  class = class;
  made = k;
  freed = None;
  committed = copies_committed (committed_in slots) (copies (64 + length slots) call);
  persistent = persists call;
  start = only_if (not (persists call)) k;
}
