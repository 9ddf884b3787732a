-- Which parts of a call are usable: those whose buffers other rules look at (docs/RULES.md).
use Rattle.std.specs.Prelude.{ℕ, ◌+◌, ℤ, Bool, true, false, not, ◌&&◌, ◌||◌, List, [], ◌∷◌, Option, Some, None, is_some, nat_eq, if◌then◌else◌}
use Rattle.std.specs.Ordering.{int_eq}
use Rattle.must_call.specs.declared.constants.TheConstants.{PROC_NULL}
use Rattle.must_call.specs.declared.field.Side.{Side}
use Rattle.must_call.specs.declared.field.Side.TheVariants.{Send, Receive, Both}
use Rattle.must_call.specs.declared.field.Handle.TheVariants as handle
use Rattle.must_call.specs.declared.field.Int.TheVariants as int
use Rattle.must_call.specs.declared.field.Field.{Field}
use Rattle.must_call.specs.declared.field.Field.TheVariants.{Handle, Buffer, I32}
use Rattle.must_call.specs.declared.body.Body.{Body}
use Rattle.must_call.specs.Values.{Value, Typed}
use Rattle.must_call.specs.Bodies.{inputs_of}
use Rattle.must_rules.specs.Facts.{Facts}
use Rattle.must_rules.specs.Significant.{first_told, comm_of, significant_in, is_send, is_receive}
use Rattle.must_rules.specs.Breaches.{part_in}
use Rattle.must_rules.specs.Clear.{is_clear}

-- a field of both sides serves each of them
abbrev pub serves : Side → Side → Bool
serves Both s = true
serves Send Send = true
serves Receive Receive = true
serves _ _ = false

-- the datatype of a side's buffer
abbrev pub type_in : Side → (f : Field) → Value f → Option ℕ
type_in s (Handle (handle.Datatype t)) h = if serves t s then Some h else None
type_in s _ _ = None

-- the rank that a side goes to or comes from
abbrev pub peer_in : Side → (f : Field) → Value f → Option ℤ
peer_in s (I32 int.Dest) z = if is_send s then Some z else None
peer_in s (I32 int.Source) z = if is_receive s then Some z else None
peer_in s _ _ = None

-- the datatype is there, and sound
abbrev pub is_sound : (ℕ → Bool) → Option ℕ → Bool
is_sound sound_type (Some h) = sound_type h
is_sound sound_type None = false

abbrev pub is_proc_null : Option ℤ → Bool
is_proc_null (Some z) = int_eq z PROC_NULL
is_proc_null None = false

-- a side whose type is sound and whose peer isn't MPI_PROC_NULL
abbrev pub is_usable_side : (sound_type : ℕ → Bool) → List Typed → Side → Bool
is_usable_side sound_type ts s = is_sound sound_type (first_told (type_in s) ts) && not (is_proc_null (first_told (peer_in s) ts))

-- a significant buffer is a part of the call
abbrev pub is_usable_buffer : Facts → (sound_type : ℕ → Bool) → Body → Field → Bool
is_usable_buffer facts sound_type b (Buffer s) = significant_in facts b (Buffer s) && is_usable_side sound_type (inputs_of b) s
is_usable_buffer facts sound_type b _ = false

abbrev pub usable_among : Facts → (sound_type : ℕ → Bool) → Body → (part : ℕ) → List Typed → Bool
usable_among facts sound_type b part [] = false
usable_among facts sound_type b part (t ∷ ts) = (nat_eq (part_in b t.0) part && is_usable_buffer facts sound_type b t.0) || usable_among facts sound_type b part ts

-- the part of a clear call on a live and sound communicator is usable
abbrev pub is_usable : Facts → (sound_type : ℕ → Bool) → Body → (part : ℕ) → Bool
is_usable facts sound_type b part = is_clear facts b && is_some (comm_of facts b) && usable_among facts sound_type b part (inputs_of b)

-- the usable parts as a number: bit i says that part i is usable
abbrev pub usable_parts : Facts → (sound_type : ℕ → Bool) → Body → ℕ
usable_parts facts sound_type b = (if is_usable facts sound_type b 0 then 1 else 0) + (if is_usable facts sound_type b 1 then 2 else 0)
