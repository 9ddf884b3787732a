-- Which handles stand for which types of a table: predefined types have one number in both.
use Rattle.std.specs.Prelude.{◌≡◌, ℕ, ◌+◌, ◌-◌, nat_le, if◌then◌else◌, List, length, Option, Some, None, slice_get}
use Rattle.must_call.specs.declared.constants.TheConstants.{FIRST_MADE}
use Rattle.must_call.specs.declared.class.Class.{Class}
use Rattle.must_call.specs.declared.class.Class.TheVariants.{Datatype}
use Rattle.must_call.specs.declared.body.Body.{Body}
use Rattle.must_call.specs.declared.body.Body.TheVariants.{Derive}
use Rattle.must_call.specs.declared.derive.Derive.TheVariants.{TypeFree}
use Rattle.must_call.specs.declared.call.Call.{Call}
use Rattle.must_type.specs.declared.construct.TypeNo.{TypeNo}
use Rattle.must_type.specs.declared.construct.Construct.{Construct}
use Rattle.must_type.specs.Translation.{construct_of}
use Rattle.must_rules.specs.Making.{made_by}
use Rattle.must_rules.specs.Lives.{is_predefined}

abbrev pub flat : Option (Option TypeNo) → Option TypeNo
flat None = None
flat (Some n) = n

-- the type that a handle stands for
abbrev pub number_of : List (Option TypeNo) → ℕ → Option TypeNo
number_of numbers handle =
    if is_predefined Datatype handle then Some (record { number = handle }) else if nat_le FIRST_MADE handle then flat (slice_get numbers (handle - FIRST_MADE)) else None

-- what a call makes, by the types that its handles stand for
abbrev pub construct_by : List (Option TypeNo) → Body → Option Construct
construct_by numbers (Derive call) = construct_of (number_of numbers) call
construct_by numbers _ = None

abbrev pub type_freed : Body → Option ℕ
type_freed (Derive (TypeFree dtype)) = Some dtype
type_freed _ = None

-- the type that a call frees, where it returned
abbrev pub freed_type : Call → Option ℕ
freed_type call = if call.returned then type_freed call.body else None

-- the handle that a call makes, if any, has the next number
abbrev pub IsNext : List (Option TypeNo) → Call → Type 0
IsNext numbers call = (class : Class) (number : ℕ) → made_by call ≡ Some (class, number) → number ≡ 64 + length numbers
