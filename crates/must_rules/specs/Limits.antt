-- Limits on what is kept of a rank (docs/FORMAT.md, "Limits"), of which four are told here: the first call that reaches one refuses its stream there.
use Rattle.std.specs.Prelude.{◌≡◌, ℕ, ◌+◌, ◌/◌, ◌^◌, nat_le, nat_lt, ℤ, pos, ◌-ℤ◌, int_le, Bool, false, ◌&&◌, nat_eq, if◌then◌else◌, List, length, take, Option, Some, None, slice_get}
use Rattle.std.specs.List.{list_all}
use Rattle.must_call.specs.declared.class.Class.TheVariants.{Comm, Datatype}
use Rattle.must_call.specs.declared.call.Call.{Call}
use Rattle.must_call.specs.Handles.{ClassedHandle}
use Rattle.must_format.specs.declared.cause.Limit.{Limit}
use Rattle.must_format.specs.declared.cause.Limit.TheVariants as limit
use Rattle.must_group.specs.Names.{Name}
use Rattle.must_rules.specs.Rank.{Rank}
use Rattle.must_rules.specs.Making.{same_class, made_by}
use Rattle.must_type.specs.Maps.{Entry, displacement, end_of, size, lower, upper}
use Rattle.must_type.specs.Tree.{TypeTree, type_map, depth, weight}
use Rattle.must_rules.specs.Starts.{Clearness}
use Rattle.must_rules.specs.Communicators.{Derived, derived_of, usable_name}
use Rattle.must_rules.specs.Known.{clear_behind}
use Rattle.must_rules.specs.PendingOperations.{pending_limit_at}
use Rattle.must_rules.specs.Types.{clear_type, type_of, types_weight}

abbrev pub is_comm : Option ClassedHandle → Bool
is_comm None = false
is_comm (Some h) = same_class h.0 Comm

-- the communicator that another is made of
abbrev pub parent_name : (ℕ → Option Name) → Option Derived → Option Name
parent_name names None = None
parent_name names (Some d) = names d.parent

-- the longest path that a communicator may have
abbrev pub longest_path : ℕ
longest_path = 32

abbrev pub has_full_path : Option Name → Bool
has_full_path None = false
has_full_path (Some name) = nat_eq (length name.path) longest_path

-- a call makes a communicator of a sound one that may be used, and its path would be too long
unfoldable pub is_too_deep : Rank → List Call → Call → Bool
is_too_deep r earlier call = is_comm (made_by call) && has_full_path (parent_name (usable_name r earlier) (derived_of call.body))

abbrev pub path_limit : Bool → Option Limit
path_limit deep = if deep then Some limit.Path else None

-- ---- types

-- the greatest sum of the weights of the live derived types of a rank (docs/TYPES.md), in a run of so many
abbrev pub most_weight : (size : ℕ) → ℕ
most_weight size = 2 ^ 26 / size

abbrev pub is_near : ℤ → Bool
is_near at = int_le (pos 0 -ℤ pos (2 ^ 62)) at && int_le at (pos (2 ^ 62))

abbrev pub is_near_entry : Entry → Bool
is_near_entry e = is_near (displacement e) && is_near (end_of e)

-- what lies within the reach of a type (docs/TYPES.md)
unfoldable pub is_within_reach : TypeTree → Bool
is_within_reach t =
    nat_le (depth t) 256
    && (nat_le (size (type_map t)) (2 ^ 62)
    && (is_near (lower (type_map t)) && (is_near (upper (type_map t)) && list_all is_near_entry (type_map t))))

-- the limit that a type reaches beside live ones of this weight, where the weights may be `most`
abbrev pub type_limit : (most live : ℕ) → Option TypeTree → Option Limit
type_limit most live None = None
type_limit most live (Some t) = if nat_lt most (live + weight t) then Some limit.TypeWeight else if is_within_reach t then None else Some limit.TypeReach

-- that of the type that a call makes, where it makes a handle of one
abbrev pub made_limit : Option ClassedHandle → (most live : ℕ) → Option TypeTree → Option Limit
made_limit None most live t = None
made_limit (Some h) most live t = if same_class h.0 Datatype then type_limit most live t else None

-- a clear call makes a type of sound ones
unfoldable pub type_limit_at : (most : ℕ) → Clearness → List Call → Call → Option Limit
type_limit_at most is_clear earlier call =
    made_limit (made_by call) most (types_weight is_clear earlier) (clear_type (is_clear earlier call) (type_of is_clear earlier) call.body)

-- ---- all of them

-- the first limit of two
abbrev pub or_limit : Option Limit → Option Limit → Option Limit
or_limit (Some limit) other = Some limit
or_limit None other = other

-- the limit of what is kept of handles
abbrev pub handle_limit_at : Rank → List Call → Call → Option Limit
handle_limit_at r earlier call = or_limit (type_limit_at (most_weight r.size) (clear_behind r) earlier call) (path_limit (is_too_deep r earlier call))

-- the limit that a call reaches behind the earlier ones
abbrev pub limit_at : Rank → List Call → Call → Option Limit
limit_at r earlier call = or_limit (pending_limit_at r earlier call) (handle_limit_at r earlier call)

-- none of the calls reaches one
abbrev pub IsWithin : Rank → List Call → Type 0
IsWithin r calls = (k : ℕ) (call : Call) → slice_get calls k ≡ Some call → limit_at r (take k calls) call ≡ None
