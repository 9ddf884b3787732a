-- What a call makes, frees, completes, commits, starts and cancels (MPI 3.1 sections 3.7, 3.8, 3.9, 4.1.9, 5.9.5, 6.3 and 6.4).
use Rattle.std.specs.Prelude.{ℕ, ◌==◌, nat_lt, ℤ, pos, negsuc, Bool, true, false, ◌&&◌, if◌then◌else◌, List, [], ◌∷◌, Option, Some, None, slice_get}
use Rattle.std.specs.List.{list_any, filter_map}
use Rattle.std.specs.Option.{option_to_list}
use Rattle.must_call.specs.declared.class.Class.{Class}
use Rattle.must_call.specs.declared.class.Class.TheVariants.{Comm, Group, Datatype, Operation, Request}
use Rattle.must_call.specs.declared.constants.TheConstants.{FIRST_MADE}
use Rattle.must_call.specs.declared.items.Choice.{Choice}
use Rattle.must_call.specs.declared.items.Completion.{Completion}
use Rattle.must_call.specs.declared.field.Item.TheVariants as item
use Rattle.must_call.specs.declared.field.Handle.TheVariants as handle
use Rattle.must_call.specs.declared.field.Field.{Field}
use Rattle.must_call.specs.declared.field.Field.TheVariants as field
use Rattle.must_call.specs.declared.field.Output.{Output}
use Rattle.must_call.specs.declared.field.Output.TheVariants as output
use Rattle.must_call.specs.declared.call.Call.{Call}
use Rattle.must_call.specs.declared.body.Body.{Body}
use Rattle.must_call.specs.declared.body.Body.TheVariants.{Finish, Derive, Object, Persist}
use Rattle.must_call.specs.declared.finish.Finish.TheVariants.{RequestFree, Cancel}
use Rattle.must_call.specs.declared.derive.Derive.TheVariants.{TypeDup, TypeCommit, TypeFree}
use Rattle.must_call.specs.declared.object.Object.TheVariants.{OpFree, GroupFree, CommFree}
use Rattle.must_call.specs.declared.persist.Persist.TheVariants.{Start, Startall}
use Rattle.must_call.specs.Values.{Value, OutputValue, Typed, TypedOutput}
use Rattle.must_call.specs.Bodies.{inputs_of, given_of}
use Rattle.must_call.specs.Handles.{ClassedHandle}
use Rattle.must_call.specs.Made.{made_of}

abbrev pub same_class : Class → Class → Bool
same_class Comm Comm = true
same_class Group Group = true
same_class Datatype Datatype = true
same_class Operation Operation = true
same_class Request Request = true
same_class _ _ = false

-- this handle is the one of this class and number
abbrev pub is_handle : Class → ℕ → Option ClassedHandle → Bool
is_handle class number None = false
is_handle class number (Some h) = same_class h.0 class && (h.1 == number)

abbrev pub is_in : List ℕ → ℕ → Bool
is_in numbers number = list_any (λ n. n == number) numbers

-- ---- making

-- made handles have the numbers from 64 on; where a call answers another number it made nothing
abbrev pub numbered : Option ClassedHandle → Option ClassedHandle
numbered None = None
numbered (Some h) = if nat_lt h.1 FIRST_MADE then None else Some h

-- the handle that a call makes: the one that it answers. A call that didn't return makes none.
unfoldable pub made_by : Call → Option ClassedHandle
made_by call = if call.returned then numbered (made_of call.body) else None

-- the call makes this handle
abbrev pub makes : Class → ℕ → Call → Bool
makes class number call = is_handle class number (made_by call)

-- the calls that make persistent requests, which are the only ones of their family that make anything (MPI 3.1 section 3.9)
abbrev pub is_persistent_kind : Body → Bool
is_persistent_kind (Persist call) = true
is_persistent_kind _ = false

-- what the call makes is a persistent request
unfoldable pub persists : Call → Bool
persists call = is_persistent_kind call.body

-- ---- freeing

-- the handle that a call frees
abbrev pub freed_of : Body → Option ClassedHandle
freed_of (Finish (RequestFree request)) = Some (Request, request)
freed_of (Derive (TypeFree dtype)) = Some (Datatype, dtype)
freed_of (Object (OpFree op)) = Some (Operation, op)
freed_of (Object (GroupFree group)) = Some (Group, group)
freed_of (Object (CommFree comm)) = Some (Comm, comm)
freed_of _ = None

-- the call frees this handle
unfoldable pub frees : Class → ℕ → Call → Bool
frees class number call = call.returned && is_handle class number (freed_of call.body)

-- ---- completing

-- the requests of a field, or else those of the fields behind it
abbrev pub requests_at : (f : Field) → Value f → List ℕ → List ℕ
requests_at (field.Handle handle.Request) request others = request ∷ []
requests_at (field.Items item.Request) requests others = requests
requests_at _ _ others = others

abbrev pub requests_in : List Typed → List ℕ
requests_in [] = []
requests_in (t ∷ fields) = requests_at t.0 t.1 (requests_in fields)

-- the requests that a call names, in their order; they stand in one field
abbrev pub requests_of : Body → List ℕ
requests_of b = requests_in (inputs_of b)

-- the request with this index
abbrev pub indexed : List ℕ → ℤ → Option ℕ
indexed requests (pos i) = slice_get requests i
indexed requests (negsuc i) = None

abbrev pub chosen : List ℕ → Choice → List ℕ
chosen requests choice = option_to_list (indexed requests choice.index)

abbrev pub picked : List ℕ → List Completion → List ℕ
picked requests completions = filter_map (λ c. slice_get requests c.index) completions

-- which of the requests that a call names it completes, by what it answered: all of them by a status or statuses, where
-- they are there (the flag is 1), and the indexed ones by an index or indices
abbrev pub completed_by : (o : Output) → OutputValue o → List ℕ → List ℕ
completed_by output.Status status requests = requests
completed_by output.MaybeStatus (Some status) requests = requests
completed_by output.Statuses statuses requests = requests
completed_by output.MaybeStatuses (Some statuses) requests = requests
completed_by output.Choice choice requests = chosen requests choice
completed_by output.MaybeChoice (Some choice) requests = chosen requests choice
completed_by output.Completions (Some completions) requests = picked requests completions
completed_by _ _ requests = []

abbrev pub completed_among : Option TypedOutput → List ℕ → List ℕ
completed_among None requests = []
completed_among (Some t) requests = completed_by t.0 t.1 requests

abbrev pub completed_of : Body → List ℕ
completed_of b = completed_among (given_of b) (requests_of b)

-- the call completes this handle
unfoldable pub completes : Class → ℕ → Call → Bool
completes class number call = call.returned && (same_class class Request && is_in (completed_of call.body) number)

-- ---- committing

abbrev pub committed_of : Body → Option ClassedHandle
committed_of (Derive (TypeCommit dtype)) = Some (Datatype, dtype)
committed_of _ = None

-- the call commits this type, where it is live
unfoldable pub commits : ℕ → Call → Bool
commits number call = call.returned && is_handle Datatype number (committed_of call.body)

abbrev pub copied_of : Body → Option ℕ
copied_of (Derive (TypeDup old made)) = Some old
copied_of _ = None

-- the type that a call copies, where this is the handle that it makes
unfoldable pub copies : ℕ → Call → Option ℕ
copies number call = if makes Datatype number call then copied_of call.body else None

-- ---- starting and cancelling

-- the requests that a call starts where it is clear, in their order
abbrev pub started_of : Body → List ℕ
started_of (Persist (Start request)) = request ∷ []
started_of (Persist (Startall requests)) = requests
started_of _ = []

-- the request that a call asks to cancel
abbrev pub cancelled_of : Body → Option ℕ
cancelled_of (Finish (Cancel request)) = Some request
cancelled_of _ = None

-- the call asks to cancel this request
abbrev pub cancels : ℕ → Call → Bool
cancels number call = is_in (option_to_list (cancelled_of call.body)) number
