-- What becomes of an operation: which call completes it, and with which statuses (MPI 3.1 sections 3.2.5, 3.7.3, 3.7.5 and 3.8.4;
-- docs/MESSAGES.md).
use Rattle.std.specs.Prelude.{ℕ, suc, ◌==◌, ℤ, pos, negsuc, false, if◌then◌else◌, List, [], ◌∷◌, map, filter, flat_map, Option, Some, None, option_map, option_to_list, slice_get}
use Rattle.must_call.specs.declared.class.Class.TheVariants.{Request}
use Rattle.must_call.specs.declared.status.Status3.{Status3}
use Rattle.must_call.specs.declared.field.Output.{Output}
use Rattle.must_call.specs.declared.field.Output.TheVariants as output
use Rattle.must_call.specs.declared.call.Call.{Call}
use Rattle.must_call.specs.Values.{OutputValue, TypedOutput}
use Rattle.must_call.specs.Bodies.{given_of}
use Rattle.must_rules.specs.Search.{first_behind}
use Rattle.must_rules.specs.Making.{requests_of, completes}
use Rattle.must_rules.specs.Lives.{ends}
use Rattle.must_rules.specs.Operations.{Action, Sends, Operation}

-- ---- what a call recorded

-- the request at an index of a call that completes it, and its status
pub record Completed : Type 0 where
  pub index : ℕ
  pub request : ℕ
  pub status : Status3

abbrev pub completed : (index : ℕ) → Status3 → (request : ℕ) → Completed
completed index status request = record { index = index; request = request; status = status }

-- one status for each request, of which the first has this index
abbrev pub each_from : (index : ℕ) → List ℕ → List Status3 → List Completed
each_from index (request ∷ requests) (status ∷ statuses) = completed index status request ∷ each_from (suc index) requests statuses
each_from index _ _ = []

abbrev pub at_index : List ℕ → Status3 → (index : ℕ) → List Completed
at_index requests status index = option_to_list (option_map (completed index status) (slice_get requests index))

-- at an index that isn't MPI_UNDEFINED
abbrev pub at_choice : List ℕ → Status3 → (index : ℤ) → List Completed
at_choice requests status (pos index) = at_index requests status index
at_choice requests status (negsuc index) = []

-- what a call completed of the requests that it names, by what it answered: statuses for all of them, or some by their indices
abbrev pub completed_by : (o : Output) → OutputValue o → List ℕ → List Completed
completed_by output.Status status requests = each_from 0 requests (status ∷ [])
completed_by output.MaybeStatus (Some status) requests = each_from 0 requests (status ∷ [])
completed_by output.Statuses statuses requests = each_from 0 requests statuses
completed_by output.MaybeStatuses (Some statuses) requests = each_from 0 requests statuses
completed_by output.Choice choice requests = at_choice requests choice.status choice.index
completed_by output.MaybeChoice (Some choice) requests = at_choice requests choice.status choice.index
completed_by output.Completions (Some completions) requests = flat_map (λ c. at_index requests c.status c.index) completions
completed_by _ _ requests = []

abbrev pub completed_among : Option TypedOutput → List ℕ → List Completed
completed_among None requests = []
completed_among (Some t) requests = completed_by t.0 t.1 requests

-- what a call completed, in the order of the indices
abbrev pub completions_in : Call → List Completed
completions_in call = if call.returned then completed_among (given_of call.body) (requests_of call.body) else []

-- the statuses that a call recorded for a request, the one at the least index first
abbrev pub statuses_for : ℕ → Call → List Status3
statuses_for request call = map (λ c. c.status) (filter (λ c. c.request == request) (completions_in call))

abbrev pub status_by : (o : Output) → OutputValue o → Option Status3
status_by output.Status status = Some status
status_by output.MaybeStatus status = status
status_by _ _ = None

abbrev pub status_among : Option TypedOutput → Option Status3
status_among None = None
status_among (Some t) = status_by t.0 t.1

-- the status of a receive or probe that stands in its own record
abbrev pub own_status : Call → Option Status3
own_status call = if call.returned then status_among (given_of call.body) else None

-- ---- what becomes of an operation

-- it is still under way, or its request was freed, or a call completed it
pub data Fate : Type 0 where
  Open : Fate
  Freed : Fate
  Done : (call : ℕ) → (statuses : List Status3) → Fate

-- a send that is done in its call has no status
abbrev pub own_statuses : Action → Call → List Status3
own_statuses (Sends mode) call = []
own_statuses _ call = option_to_list (own_status call)

-- an operation without a request is completed by its own call, where that returned
abbrev pub own_fate : Operation → Option Call → Fate
own_fate op None = Open
own_fate op (Some call) = if call.returned then Done op.call (own_statuses op.message.action call) else Open

-- what a call that completes or frees a request makes of its operation
abbrev pub fate_by : (request : ℕ) → (k : ℕ) → Option Call → Fate
fate_by request k None = Open
fate_by request k (Some call) = if completes Request request call then Done k (statuses_for request call) else Freed

abbrev pub fate_at : List Call → (request : ℕ) → Option ℕ → Fate
fate_at calls request None = Open
fate_at calls request (Some k) = fate_by request k (slice_get calls k)

-- by the first call behind its beginning that completes or frees its request
abbrev pub fate_with : List Call → Operation → Option ℕ → Fate
fate_with calls op None = own_fate op (slice_get calls op.call)
fate_with calls op (Some request) = fate_at calls request (first_behind op.call (ends false Request request) calls)

-- what becomes of an operation in these calls
unfoldable pub fate_of : List Call → Operation → Fate
fate_of calls op = fate_with calls op op.request

-- the call that completed it
abbrev pub done_in : Fate → Option ℕ
done_in (Done call statuses) = Some call
done_in _ = None

abbrev pub first_of : List Status3 → Option Status3
first_of [] = None
first_of (status ∷ statuses) = Some status

-- its status: the one at the least index that names its request
abbrev pub status_of : Fate → Option Status3
status_of (Done call statuses) = first_of statuses
status_of _ = None
