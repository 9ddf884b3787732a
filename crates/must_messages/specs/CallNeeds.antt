-- What each call of a rank waits for: alternatives, each a list of wants of which all must be reached (docs/MESSAGES.md, "Needs";
-- MPI 3.1 sections 3.4, 3.7.3, 3.8.1, 5.1 and 5.12). Wants name operations and collective calls, not their partners.
use Rattle.std.specs.Prelude.{ℕ, Bool, true, false, not, ◌&&◌, ◌||◌, if◌then◌else◌, List, [], ◌∷◌, ◌++◌, map, length, take, filter_map, Option, Some, None, option_map, option_to_list, is_some, slice_get}
use Rattle.std.specs.List.{list_all}
use Rattle.must_call.specs.declared.place.Place.{Place}
use Rattle.must_call.specs.declared.class.Class.TheVariants as class
use Rattle.must_call.specs.declared.field.Handle.TheVariants as handle
use Rattle.must_call.specs.declared.field.Field.{Field}
use Rattle.must_call.specs.declared.field.Field.TheVariants.{Handle}
use Rattle.must_call.specs.declared.field.Output.{Output}
use Rattle.must_call.specs.declared.field.Output.TheVariants.{Made}
use Rattle.must_call.specs.declared.finish.Finish.TheVariants.{Wait, Waitall, Waitany, Waitsome}
use Rattle.must_call.specs.declared.body.Body.{Body}
use Rattle.must_call.specs.declared.body.Body.TheVariants.{Point, Finish, Object, Collective, Started}
use Rattle.must_call.specs.declared.call.Call.{Call}
use Rattle.must_call.specs.Fields.{output}
use Rattle.must_call.specs.Values.{Value, Typed}
use Rattle.must_call.specs.Kinds.{kind_of}
use Rattle.must_call.specs.Bodies.{inputs_of}
use Rattle.must_type.specs.Tree.{TypeTree}
use Rattle.must_entry.specs.declared.want.Want.{Want}
use Rattle.must_entry.specs.declared.want.Want.TheVariants as want
use Rattle.must_entry.specs.Entries.{Waits}
use Rattle.must_rules.specs.Rank.{Rank}
use Rattle.must_rules.specs.Starts.{start_of}
use Rattle.must_rules.specs.Significant.{comm_of, significant_in}
use Rattle.must_rules.specs.Communicators.{is_collective}
use Rattle.must_rules.specs.Known.{facts_of, clear_behind}
use Rattle.must_rules.specs.Types.{type_of}
use Rattle.must_rules.specs.Parts.{with_both}
use Rattle.must_rules.specs.Turns.{Turn, turns}
use Rattle.must_rules.specs.Operations.{SendMode, Standard, Buffered, Synchronous, Ready, Action, Sends, Operation, operations_at}
use Rattle.must_rules.specs.Fates.{fate_of}
use Rattle.must_rules.specs.Statuses.{is_cancelled, under_way}
use Rattle.must_messages.specs.MessageItems.{Item, item_of}

-- ---- alternatives

-- what one alternative wants; none where nothing will ever do
abbrev pub Need : Type 0
Need = Option (List Want)

-- all of these together
abbrev pub together : List Need → Need
together [] = Some []
together (need ∷ needs) = with_both (λ wants others. wants ++ others) need (together needs)

abbrev pub one_way : Need → List (List Want)
one_way need = option_to_list need

-- a call that never waits has one empty alternative
abbrev pub at_once : List (List Want)
at_once = [] ∷ []

-- an alternative for each of these that can ever be met; where there are none at all, the call doesn't wait
abbrev pub any_way : List Need → List (List Want)
any_way [] = at_once
any_way (need ∷ needs) = filter_map (λ n. n) (need ∷ needs)

abbrev pub place_of : Rank → (call : ℕ) → Place
place_of r call = record { rank = r.rank; call = call }

-- ---- operations

-- a send waits for its receive by its mode (section 3.4): a buffered one doesn't, a synchronous one does, and one in the standard or
-- the ready mode may
abbrev pub send_wants : Place → (part : ℕ) → SendMode → List Want
send_wants place part Standard = want.Op place part true ∷ []
send_wants place part Ready = want.Op place part true ∷ []
send_wants place part Synchronous = want.Op place part false ∷ []
send_wants place part Buffered = []

abbrev pub wants_by : Place → (part : ℕ) → Action → List Want
wants_by place part (Sends mode) = send_wants place part mode
wants_by place part _ = want.Op place part false ∷ []

-- the partner of the item that stands for an operation
abbrev pub item_need : Rank → Operation → Option Item → Need
item_need r op None = None
item_need r op (Some item) = Some (wants_by (place_of r op.call) op.part op.message.action)

-- a cancelled operation needs nothing; one without an item, as a receive that breaks S1 or a wildcard that stays open, is never met
unfoldable pub operation_need : Rank → List Call → Operation → Need
operation_need r calls op = if is_cancelled op (fate_of calls op) then Some [] else item_need r op (item_of r calls op)

-- ---- collective calls

abbrev pub is_sound_datatype : (ℕ → Option TypeTree) → (f : Field) → Value f → Bool
is_sound_datatype types (Handle (handle.Datatype s)) h = is_some (types h)
is_sound_datatype types _ _ = true

-- the datatypes that are significant are sound
abbrev pub has_sound_types : (Field → Bool) → (ℕ → Option TypeTree) → List Typed → Bool
has_sound_types is_significant types fields = list_all (λ t. not (is_significant t.0) || is_sound_datatype types t.0 t.1) fields

-- a clear collective call on a live and sound communicator, of sound types
unfoldable pub waits_for_wave : Rank → (earlier : List Call) → Call → Bool
waits_for_wave r earlier call =
    is_collective call.body
    && (clear_behind r earlier call
    && (is_some (comm_of (facts_of r earlier) call.body)
    && has_sound_types (significant_in (facts_of r earlier) call.body) (type_of (clear_behind r) earlier) (inputs_of call.body)))

-- it waits for the calls of all members in its wave
abbrev pub wave_wants : Rank → (earlier : List Call) → Call → List Want
wave_wants r earlier call = if waits_for_wave r earlier call then want.Wave (place_of r (length earlier)) ∷ [] else []

-- ---- requests

-- what each operation needs
abbrev pub Needing : Type 0
Needing = Operation → Need

-- an operation that isn't usable needs nothing
abbrev pub begun_need : Needing → Option Operation → Need
begun_need need None = Some []
begun_need need (Some op) = need op

abbrev pub is_started_collective : Body → Bool
is_started_collective (Started call) = true
is_started_collective _ = false

-- the completion of a request that a collective call made waits for the wave of that call, any other for the operation
abbrev pub start_need : Rank → Needing → (earlier : List Call) → (k : ℕ) → Option Operation → Option Call → Need
start_need r need earlier k op None = Some []
start_need r need earlier k op (Some call) = if is_started_collective call.body then Some (wave_wants r (take k earlier) call) else begun_need need op

-- an active request has the need of what its start began; one that isn't active has none
abbrev pub request_need : Rank → Needing → (earlier : List Call) → (request : ℕ) → Option Need
request_need r need earlier request =
    option_map (λ k. start_need r need earlier k (under_way r earlier request) (slice_get earlier k)) (start_of (clear_behind r) earlier request)

-- those of the active ones among some requests, in their order
abbrev pub request_needs : Rank → Needing → (earlier : List Call) → List ℕ → List Need
request_needs r need earlier requests = filter_map (request_need r need earlier) requests

-- ---- calls

-- a call that answers a request returns at once
abbrev pub answers_request : Option Output → Bool
answers_request (Some (Made class.Request)) = true
answers_request _ = false

-- the operations that are done in a call
abbrev pub done_here : Rank → (earlier : List Call) → Call → List Operation
done_here r earlier call = if answers_request (output (kind_of call.body)) then [] else operations_at r earlier call

-- the alternatives of a clear call
abbrev pub clear_ways : Rank → Needing → (earlier : List Call) → Call → Body → List (List Want)
clear_ways r need earlier call (Point p) = one_way (together (map need (done_here r earlier call)))
clear_ways r need earlier call (Finish (Wait request status)) = one_way (together (request_needs r need earlier (request ∷ [])))
clear_ways r need earlier call (Finish (Waitall requests statuses)) = one_way (together (request_needs r need earlier requests))
clear_ways r need earlier call (Finish (Waitany requests choice)) = any_way (request_needs r need earlier requests)
clear_ways r need earlier call (Finish (Waitsome requests completions)) = any_way (request_needs r need earlier requests)
clear_ways r need earlier call (Object c) = wave_wants r earlier call ∷ []
clear_ways r need earlier call (Collective c) = wave_wants r earlier call ∷ []
clear_ways r need earlier call _ = at_once

-- the alternatives of a call behind the earlier ones; one that isn't clear never waits
unfoldable pub ways_by : Rank → Needing → (earlier : List Call) → Call → List (List Want)
ways_by r need earlier call = if clear_behind r earlier call then clear_ways r need earlier call call.body else at_once

-- the same, where these are all calls of the rank
abbrev pub ways_of : Rank → (calls earlier : List Call) → Call → List (List Want)
ways_of r calls earlier call = ways_by r (operation_need r calls) earlier call

-- ---- the needs of a rank

abbrev pub waits : Rank → (call : ℕ) → List (List Want) → Waits
waits r call ways = record { place = place_of r call; ways = ways }

-- the need of a call, where these are all calls of its rank
abbrev pub waits_of : Rank → List Call → Turn → Waits
waits_of r calls t = waits r (length t.earlier) (ways_of r calls t.earlier t.call)

-- one for each call, in their order
abbrev pub needs_of : Rank → List Call → List Waits
needs_of r calls = map (waits_of r calls) (turns calls)
