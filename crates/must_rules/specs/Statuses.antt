-- What the statuses of operations say: cancelled operations, rule S1 and rule N1 (MPI 3.1 sections 3.2.4, 3.2.5, 3.8.1 and 3.8.4;
-- docs/MESSAGES.md).
use Rattle.std.specs.Prelude.{ℕ, suc, ◌==◌, ℤ, pos, Bool, true, false, ◌&&◌, ◌||◌, if◌then◌else◌, List, length, take, drop, find, Option, Some, None, option_map, is_some, is_none}
use Rattle.std.specs.List.{list_any}
use Rattle.std.specs.Ordering.{int_eq}
use Rattle.must_call.specs.declared.constants.TheConstants.{ANY_SOURCE, ANY_TAG}
use Rattle.must_call.specs.declared.status.Status3.{Status3}
use Rattle.must_call.specs.declared.field.Side.TheVariants.{Receive}
use Rattle.must_call.specs.declared.call.Call.{Call}
use Rattle.must_call.specs.Fields.{source}
use Rattle.must_rules.specs.Answer.{Answer, alone, at_part}
use Rattle.must_rules.specs.Rank.{Rank, seen}
use Rattle.must_rules.specs.Making.{cancels}
use Rattle.must_rules.specs.Starts.{start_of}
use Rattle.must_rules.specs.Significant.{or_else, is_position}
use Rattle.must_rules.specs.Breaches.{part_in}
use Rattle.must_rules.specs.ArgumentRules.{unless, is_tag}
use Rattle.must_rules.specs.Communicators.{is_number}
use Rattle.must_rules.specs.Known.{clear_behind}
use Rattle.must_rules.specs.Operations.{Action, Sends, Receives, Probes, Envelope, Message, Operation, message_of, message_probed, operations_in}
use Rattle.must_rules.specs.Fates.{Completed, completions_in, own_status, Fate, Done, fate_of, status_of, done_in}

-- ---- cancelled operations (section 3.8.4)

abbrev pub says_cancelled : Option Status3 → Bool
says_cancelled (Some status) = status.cancelled
says_cancelled None = false

-- a send or a receive is cancelled where its status says so, whoever asked for it; a probe never is
abbrev pub is_cancelled_by : Action → Fate → Bool
is_cancelled_by Probes fate = false
is_cancelled_by _ fate = says_cancelled (status_of fate)

abbrev pub is_cancelled : Operation → Fate → Bool
is_cancelled op fate = is_cancelled_by op.message.action fate

abbrev pub is_cancel_of : Option ℕ → Call → Bool
is_cancel_of None call = false
is_cancel_of (Some request) call = cancels request call

-- a call of these that stands behind the operation's beginning asks to cancel its request
abbrev pub asked_to_cancel : List Call → Operation → Bool
asked_to_cancel calls op = list_any (is_cancel_of op.request) (drop (suc op.call) calls)

-- ---- S1, a status that contradicts what was asked for (section 3.2.5)

abbrev pub names_any_source : Envelope → Bool
names_any_source e = int_eq e.peer ANY_SOURCE

abbrev pub names_any_tag : Envelope → Bool
names_any_tag e = int_eq e.tag ANY_TAG

-- the source is the one that was named, if one was, and a position
abbrev pub admits_source : Envelope → ℤ → Bool
admits_source e source = (names_any_source e || int_eq e.peer source) && is_position (length e.name.members) source

-- the tag is the one that was named, if one was, and from 0 to the greatest
abbrev pub admits_tag : (tag_ub : ℤ) → Envelope → ℤ → Bool
admits_tag tag_ub e tag = (names_any_tag e || int_eq e.tag tag) && is_tag tag_ub tag

-- 1 where the source is wrong, else 2 where the tag is
abbrev pub wrong_envelope : (tag_ub : ℤ) → Envelope → Status3 → Option ℤ
wrong_envelope tag_ub e status =
    if admits_source e status.source then unless (admits_tag tag_ub e status.tag) (pos 2) else Some (pos 1)

-- the status of a send has no source and no tag
abbrev pub wrong_message : (tag_ub : ℤ) → Message → Status3 → Option ℤ
wrong_message tag_ub m status = wrong_by m.action
  where
    wrong_by : Action → Option ℤ
    wrong_by (Sends mode) = None
    wrong_by _ = wrong_envelope tag_ub m.envelope status

-- 3 where it says cancelled and nobody asked for it; of what isn't cancelled, 1 or 2
unfoldable pub contradiction : (tag_ub : ℤ) → Message → (asked_to_cancel : Bool) → Status3 → Option ℤ
contradiction tag_ub m asked status = if status.cancelled then unless asked (pos 3) else wrong_message tag_ub m status

-- ---- at a call

-- what a call asks for by a receive or a probe whose status stands in its own record
abbrev pub received_here : Rank → (earlier : List Call) → Call → Option Message
received_here r earlier call = or_else (message_of r earlier call Receive) (message_probed r earlier call)

abbrev pub own_contradiction : (tag_ub : ℤ) → Option Message → Option Status3 → Option ℤ
own_contradiction tag_ub (Some m) (Some status) = contradiction tag_ub m false status
own_contradiction tag_ub _ _ = None

abbrev pub is_done_with : ℕ → Operation → Bool
is_done_with request op = is_number request op.request

abbrev pub begun_in : Rank → List Call → (request : ℕ) → Option ℕ → Option Operation
begun_in r calls request None = None
begun_in r calls request (Some k) = find (is_done_with request) (operations_in r calls k)

-- the usable operation of an active request
abbrev pub under_way : Rank → (earlier : List Call) → (request : ℕ) → Option Operation
under_way r earlier request = begun_in r earlier request (start_of (clear_behind r) earlier request)

-- it sees the start of the request
abbrev pub contradiction_of : Rank → (earlier : List Call) → Option Operation → Status3 → Option Answer
contradiction_of r earlier None status = None
contradiction_of r earlier (Some op) status = option_map (λ value. (seen r.rank op.call, value)) (contradiction r.tag_ub op.message (asked_to_cancel earlier op) status)

abbrev pub completed_wrongly : Rank → (earlier : List Call) → Option Completed → Option Answer
completed_wrongly r earlier None = None
completed_wrongly r earlier (Some c) = contradiction_of r earlier (under_way r earlier c.request) c.status

-- S1 at a part: the receive's or probe's, or the index of a completion of an active request
unfoldable pub status_contradicts : Rank → (earlier : List Call) → Call → (part : ℕ) → Option Answer
status_contradicts r earlier call part =
    or_else
    (at_part (part_in call.body source) (option_map alone (own_contradiction r.tag_ub (received_here r earlier call) (own_status call))) part)
    (completed_wrongly r earlier (find (λ c. c.index == part) (completions_in call)))

-- ---- of an operation

-- a status of it breaks S1, at whichever index
abbrev pub breaks_status_by : Rank → List Call → Operation → Fate → Bool
breaks_status_by r calls op (Done k statuses) = list_any (λ status. is_some (contradiction r.tag_ub op.message (asked_to_cancel (take k calls) op) status)) statuses
breaks_status_by r calls op _ = false

unfoldable pub breaks_status : Rank → List Call → Operation → Bool
breaks_status r calls op = breaks_status_by r calls op (fate_of calls op)

-- ---- N1, a receive from any source or of any tag that nothing completed (section 3.2.4)

abbrev pub names_any : Envelope → Bool
names_any e = names_any_source e || names_any_tag e

abbrev pub is_receive : Action → Bool
is_receive Receives = true
is_receive _ = false

abbrev pub is_open_wildcard : List Call → Operation → Bool
is_open_wildcard calls op = is_receive op.message.action && (names_any op.message.envelope && is_none (done_in (fate_of calls op)))

abbrev pub open_answer : List Call → Option Operation → Option Answer
open_answer calls None = None
open_answer calls (Some op) = if is_open_wildcard calls op then Some (alone (pos 0)) else None

-- N1 at a part of call k, by all calls of its rank
unfoldable pub open_wildcard : Rank → List Call → (k part : ℕ) → Option Answer
open_wildcard r calls k part = open_answer calls (find (λ op. op.part == part) (operations_in r calls k))
