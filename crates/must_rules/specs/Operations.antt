-- What the calls of a rank send, receive and probe: the operations that they begin (MPI 3.1 sections 3.2, 3.4, 3.7, 3.8.1, 3.9 and
-- 3.10; docs/MESSAGES.md). An operation is told by what the fields of its call are for.
use Rattle.std.specs.Prelude.{ℕ, suc, ℤ, Bool, true, false, not, ◌&&◌, if◌then◌else◌, List, [], ◌∷◌, length, take, filter_map, flat_map, Option, Some, None, option_map, is_some, slice_get}
use Rattle.must_call.specs.declared.class.Class.TheVariants.{Request}
use Rattle.must_call.specs.declared.life.Life.{Life}
use Rattle.must_call.specs.declared.life.Life.TheVariants.{Live}
use Rattle.must_call.specs.declared.kind.Kind.{Kind}
use Rattle.must_call.specs.declared.kind.Kind.TheVariants as kind
use Rattle.must_call.specs.declared.field.Side.{Side}
use Rattle.must_call.specs.declared.field.Side.TheVariants.{Send, Receive}
use Rattle.must_call.specs.declared.field.Int.TheVariants as int
use Rattle.must_call.specs.declared.field.Field.{Field}
use Rattle.must_call.specs.declared.field.Field.TheVariants.{Buffer, I32}
use Rattle.must_call.specs.declared.call.Call.{Call}
use Rattle.must_call.specs.declared.body.Body.{Body}
use Rattle.must_call.specs.Values.{Value}
use Rattle.must_call.specs.Kinds.{kind_of}
use Rattle.must_call.specs.Bodies.{inputs_of}
use Rattle.must_group.specs.Names.{Name}
use Rattle.must_rules.specs.Rank.{Rank}
use Rattle.must_rules.specs.Making.{is_persistent_kind, started_of}
use Rattle.must_rules.specs.Lives.{life}
use Rattle.must_rules.specs.Significant.{or_else, first_told, comm_of}
use Rattle.must_rules.specs.Breaches.{part_in}
use Rattle.must_rules.specs.UsableParts.{serves, peer_in, is_proc_null}
use Rattle.must_rules.specs.Communicators.{comm_named, usable_name}
use Rattle.must_rules.specs.Known.{facts_of, clear_behind}
use Rattle.must_rules.specs.Parts.{Part, with_both, numbered}
use Rattle.must_rules.specs.PendingOperations.{parts_behind, begun_request, starts_at}
use Rattle.must_rules.specs.Turns.{Turn, turns}

-- ---- what is asked for

-- the mode of a send (section 3.4)
pub data SendMode : Type 0 where
  Standard : SendMode
  Buffered : SendMode
  Synchronous : SendMode
  Ready : SendMode

pub data Action : Type 0 where
  Sends : SendMode → Action
  Receives : Action
  Probes : Action

-- the envelope that a call names (section 3.2.3): a communicator, by its handle and its name; the other end, which is a position in it
-- or MPI_ANY_SOURCE; and a tag, or MPI_ANY_TAG
pub record Envelope : Type 0 where
  pub comm : ℕ
  pub name : Name
  pub peer : ℤ
  pub tag : ℤ

-- a message that is asked for, and the buffer that it is sent from or received in; a probe has none
pub record Message : Type 0 where
  pub action : Action
  pub envelope : Envelope
  pub buffer : Option Part

-- An operation. It has the number of the call that begins it, and a part there: 1 for what is received where the call sends too, the
-- index of its request for what a start begins, else 0. It has no request where it is done in its call, or where that call didn't
-- return and so made none.
pub record Operation : Type 0 where
  pub call : ℕ
  pub part : ℕ
  pub request : Option ℕ
  pub message : Message

-- ---- what the fields of a call name

abbrev pub send_mode : Kind → SendMode
send_mode kind.Bsend = Buffered
send_mode kind.Ibsend = Buffered
send_mode kind.Ssend = Synchronous
send_mode kind.Issend = Synchronous
send_mode kind.SsendInit = Synchronous
send_mode kind.Rsend = Ready
send_mode kind.Irsend = Ready
send_mode _ = Standard

abbrev pub action_of : Kind → Side → Action
action_of k Send = Sends (send_mode k)
action_of k _ = Receives

-- the tag of a side
abbrev pub tag_in : Side → (f : Field) → Value f → Option ℤ
tag_in s (I32 (int.Tag t)) z = if serves t s then Some z else None
tag_in s _ _ = None

abbrev pub envelope_by : (comm : ℕ) → Option Name → (peer tag : Option ℤ) → Option Envelope
envelope_by comm (Some name) (Some peer) (Some tag) = Some (record { comm = comm; name = name; peer = peer; tag = tag })
envelope_by comm _ _ _ = None

abbrev pub envelope_on : Rank → (before : List Call) → Body → Side → (comm : Option ℕ) → Option Envelope
envelope_on r before b s None = None
envelope_on r before b s (Some comm) = envelope_by comm (usable_name r before comm) (first_told (peer_in s) (inputs_of b)) (first_told (tag_in s) (inputs_of b))

-- the envelope that a side of a call names behind these calls, where the call names another end for that side
abbrev pub envelope_of : Rank → (before : List Call) → Body → Side → Option Envelope
envelope_of r before b s = envelope_on r before b s (comm_named b)

abbrev pub message : Action → Envelope → Part → Message
message action envelope part = record { action = action; envelope = envelope; buffer = Some part }

-- what a side of a call sends or receives, where its buffer is a usable part
unfoldable pub message_of : Rank → (before : List Call) → Call → Side → Option Message
message_of r before call s =
    with_both (message (action_of (kind_of call.body) s)) (envelope_of r before call.body s) (numbered (part_in call.body (Buffer s)) (parts_behind r before call))

-- ---- probes (section 3.8.1)

abbrev pub is_probe : Kind → Bool
is_probe kind.Probe = true
is_probe kind.Iprobe = true
is_probe _ = false

-- the call is a clear probe on a live and sound communicator, of another source than MPI_PROC_NULL
abbrev pub probes : Rank → (earlier : List Call) → Call → Bool
probes r earlier call =
    is_probe (kind_of call.body)
    && (clear_behind r earlier call && (is_some (comm_of (facts_of r earlier) call.body) && not (is_proc_null (first_told (peer_in Receive) (inputs_of call.body)))))

abbrev pub probed : Envelope → Message
probed envelope = record { action = Probes; envelope = envelope; buffer = None }

-- what such a probe asks for
unfoldable pub message_probed : Rank → (earlier : List Call) → Call → Option Message
message_probed r earlier call = if probes r earlier call then option_map probed (envelope_of r earlier call.body Receive) else None

-- ---- operations that a call begins with its own arguments

-- MPI_Probe waits for its message, which MPI_Iprobe doesn't
abbrev pub waits_for_probe : Kind → Bool
waits_for_probe kind.Probe = true
waits_for_probe _ = false

-- what a side of a call asks for and begins; a probe stands for a receive
abbrev pub message_at : Rank → (earlier : List Call) → Call → Side → Option Message
message_at r earlier call Receive =
    or_else (message_of r earlier call Receive) (if waits_for_probe (kind_of call.body) then message_probed r earlier call else None)
message_at r earlier call s = message_of r earlier call s

abbrev pub operation : (call part : ℕ) → Option ℕ → Message → Operation
operation call part request m = record { call = call; part = part; request = request; message = m }

-- it is done with the request that the call makes, where it makes one
abbrev pub begun_by_side : Rank → (earlier : List Call) → Call → Side → Option Operation
begun_by_side r earlier call s = option_map (operation (length earlier) (part_in call.body (Buffer s)) (begun_request call)) (message_at r earlier call s)

abbrev pub begun_here : Rank → (earlier : List Call) → Call → List Operation
begun_here r earlier call = filter_map (begun_by_side r earlier call) (Send ∷ Receive ∷ [])

-- ---- operations that a call starts for persistent requests (section 3.9)

abbrev pub message_by : Rank → (before : List Call) → Option Call → Option Message
message_by r before None = None
message_by r before (Some maker) = or_else (message_of r before maker Send) (message_of r before maker Receive)

-- what the call that made a live request asked for, where that was usable there
abbrev pub message_made : Rank → List Call → Life → Option Message
message_made r calls (Live made) = message_by r (take made calls) (slice_get calls made)
message_made r calls _ = None

-- what a call starts for the request at an index of its list
unfoldable pub message_started : Rank → (earlier : List Call) → Call → (index request : ℕ) → Option Message
message_started r earlier call index request = if starts_at r earlier call index request then message_made r earlier (life earlier Request request) else None

abbrev pub with_started : (call index request : ℕ) → Option Message → List Operation → List Operation
with_started call index request None others = others
with_started call index request (Some m) others = operation call index (Some request) m ∷ others

-- what a call starts for these requests, of which the first has this index
abbrev pub started_from : Rank → (earlier : List Call) → Call → (index : ℕ) → (requests : List ℕ) → List Operation
started_from r earlier call index [] = []
started_from r earlier call index (request ∷ requests) =
    with_started (length earlier) index request (message_started r earlier call index request) (started_from r earlier call (suc index) requests)

-- ---- all of them

-- the operations that a call begins behind the earlier ones, in the order of their parts; one that makes a persistent request begins none
unfoldable pub operations_at : Rank → (earlier : List Call) → Call → List Operation
operations_at r earlier call = if is_persistent_kind call.body then started_from r earlier call 0 (started_of call.body) else begun_here r earlier call

abbrev pub operations_in_turn : Rank → Turn → List Operation
operations_in_turn r t = operations_at r t.earlier t.call

-- the operations of a rank, in the order of their calls and parts
abbrev pub operations_of : Rank → List Call → List Operation
operations_of r calls = flat_map (operations_in_turn r) (turns calls)

abbrev pub operations_by : Rank → (before : List Call) → Option Call → List Operation
operations_by r before None = []
operations_by r before (Some call) = operations_at r before call

-- the operations that call k begins
abbrev pub operations_in : Rank → List Call → (k : ℕ) → List Operation
operations_in r calls k = operations_by r (take k calls) (slice_get calls k)
