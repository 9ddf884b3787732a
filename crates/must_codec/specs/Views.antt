-- What the steps of the code say.
use Rattle.std.specs.Prelude.{◌≡◌, ◌⊎◌, ℕ, ◌+◌, ◌≤◌, ◌<◌, Bool, true, false, List, [], ◌∷◌, ◌++◌, length, take, drop, Option, Some, None, Result, Ok, Err}
use Rattle.std.specs.Io.KnownBytes.{Consumes, Keeps, IsAtEnd}
use Rattle.must_base.specs.declared.outside.Failed.{Failed}
use Rattle.must_call.specs.declared.call.Call.{Call}
use Rattle.must_format.specs.declared.limits.TheConstants.{MOST_PAYLOAD, MOST_RANKS, RUN_CALLS}
use Rattle.must_call.specs.declared.constants.TheConstants.{FIRST_MADE}
use Rattle.must_format.specs.declared.expect.Expect.{Expect}
use Rattle.must_format.specs.declared.place.StreamPlace.{StreamPlace}
use Rattle.must_format.specs.declared.header.Header.{Header}
use Rattle.must_format.specs.declared.cause.Cause.TheVariants as cause
use Rattle.must_format.specs.declared.fault.StreamFault.{StreamFault}
use Rattle.must_format.specs.declared.fault.StreamFault.TheVariants as fault
use Rattle.must_format.specs.Payload.{record_length, offset_behind}
use Rattle.must_format.specs.Decoding.{call_at}
use Rattle.must_format.specs.Record as record_at
use Rattle.must_format.specs.Record.{Front}
use Rattle.must_format.specs.Stream as stream
use Rattle.must_format.specs.Stream.{Coming, byte_limit, coming_front, coming_at, stop, header_fault, header_of}
use Rattle.must_codec.specs.declared.arrival.Arrival.{Arrival}
use Rattle.must_codec.specs.declared.arrival.Arrival.TheVariants as arrival
use Rattle.must_codec.specs.Reader as reader
use Rattle.must_codec.specs.Reader.{Phase, Before, Ended, IsPlace, ReaderState, StandsFor, Gave}

-- ---- taking bytes

-- a piece of the source's bytes went behind the old ones; none only at the end
pub record Took (old new rest : List ℕ) (left : Option (List ℕ)) (count : ℕ) : Type 0 where
  pub piece : List ℕ
  pub others : List ℕ
  pub parts : rest ≡ piece ++ others
  pub left_is : left ≡ Some others
  pub window : new ≡ old ++ piece
  pub count_is : length piece ≡ count
  pub end : count ≡ 0 → others ≡ []

abbrev pub Filled : List ℕ → List ℕ → List ℕ → Option (List ℕ) → Result ℕ Failed → Type 0
Filled old new rest left (Ok count) = Took old new rest left count
Filled old new rest left (Err e) = (new ≡ old) × (left ≡ Some rest)

-- a read gave the first bytes of the tail; none only at the end
abbrev pub ReadsBehind : Option (List ℕ) → Option (List ℕ) → Result ℕ Failed → List ℕ → Type 0
ReadsBehind old new (Ok n) tail = Consumes old new (take n tail) × (n ≡ 0 → IsAtEnd new)
ReadsBehind old new (Err e) tail = Keeps old new

-- ---- a step of a stream

-- what comes, as the code has it; a short front says nothing yet
abbrev pub coming_seen : Arrival → Option Coming
coming_seen (arrival.Next view) = Some (stream.Next (call_at view.kind view.returned view.payload.now))
coming_seen arrival.Done = Some stream.Done
coming_seen (arrival.Stop fault) = Some (stream.Stop fault)
coming_seen arrival.Short = None

-- less than a record says something only where the byte limit is passed, or no more will come
abbrev pub IsSettled : Bool → ℕ → ℕ → Front → Type 0
IsSettled ended behind room record_at.More = (room < behind) ⊎ (ended ≡ true)
IsSettled ended behind room (record_at.Whole k r p) = Unit {0}
IsSettled ended behind room (record_at.End n) = Unit {0}
IsSettled ended behind room (record_at.Bad c) = Unit {0}

-- What is said of a record's front behind some calls, where so many bytes stand behind them now and b will in the end: what
-- comes whatever b is, or that the bytes so far show nothing wrong.
abbrev pub Says : Option Coming → Bool → Header → List Call → ℕ → ℕ → Front → Type 0
Says (Some c) ended h given behind room f = IsSettled ended behind room f × ((b : ℕ) → behind ≤ b → (ended ≡ true → b ≡ behind) → coming_front h given b room f ≡ c)
Says None ended h given behind room f = (coming_front h given behind room f ≡ stop given cause.Truncated) ⊎ (coming_front h given behind room f ≡ stream.Done)

-- a fault that says something of the stream
abbrev pub IsRefusal : StreamFault → Type 0
IsRefusal fault.Read = ⊥
IsRefusal fault.NoMemory = ⊥
IsRefusal (fault.Malformed at c) = Unit {0}
IsRefusal (fault.Bound at l) = Unit {0}

-- A call that comes has its record there, within the limit, and a number below the limit of all calls. A short front is shorter
-- than the longest record, and within the limit, and more may come.
abbrev pub IsWithin : Arrival → StreamPlace → Header → Bool → ℕ → Type 0
IsWithin (arrival.Next view) place h ended behind = (6 + length view.payload.now ≤ behind) × (place.at + (6 + length view.payload.now) ≤ byte_limit h.size) × (place.number < RUN_CALLS)
IsWithin arrival.Done place h ended behind = ended ≡ true
IsWithin (arrival.Stop fault) place h ended behind = IsRefusal fault
IsWithin arrival.Short place h ended behind = (ended ≡ false) × (behind < 6 + MOST_PAYLOAD) × (place.at + behind ≤ byte_limit h.size)

-- What a step behind some calls answers: these bytes stood there or were taken, and others are left. A call leaves what stands
-- behind its record.
abbrev pub StepAnswers : Header → List Call → List ℕ → List ℕ → List ℕ → StreamPlace → Result (Option Call) StreamFault → Type 0
StepAnswers h given bytes others new place (Ok (Some call)) =
    ((more : List ℕ) → coming_at h given (bytes ++ more) ≡ stream.Next call) × IsPlace place (given ++ call ∷ []) × (record_length call ≤ length bytes) × (new ≡ drop (record_length call) bytes)
StepAnswers h given bytes others new place (Ok None) = (others ≡ []) × (coming_at h given bytes ≡ stream.Done)
StepAnswers h given bytes others new place (Err fault.Read) = (coming_at h given bytes ≡ stop given cause.Truncated) ⊎ (coming_at h given bytes ≡ stream.Done)
StepAnswers h given bytes others new place (Err fault.NoMemory) = (call : Call) × ((more : List ℕ) → coming_at h given (bytes ++ more) ≡ stream.Next call)
StepAnswers h given bytes others new place (Err (fault.Malformed at c)) =
    (coming_at h given bytes ≡ stream.Stop (fault.Malformed at c)) × (coming_at h given (bytes ++ others) ≡ stream.Stop (fault.Malformed at c))
StepAnswers h given bytes others new place (Err (fault.Bound at l)) =
    (coming_at h given bytes ≡ stream.Stop (fault.Bound at l)) × (coming_at h given (bytes ++ others) ≡ stream.Stop (fault.Bound at l))

-- a step took a piece of what the source had left, and answered
pub record Stepped (h : Header) (given : List Call) (old rest new : List ℕ) (left : Option (List ℕ)) (place : StreamPlace) (result : Result (Option Call) StreamFault) : Type 0 where
  pub piece : List ℕ
  pub others : List ℕ
  pub parts : rest ≡ piece ++ others
  pub left_is : left ≡ Some others
  pub few : offset_behind given + length (old ++ piece) ≤ byte_limit h.size + 1
  pub answer : StepAnswers h given (old ++ piece) others new place result

-- the header, or its first fault
abbrev pub HeaderIs : Option Expect → List ℕ → Result Header StreamFault → Type 0
HeaderIs e bytes (Ok h) = (header_fault e bytes ≡ None) × (h ≡ header_of bytes)
HeaderIs e bytes (Err f) = header_fault e bytes ≡ Some f

-- at most the bytes of a header were taken: all of them, or all that there were
pub record TookFront (rest : List ℕ) (left : Option (List ℕ)) (window : List ℕ) : Type 0 where
  pub others : List ℕ
  pub parts : rest ≡ window ++ others
  pub left_is : left ≡ Some others
  pub few : length window ≤ 17
  pub all : length window < 17 → others ≡ []

-- where a read failed, fewer may be
pub record TookSome (rest : List ℕ) (left : Option (List ℕ)) (window : List ℕ) : Type 0 where
  pub others : List ℕ
  pub parts : rest ≡ window ++ others
  pub left_is : left ≡ Some others
  pub few : length window < 17

abbrev pub TakesFront : List ℕ → Option (List ℕ) → List ℕ → Result (Unit {0}) Failed → Type 0
TakesFront rest left window (Ok u) = TookFront rest left window
TakesFront rest left window (Err e) = TookSome rest left window

-- what is said of the bytes of a header, and of those behind them
abbrev pub HeaderSays : Option Expect → List ℕ → List ℕ → Result Header StreamFault → Type 0
HeaderSays e piece others (Ok h) = (length piece ≡ 17) × (header_fault e piece ≡ None) × (h ≡ header_of piece)
HeaderSays e piece others (Err fault.Read) = header_fault e piece ≡ Some (fault.Malformed 0 cause.Truncated)
HeaderSays e piece others (Err fault.NoMemory) = ⊥
HeaderSays e piece others (Err (fault.Malformed at c)) = (header_fault e piece ≡ Some (fault.Malformed at c)) × (header_fault e (piece ++ others) ≡ Some (fault.Malformed at c))
HeaderSays e piece others (Err (fault.Bound at l)) = (header_fault e piece ≡ Some (fault.Bound at l)) × (header_fault e (piece ++ others) ≡ Some (fault.Bound at l))

-- the bytes of a header were taken and judged
pub record Headed (e : Option Expect) (rest : List ℕ) (left : Option (List ℕ)) (result : Result Header StreamFault) : Type 0 where
  pub piece : List ℕ
  pub others : List ℕ
  pub parts : rest ≡ piece ++ others
  pub left_is : left ≡ Some others
  pub few : length piece ≤ 17
  pub says : HeaderSays e piece others result

-- the place of the first record
abbrev pub start : StreamPlace
start = record { at = 17; number = 0; next_handle = FIRST_MADE; stuck = false }

-- a run has 1 to 1024 ranks
abbrev pub IsExpect : Option Expect → Type 0
IsExpect None = Unit {0}
IsExpect (Some e) = (0 < e.size) × (e.size ≤ MOST_RANKS) × (e.rank < e.size)

-- ---- a reader

abbrev pub IsBefore : Phase → Type 0
IsBefore reader.Fresh = ⊥
IsBefore (Before place) = Unit {0}
IsBefore Ended = ⊥
IsBefore (reader.Failed f) = ⊥

-- it has neither ended nor failed
abbrev pub IsOpen : Phase → Type 0
IsOpen reader.Fresh = Unit {0}
IsOpen (Before place) = Unit {0}
IsOpen Ended = ⊥
IsOpen (reader.Failed f) = ⊥

-- where an answer leaves a reader
abbrev pub Leaves : Phase → Result (Option Call) StreamFault → Type 0
Leaves phase (Ok (Some call)) = IsBefore phase
Leaves phase (Ok None) = phase ≡ Ended
Leaves phase (Err f) = phase ≡ reader.Failed f

-- only a call moves the offset of the record of the last call
abbrev pub KeepsAt : ℕ → ℕ → Result (Option Call) StreamFault → Type 0
KeepsAt old new (Ok (Some call)) = Unit {0}
KeepsAt old new (Ok None) = new ≡ old
KeepsAt old new (Err f) = new ≡ old

-- a step may be made: the sums of the place and the bytes that stand there are within the limits
pub record IsReady (h : Header) (p : StreamPlace) (window : List ℕ) : Type 0 where
  pub size : (0 < h.size) × (h.size ≤ MOST_RANKS)
  pub rank : h.rank < h.size
  pub at : p.at ≤ byte_limit h.size
  pub taken : p.at + length window ≤ byte_limit h.size + 1
  pub number : p.number ≤ RUN_CALLS
  pub next : p.next_handle ≤ FIRST_MADE + p.number

-- only a call moves the place
abbrev pub KeepsPlace : StreamPlace → StreamPlace → Result (Option Call) StreamFault → Type 0
KeepsPlace old new (Ok (Some call)) = Unit {0}
KeepsPlace old new (Ok None) = new ≡ old
KeepsPlace old new (Err f) = new ≡ old

-- the header was taken: the reader stands before the first record, or failed
pub record OpenedAt (new : ReaderState) (left : Option (List ℕ)) (taken rest : List ℕ) (given : List Call) : Type 0 where
  pub piece : List ℕ
  pub others : List ℕ
  pub parts : rest ≡ piece ++ others
  pub left_is : left ≡ Some others
  pub stands : StandsFor new (taken ++ piece) given

abbrev pub Opened : ReaderState → Option (List ℕ) → List ℕ → List ℕ → List Call → Result Header StreamFault → Type 0
Opened new left taken rest given (Ok header) = OpenedAt new left taken rest given
Opened new left taken rest given (Err f) = Gave new left taken rest given (Err f)
