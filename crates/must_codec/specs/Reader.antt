-- What a reader of a stream stands for. The bytes that it took so far are no part of it: each relation is given them.
use Rattle.std.specs.Prelude.{◌≡◌, ◌⊎◌, ℕ, ◌≤◌, ◌+◌, List, [], ◌∷◌, ◌++◌, length, drop, Option, Some, None, Result, Ok, Err}
use Rattle.must_call.specs.declared.call.Call.{Call}
use Rattle.must_format.specs.declared.expect.Expect.{Expect}
use Rattle.must_format.specs.declared.header.Header.{Header}
use Rattle.must_format.specs.declared.cause.Cause.TheVariants as cause
use Rattle.must_format.specs.declared.fault.StreamFault.{StreamFault}
use Rattle.must_format.specs.declared.fault.StreamFault.TheVariants as fault
use Rattle.must_format.specs.declared.place.StreamPlace.{StreamPlace}
use Rattle.must_format.specs.Payload.{offset_behind}
use Rattle.must_format.specs.Stream.{byte_limit, header_of, header_fault, accepted_header, is_stuck, next_handle, coming, Next, AreCalls, IsStream}

-- where a reader is: it has read nothing, stands before a record, saw the end, or failed
pub data Phase : Type 0 where
  Fresh : Phase
  Before : StreamPlace → Phase
  Ended : Phase
  Failed : StreamFault → Phase

-- a reader: whose stream it expects, the bytes that it took and didn't use up, the header that it accepted, the offset of
-- the record of the call that it gave last (0 before the first), and where it is
pub record ReaderState : Type 0 where
  pub expect : Option Expect
  pub unread : List ℕ
  pub header : Option Header
  pub at : ℕ
  pub phase : Phase

-- a place is what the calls before it add up to
pub record IsPlace (p : StreamPlace) (given : List Call) : Type 0 where
  pub at : p.at ≡ offset_behind given
  pub number : p.number ≡ length given
  pub next : p.next_handle ≡ next_handle given
  pub stuck : p.stuck ≡ is_stuck given

-- whatever follows the bytes, their stream has this header
pub record HasHeader (e : Option Expect) (bytes : List ℕ) (h : Header) : Type 0 where
  pub good : (more : List ℕ) → header_fault e (bytes ++ more) ≡ None
  pub header : (more : List ℕ) → header_of (bytes ++ more) ≡ h

-- Before a record. Whatever follows the bytes that were taken, their stream begins with these calls.
pub record StandsBefore (p : StreamPlace) (r : ReaderState) (taken : List ℕ) (given : List Call) : Type 0 where
  pub header : Header
  pub accepted : r.header ≡ Some header
  pub opened : HasHeader r.expect taken header
  pub place : IsPlace p given
  pub each : (more : List ℕ) → AreCalls (taken ++ more) given
  pub long : offset_behind given ≤ length taken
  pub unread : drop (offset_behind given) taken ≡ r.unread

-- the bytes show no refusal, but that their stream ends too early
abbrev pub ShowsNone : Option Expect → List ℕ → List Call → Type 0
ShowsNone e bytes calls = IsStream e bytes calls None ⊎ ((at : ℕ) × IsStream e bytes calls (Some (fault.Malformed at cause.Truncated)))

-- What a fault says of the bytes that were taken behind these calls: their refusal; nothing wrong, where a read failed; a call
-- that comes, where there was no memory for it.
abbrev pub IsVerdict : Option Expect → List ℕ → List Call → StreamFault → Type 0
IsVerdict e bytes calls fault.Read = ShowsNone e bytes calls
IsVerdict e bytes calls fault.NoMemory = (call : Call) × ((more : List ℕ) → coming (bytes ++ more) calls ≡ Next call)
IsVerdict e bytes calls (fault.Malformed at c) = IsStream e bytes calls (Some (fault.Malformed at c))
IsVerdict e bytes calls (fault.Bound at l) = IsStream e bytes calls (Some (fault.Bound at l))

-- of the bytes that it took, the reader has given these calls
abbrev pub Stands : Phase → ReaderState → List ℕ → List Call → Type 0
Stands Fresh r taken given = (given ≡ []) × (taken ≡ []) × (r.unread ≡ []) × (r.header ≡ None) × (r.at ≡ 0)
Stands (Before p) r taken given = StandsBefore p r taken given
Stands Ended r taken given = IsStream r.expect taken given None × (r.header ≡ accepted_header r.expect taken)
Stands (Failed f) r taken given = IsVerdict r.expect taken given f × (r.header ≡ accepted_header r.expect taken)

abbrev pub StandsFor : ReaderState → List ℕ → List Call → Type 0
StandsFor r taken given = Stands r.phase r taken given

-- a header takes 17 bytes; behind it at most one byte past the byte limit is taken
abbrev pub HasFew : Option Header → List ℕ → Type 0
HasFew None taken = length taken ≤ 17
HasFew (Some h) taken = length taken ≤ byte_limit h.size + 1

-- what an answer of `next` says: taken are the bytes that it took by now, and others those that the source has left
abbrev pub Answers : ReaderState → List ℕ → List ℕ → List Call → Result (Option Call) StreamFault → Type 0
Answers new taken others given (Ok (Some call)) = StandsFor new taken (given ++ call ∷ []) × (new.at ≡ offset_behind given)
Answers new taken others given (Ok None) = StandsFor new taken given × (others ≡ [])
Answers new taken others given (Err fault.Read) = StandsFor new taken given
Answers new taken others given (Err fault.NoMemory) = StandsFor new taken given
Answers new taken others given (Err (fault.Malformed at c)) = StandsFor new taken given × IsStream new.expect (taken ++ others) given (Some (fault.Malformed at c))
Answers new taken others given (Err (fault.Bound at l)) = StandsFor new taken given × IsStream new.expect (taken ++ others) given (Some (fault.Bound at l))

-- the reader took some of the bytes that the source had left, and answered
pub record Gave (new : ReaderState) (left : Option (List ℕ)) (taken rest : List ℕ) (given : List Call) (result : Result (Option Call) StreamFault) : Type 0 where
  pub piece : List ℕ
  pub others : List ℕ
  pub parts : rest ≡ piece ++ others
  pub left_is : left ≡ Some others
  pub few : HasFew new.header (taken ++ piece)
  pub answer : Answers new (taken ++ piece) others given result
