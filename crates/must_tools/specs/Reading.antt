-- How far a stream of any rank was read, and what its dump answers.
use Rattle.std.specs.Prelude.{◌≡◌, ℕ, List, [], ◌∷◌, ◌++◌, length, Option, Some, None, Result, Ok, Err}
use Rattle.must_base.specs.Causes.{Rose}
use Rattle.must_base.specs.Views.{SinkView, PutsAll, PutsFront}
use Rattle.must_call.specs.declared.call.Call.{Call}
use Rattle.must_format.specs.declared.fault.StreamFault.{StreamFault}
use Rattle.must_format.specs.declared.fault.StreamFault.TheVariants as fault
use Rattle.must_format.specs.Stream.{IsStream, header_of}
use Rattle.must_codec.specs.Reader.{ReaderState, StandsFor, ShowsNone}
use Rattle.must_tools.specs.declared.fault.DumpFault.{DumpFault}
use Rattle.must_tools.specs.declared.fault.DumpFault.TheVariants as dump_fault
use Rattle.must_tools.specs.Dump.{header_line, lines_from, dump_text}

-- ---- the stream

-- the stream of some rank of some run is complete, with these calls
abbrev pub IsComplete : List ℕ → List Call → Type 0
IsComplete bytes calls = IsStream None bytes calls None

-- it is refused, and this is its first bad place
abbrev pub IsRefused : List ℕ → StreamFault → Type 0
IsRefused bytes f = (calls : List Call) × IsStream None bytes calls (Some f)

-- what was taken of these bytes and what is left are together these bytes
abbrev pub IsLeftOf : List ℕ → Option (List ℕ) → Type 0
IsLeftOf bytes left = (taken rest : List ℕ) × (left ≡ Some rest) × (bytes ≡ taken ++ rest)

-- what was taken of the bytes shows no refusal, but that it ends too early
abbrev pub ShowsNoRefusal : List ℕ → Option (List ℕ) → Type 0
ShowsNoRefusal bytes left = (taken rest : List ℕ) × (left ≡ Some rest) × (bytes ≡ taken ++ rest)
    × ((calls : List Call) × ShowsNone None taken calls)

-- A fault that the bytes show is the stream's refusal; where a read failed, what was taken shows none.
abbrev pub IsFaultOf : List ℕ → Option (List ℕ) → StreamFault → Type 0
IsFaultOf bytes left (fault.Malformed at cause) = IsRefused bytes (fault.Malformed at cause)
IsFaultOf bytes left (fault.Bound at limit) = IsRefused bytes (fault.Bound at limit)
IsFaultOf bytes left fault.Read = ShowsNoRefusal bytes left
IsFaultOf bytes left fault.NoMemory = Unit {0}

-- ---- reading it

-- the reader gave these calls of the stream
pub record Stood (bytes : List ℕ) (left : Option (List ℕ)) (reader : ReaderState) (calls : List Call) : Type 0 where
  pub taken : List ℕ
  pub rest : List ℕ
  pub left_is : left ≡ Some rest
  pub parts : taken ++ rest ≡ bytes
  pub stands : StandsFor reader taken calls

-- and then this one, or the end
abbrev pub Reached : List ℕ → Option (List ℕ) → ReaderState → List Call → Option Call → Type 0
Reached bytes left reader calls (Some call) = Stood bytes left reader (calls ++ call ∷ [])
Reached bytes left reader calls None = Stood bytes left reader calls × (left ≡ Some [])

-- the text of the header and of some calls
abbrev pub text_so_far : List ℕ → List Call → List ℕ
text_so_far bytes calls = header_line (header_of bytes) ++ lines_from 0 calls

-- the text shows so many calls, those that the reader gave
pub record Shows (bytes : List ℕ) (left : Option (List ℕ)) (reader : ReaderState) (text : List ℕ) (number : ℕ) : Type 0 where
  pub calls : List Call
  pub stood : Stood bytes left reader calls
  pub text_is : text ≡ text_so_far bytes calls
  pub number_is : number ≡ length calls

-- the text shows the calls that the reader gave before its last answer: none
pub record Begins (bytes : List ℕ) (left : Option (List ℕ)) (reader : ReaderState) (first : Option Call) (text : List ℕ) : Type 0 where
  pub reached : Reached bytes left reader [] first
  pub text_is : text ≡ header_line (header_of bytes)

-- the stream is complete and was read to its end, and the text shows its calls
pub record ShowsAll (bytes : List ℕ) (left : Option (List ℕ)) (text : List ℕ) (number : ℕ) : Type 0 where
  pub calls : List Call
  pub complete : IsComplete bytes calls
  pub left_is : left ≡ Some []
  pub text_is : text ≡ text_so_far bytes calls
  pub number_is : number ≡ length calls

-- the stream is complete and was read to its end, and this is its text
pub record IsDump (bytes : List ℕ) (left : Option (List ℕ)) (text : List ℕ) : Type 0 where
  pub calls : List Call
  pub complete : IsComplete bytes calls
  pub left_is : left ≡ Some []
  pub text_is : text ≡ dump_text (header_of bytes) calls

-- ---- the answer

-- the stream is complete and was read to its end, and its text was put
pub record Dumped (bytes : List ℕ) (left : Option (List ℕ)) (old new : SinkView) : Type 0 where
  pub text : List ℕ
  pub dump : IsDump bytes left text
  pub put : PutsAll old new text

-- a front of its text was put, where a put failed
pub record Cut (bytes : List ℕ) (left : Option (List ℕ)) (old new : SinkView) : Type 0 where
  pub text : List ℕ
  pub dump : IsDump bytes left text
  pub put : PutsFront old new text

-- the fault of a dump, by that of its stream
abbrev pub dump_fault_of : StreamFault → DumpFault
dump_fault_of (fault.Malformed at cause) = dump_fault.Stream (fault.Malformed at cause)
dump_fault_of (fault.Bound at limit) = dump_fault.Stream (fault.Bound at limit)
dump_fault_of fault.Read = dump_fault.Stream fault.Read
dump_fault_of fault.NoMemory = dump_fault.NoMemory

-- What a dump of a stream answers, where its bytes are told. Nothing was put where it isn't complete or memory was short.
abbrev pub Answers : List ℕ → Option (List ℕ) → SinkView → SinkView → Result (Unit {0}) DumpFault → Type 0
Answers bytes left old new (Ok u) = Dumped bytes left old new
Answers bytes left old new (Err (dump_fault.Stream f)) = IsFaultOf bytes left f
Answers bytes left old new (Err dump_fault.Write) = Cut bytes left old new
Answers bytes left old new (Err dump_fault.NoMemory) = Unit {0}

-- What it does to the sink, whether the stream's bytes are told or not: a write fault comes only where the count rose, and
-- without one nothing was put but by success. A fault of the stream is never want of memory.
abbrev pub Puts : SinkView → SinkView → Result (Unit {0}) DumpFault → Type 0
Puts old new (Ok u) = new.faults ≡ old.faults
Puts old new (Err (dump_fault.Stream fault.NoMemory)) = ⊥
Puts old new (Err (dump_fault.Stream (fault.Malformed at cause))) = new ≡ old
Puts old new (Err (dump_fault.Stream (fault.Bound at limit))) = new ≡ old
Puts old new (Err (dump_fault.Stream fault.Read)) = new ≡ old
Puts old new (Err dump_fault.Write) = Rose old.faults new.faults
Puts old new (Err dump_fault.NoMemory) = new ≡ old
