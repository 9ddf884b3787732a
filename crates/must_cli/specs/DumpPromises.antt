-- What a dump promises: what each answer says of its stream, and which answer is forced. What is said of the bytes of its
-- file holds where they are told.
use Rattle.std.specs.Prelude.{◌≡◌, ◌⊎◌, ℕ, List, Option, Some}
use Rattle.must_base.specs.Views.{SourceView}
use Rattle.must_call.specs.declared.call.Call.{Call}
use Rattle.must_format.specs.declared.fault.StreamFault.{StreamFault}
use Rattle.must_format.specs.declared.fault.StreamFault.TheVariants as fault
use Rattle.must_tree.specs.Told.{HasFailed}
use Rattle.must_tools.specs.Reading.{IsComplete, IsRefused, ShowsNoRefusal, Dumped, Cut}
use Rattle.must_cli.specs.declared.status.Status.{Status}
use Rattle.must_cli.specs.declared.status.Status.TheVariants as status
use Rattle.must_cli.specs.Statuses.{IsRefusal, status_for}
use Rattle.must_cli.specs.Outside.{Output, IsUnchanged, HasCut, Puts}
use Rattle.must_cli.specs.Lines.{stream_line, write_line}
use Rattle.must_cli.specs.CheckPromises.{WantOfMemory}

-- the bytes of the file, where they are told, what its part shows at the end, and the output
pub record Single : Type 0 where
  pub told : Option (List ℕ)
  pub part : SourceView
  pub out : Output

abbrev pub single : Option (List ℕ) → SourceView → Output → Single
single told part out = record { told = told; part = part; out = out }

-- ---- the answers

-- The text is whole: the stream is complete and was read to its end, its text was put, and there is no line on the error
-- stream.
pub record WholeText (o : Single) (err : Output) : Type 0 where
  pub dumped : (bytes : List ℕ) → o.told ≡ Some bytes → Dumped bytes o.part.left o.out.old o.out.new
  pub kept : o.out.new.faults ≡ o.out.old.faults
  pub quiet : IsUnchanged err

-- Why a dump has no text: the stream is refused at its first bad place, or a read of it failed, and what was taken shows no
-- refusal but that the stream ends too early.
abbrev pub StopsDump : Single → StreamFault → Type 0
StopsDump o (fault.Malformed at cause) = (bytes : List ℕ) → o.told ≡ Some bytes → IsRefused bytes (fault.Malformed at cause)
StopsDump o (fault.Bound at limit) = (bytes : List ℕ) → o.told ≡ Some bytes → IsRefused bytes (fault.Bound at limit)
StopsDump o fault.Read = HasFailed o.part × ((bytes : List ℕ) → o.told ≡ Some bytes → ShowsNoRefusal bytes o.part.left)
StopsDump o fault.NoMemory = ⊥

-- The stream stopped the dump; the line names its fault.
pub record StoppedDump (o : Single) (err : Output) (answer : Status) : Type 0 where
  pub fault : StreamFault
  pub stops : StopsDump o fault
  pub nothing : IsUnchanged o.out
  pub answer_is : answer ≡ status_for fault
  pub line : Puts err (stream_line fault)

-- A put of the text failed: the stream is complete, and a front of its text was put.
pub record CutText (o : Single) (err : Output) : Type 0 where
  pub cut : (bytes : List ℕ) → o.told ≡ Some bytes → Cut bytes o.part.left o.out.old o.out.new
  pub rose : HasCut o.out
  pub line : Puts err write_line

-- what a dump answers by its status
abbrev pub DumpAnswers : Single → Output → Status → Type 0
DumpAnswers o err status.Clean = WholeText o err
DumpAnswers o err status.Found = ⊥
DumpAnswers o err status.Usage = ⊥
DumpAnswers o err status.Malformed = StoppedDump o err status.Malformed
DumpAnswers o err status.Outside = StoppedDump o err status.Outside ⊎ CutText o err
DumpAnswers o err status.Bound = StoppedDump o err status.Bound
DumpAnswers o err status.NoMemory = WantOfMemory o.out err
DumpAnswers o err status.Settings = ⊥

-- ---- completeness

-- A stream that is refused is refused unless a read failed, or there was no memory.
abbrev pub RefusesStream : Single → Status → Type 0
RefusesStream o answer = (bytes : List ℕ) (fault : StreamFault) → o.told ≡ Some bytes → IsRefused bytes fault
    → (HasFailed o.part → ⊥)
    → (answer ≡ status_for fault) ⊎ (answer ≡ status.NoMemory)

-- The text of a complete stream is put unless a read or a put failed, or there was no memory.
abbrev pub PutsComplete : Single → Status → Type 0
PutsComplete o answer = (bytes : List ℕ) (calls : List Call) → o.told ≡ Some bytes → IsComplete bytes calls
    → (HasFailed o.part → ⊥) → (HasCut o.out → ⊥)
    → (answer ≡ status.Clean) ⊎ (answer ≡ status.NoMemory)

-- ---- all promises of a dump

pub record DumpPromises (o : Single) (err : Output) (answer : Status) : Type 0 where
  pub never_found : answer ≡ status.Found → ⊥
  pub never_settings : answer ≡ status.Settings → ⊥
  pub whole_text : answer ≡ status.Clean → WholeText o err
  pub refused_stream : IsRefusal answer → StoppedDump o err answer
  pub outside_fault : answer ≡ status.Outside → StoppedDump o err answer ⊎ CutText o err
  pub refuses : RefusesStream o answer
  pub puts : PutsComplete o answer
