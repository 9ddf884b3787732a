-- What reading the streams of a run answers: its rows, or the rank that stops it. What is said of a rank's bytes holds where
-- they are told.
use Rattle.std.specs.Prelude.{◌≡◌, ℕ, ◌<◌, List, [], length, map, Option, Some, Result, Ok, Err, slice_get}
use Rattle.must_base.specs.Views.{SourceView}
use Rattle.must_call.specs.declared.call.Call.{Call}
use Rattle.must_format.specs.declared.fault.StreamFault.{StreamFault}
use Rattle.must_format.specs.declared.fault.StreamFault.TheVariants as fault
use Rattle.must_find.specs.declared.finding.Finding.{Finding}
use Rattle.must_rules.specs.Run.{Run, Mode, Strict, Buffered}
use Rattle.must_plan.specs.declared.plan.Sends.{Sends}
use Rattle.must_plan.specs.declared.plan.Sends.TheVariants as sends
use Rattle.must_run.specs.RunRows.{AreRunRows}
use Rattle.must_rules.specs.Streams.{Accepted, Refused, Records}
use Rattle.must_tree.specs.declared.fault.RunFault.{RunFault}
use Rattle.must_tree.specs.declared.fault.RunFault.TheVariants as run_fault
use Rattle.must_tree.specs.Told.{told_at, HasFailed, ShowsNoRefusal}

-- the stream of a rank is accepted
abbrev pub IsAccepted : List (Option (List ℕ)) → ℕ → Type 0
IsAccepted told rank = (bytes : List ℕ) → told_at told rank ≡ Some bytes
    → (calls : List Call) × Accepted rank (length told) bytes calls

-- those of all ranks below this one are accepted
abbrev pub AreAccepted : List (Option (List ℕ)) → ℕ → Type 0
AreAccepted told rank = (lower : ℕ) → lower < rank → IsAccepted told lower

-- the stream of a rank is refused, and this is its first bad place
abbrev pub IsRefused : List (Option (List ℕ)) → ℕ → StreamFault → Type 0
IsRefused told rank fault =
    (bytes : List ℕ) → told_at told rank ≡ Some bytes → Refused rank (length told) bytes fault

-- the bytes of every file are told: these
abbrev pub AreTold : List (Option (List ℕ)) → List (List ℕ) → Type 0
AreTold told streams = told ≡ map Some streams

-- how the replay takes standard sends, by the plan
abbrev pub mode_of : Sends → Mode
mode_of sends.Strict = Strict
mode_of sends.Buffered = Buffered

-- the run that the streams record, and its rows, where standard sends are taken so
pub record RunRows (mode : Mode) (streams : List (List ℕ)) (rows : List Finding) : Type 0 where
  pub run : Run
  pub records : Records streams run
  pub are_rows : AreRunRows run mode rows

-- Every stream was read to its end and is accepted, and these are the rows of the run.
pub record ReadsRun (mode : Mode) (told : List (Option (List ℕ))) (parts : List SourceView) (rows : List Finding) : Type 0 where
  pub accepted : AreAccepted told (length told)
  pub read : (rank : ℕ) (bytes : List ℕ) → told_at told rank ≡ Some bytes
      → (part : SourceView) × (slice_get parts rank ≡ Some part) × (part.left ≡ Some [])
  pub of_run : (streams : List (List ℕ)) → AreTold told streams → RunRows mode streams rows

-- Why a rank stops a check: its stream is refused at its first bad place, or a read of it failed, and what was taken shows no
-- refusal but that the stream ends too early.
abbrev pub StopsAt : List (Option (List ℕ)) → List SourceView → ℕ → StreamFault → Type 0
StopsAt told parts rank (fault.Malformed at cause) = IsRefused told rank (fault.Malformed at cause)
StopsAt told parts rank (fault.Bound at limit) = IsRefused told rank (fault.Bound at limit)
StopsAt told parts rank fault.Read = (part : SourceView) × (slice_get parts rank ≡ Some part) × HasFailed part
    × ((bytes : List ℕ) → told_at told rank ≡ Some bytes → ShowsNoRefusal rank (length told) bytes part.left)
StopsAt told parts rank fault.NoMemory = ⊥

-- A rank stops the check: the streams of all lower ranks are accepted.
pub record Stops (told : List (Option (List ℕ))) (parts : List SourceView) (rank : ℕ) (fault : StreamFault) : Type 0 where
  pub within : rank < length told
  pub lower : AreAccepted told rank
  pub stops : StopsAt told parts rank fault

-- what an analysis of the streams answers
abbrev pub Analyses : Mode → List (Option (List ℕ)) → List SourceView → Result (List Finding) RunFault → Type 0
Analyses mode told parts (Ok rows) = ReadsRun mode told parts rows
Analyses mode told parts (Err (run_fault.Stream rank fault)) = Stops told parts rank fault
Analyses mode told parts (Err run_fault.NoMemory) = Unit {0}
