-- What a check promises: what each answer says of the run, and which answer is forced. What is said of a rank's bytes holds
-- where they are told.
use Rattle.std.specs.Prelude.{◌≡◌, ◌⊎◌, ℕ, ◌<◌, Bool, true, false, List, length, Option, Some, slice_get}
use Rattle.must_base.specs.Views.{SourceView}
use Rattle.must_call.specs.declared.call.Call.{Call}
use Rattle.must_format.specs.declared.fault.StreamFault.{StreamFault}
use Rattle.must_format.specs.declared.fault.StreamFault.TheVariants as fault
use Rattle.must_find.specs.declared.finding.Finding.{Finding}
use Rattle.must_rules.specs.Run.{Run}
use Rattle.must_rules.specs.Streams.{Accepted, Refused, Records}
use Rattle.must_tree.specs.Told.{told_at, HasFailed}
use Rattle.must_tree.specs.Reading.{AreTold, ReadsRun, Stops}
use Rattle.must_cli.specs.declared.status.Status.{Status}
use Rattle.must_cli.specs.declared.status.Status.TheVariants as status
use Rattle.must_cli.specs.Statuses.{IsSuccess, IsRefusal, is_found, status_for}
use Rattle.must_cli.specs.Outside.{Output, Outside, IsUnchanged, HasCut, Puts}
use Rattle.must_cli.specs.Lines.{rank_line, write_line, memory_line}
use Rattle.must_cli.specs.Writing.{Writes, Cuts}
use Rattle.must_words.specs.Command.{Check}
use Rattle.must_cli.specs.Settled.{RulesFile, HasRules, Terms, Settled, RefusedSettings, FailedRules, IsRefusedRules, AreKnown}

-- ---- the answers

-- The report is whole: every stream is accepted and was read to its end, what was put is the report of the run's rows,
-- and there is no line on the error stream.
pub record WholeReport (terms : Terms) (o : Outside) (err : Output) (found : Bool) : Type 0 where
  pub rows : List Finding
  pub reads : ReadsRun terms.mode o.told o.parts rows
  pub writes : Writes terms.form o.out rows found
  pub quiet : IsUnchanged err

-- Refused stream: the lowest rank whose stream isn't accepted, with its first bad place, which the line names.
pub record RefusedStream (o : Outside) (err : Output) (answer : Status) : Type 0 where
  pub rank : ℕ
  pub fault : StreamFault
  pub stops : Stops o.told o.parts rank fault
  pub nothing : IsUnchanged o.out
  pub answer_is : answer ≡ status_for fault
  pub line : Puts err (rank_line rank fault)

-- A read of a rank's file failed, and the streams of all lower ranks are accepted.
pub record FailedRead (o : Outside) (err : Output) : Type 0 where
  pub rank : ℕ
  pub stops : Stops o.told o.parts rank fault.Read
  pub nothing : IsUnchanged o.out
  pub line : Puts err (rank_line rank fault.Read)

-- A put of the report failed: every stream is accepted, and a front of the run's report was put.
pub record FailedWrite (terms : Terms) (o : Outside) (err : Output) : Type 0 where
  pub rows : List Finding
  pub reads : ReadsRun terms.mode o.told o.parts rows
  pub cuts : Cuts terms.form o.out rows
  pub line : Puts err write_line

-- Outside fault: shown by the count of the part or of the output that failed.
abbrev pub OutsideFault : Terms → Outside → Output → Type 0
OutsideFault terms o err = FailedRead o err ⊎ FailedWrite terms o err

-- Want of memory: nothing was put.
pub record WantOfMemory (out err : Output) : Type 0 where
  pub nothing : IsUnchanged out
  pub line : Puts err memory_line

-- what a check answers by its status
abbrev pub CheckAnswers : Terms → Outside → Output → Status → Type 0
CheckAnswers terms o err status.Clean = WholeReport terms o err false
CheckAnswers terms o err status.Found = WholeReport terms o err true
CheckAnswers terms o err status.Usage = ⊥
CheckAnswers terms o err status.Malformed = RefusedStream o err status.Malformed
CheckAnswers terms o err status.Outside = OutsideFault terms o err
CheckAnswers terms o err status.Bound = RefusedStream o err status.Bound
CheckAnswers terms o err status.NoMemory = WantOfMemory o.out err
CheckAnswers terms o err status.Settings = ⊥

-- ---- completeness

-- the bytes of a rank's file are told, and its stream is accepted
abbrev pub IsKnownAccepted : List (Option (List ℕ)) → ℕ → Type 0
IsKnownAccepted told rank =
    (bytes : List ℕ) × (told_at told rank ≡ Some bytes) × ((calls : List Call) × Accepted rank (length told) bytes calls)

-- the bytes of a rank's file are told, and its stream is refused
abbrev pub IsKnownRefused : List (Option (List ℕ)) → ℕ → StreamFault → Type 0
IsKnownRefused told rank fault =
    (bytes : List ℕ) × (told_at told rank ≡ Some bytes) × Refused rank (length told) bytes fault

-- each part that failed is one of a higher rank
abbrev pub FailedAbove : List SourceView → ℕ → Type 0
FailedAbove parts rank = (other : ℕ) (part : SourceView) → slice_get parts other ≡ Some part → HasFailed part
    → rank < other

-- no part failed
abbrev pub NoneFailed : List SourceView → Type 0
NoneFailed parts = (rank : ℕ) (part : SourceView) → slice_get parts rank ≡ Some part → HasFailed part → ⊥

-- The lowest refused rank is refused unless a read failed at it or below it, or there was no memory.
abbrev pub RefusesLowest : Outside → Status → Type 0
RefusesLowest o answer = (rank : ℕ) (fault : StreamFault)
    → ((lower : ℕ) → lower < rank → IsKnownAccepted o.told lower) → IsKnownRefused o.told rank fault
    → FailedAbove o.parts rank
    → (answer ≡ status_for fault) ⊎ (answer ≡ status.NoMemory)

-- Complete streams are reported unless a read or a put failed, or there was no memory.
abbrev pub ReportsComplete : Outside → Status → Type 0
ReportsComplete o answer = (streams : List (List ℕ)) (run : Run) → AreTold o.told streams → Records streams run
    → NoneFailed o.parts → (HasCut o.out → ⊥)
    → IsSuccess answer ⊎ (answer ≡ status.NoMemory)

-- Completeness: the answer is forced by the bytes and the counts.
pub record Completeness (o : Outside) (answer : Status) : Type 0 where
  pub refuses : RefusesLowest o answer
  pub reports : ReportsComplete o answer

-- ---- with the settings

-- what the rules file of a check answers where it stops the check
abbrev pub RulesAnswers : Option RulesFile → Outside → Output → Status → Type 0
RulesAnswers file o err status.Clean = ⊥
RulesAnswers file o err status.Found = ⊥
RulesAnswers file o err status.Usage = ⊥
RulesAnswers file o err status.Malformed = ⊥
RulesAnswers file o err status.Outside = HasRules file (FailedRules o.out err)
RulesAnswers file o err status.Bound = ⊥
RulesAnswers file o err status.NoMemory = WantOfMemory o.out err
RulesAnswers file o err status.Settings = HasRules file (RefusedSettings o.out err)

-- what a check answers: the rules file stops it, or the settings stand and the run is checked
abbrev pub Answers : Check → Option RulesFile → Outside → Output → Status → Type 0
Answers check file o err answer = RulesAnswers file o err answer ⊎ Settled check file (λ terms. CheckAnswers terms o err answer)

-- ---- all promises of a check

pub record CheckPromises (check : Check) (file : Option RulesFile) (o : Outside) (err : Output) (answer : Status) : Type 0 where
  pub whole_report : IsSuccess answer → Settled check file (λ terms. WholeReport terms o err (is_found answer))
  pub refused_stream : IsRefusal answer → Settled check file (λ terms. RefusedStream o err answer)
  pub outside_fault : answer ≡ status.Outside → HasRules file (FailedRules o.out err) ⊎ Settled check file (λ terms. OutsideFault terms o err)
  pub refused_settings : answer ≡ status.Settings → HasRules file (RefusedSettings o.out err)
  pub refuses_rules : HasRules file IsRefusedRules → (answer ≡ status.Settings) ⊎ (answer ≡ status.NoMemory)
  pub completeness : AreKnown file → Completeness o answer
