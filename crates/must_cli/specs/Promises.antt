-- The promises of the program.
use Rattle.std.specs.Prelude.{◌≡◌, ◌≢◌, ◌↔◌, ℕ, List, [], ◌∷◌, map, take, length, Option, Some, None}
use Rattle.must_base.specs.Views.{SourceView, SinkView}
use Rattle.must_tree.specs.Told.{AreTied}
use Rattle.must_cli.specs.declared.status.Status.{Status}
use Rattle.must_cli.specs.declared.status.Status.TheVariants as status
use Rattle.must_words.specs.Command.{Check, Checks, Dumps, command}
use Rattle.must_cli.specs.Outside.{Output, output, Outside, outside, IsUnchanged, Puts}
use Rattle.must_cli.specs.Lines.{usage_line}
use Rattle.must_cli.specs.Settled.{names_of, rules_met, AreTiedRules}
use Rattle.must_cli.specs.CheckPromises.{WantOfMemory, CheckPromises}
use Rattle.must_cli.specs.DumpPromises.{single, DumpPromises}

-- ---- the outside of a command

-- the outside at one time: the names that are bound, their parts, the output, and the error stream
pub record World : Type 0 where
  pub names : List (List ℕ)
  pub parts : List SourceView
  pub out : SinkView
  pub err : SinkView

abbrev pub world : List (List ℕ) → List SourceView → SinkView → SinkView → World
world names parts out err = record { names = names; parts = parts; out = out; err = err }

abbrev pub out_of : World → World → Output
out_of before after = output before.out after.out

abbrev pub err_of : World → World → Output
err_of before after = output before.err after.err

-- the files are bound, in order, and each part is that of its file
pub record IsBound (told : List (Option (List ℕ))) (files : List (List ℕ)) (after : World) : Type 0 where
  pub names : after.names ≡ files
  pub parts : AreTied told after.parts

-- what a check met, where `told` gives the bytes of a file by its name, where they are told
abbrev pub met : (List ℕ → Option (List ℕ)) → World → World → Check → Outside
met told before after check =
    outside (map told check.files) (take (length check.files) after.parts) (out_of before after)

-- ---- the promises

-- Refused words: exactly the words that aren't canonical are refused, and nothing but the line was put then.
pub record RefusedWords (words : List (List ℕ)) (out err : Output) (answer : Status) : Type 0 where
  pub exact : (answer ≡ status.Usage) ↔ (command words ≡ None)
  pub nothing : answer ≡ status.Usage → IsUnchanged out
  pub line : answer ≡ status.Usage → Puts err usage_line

-- The files of a check are bound, in order, and behind them its rules file; and each part is that of its file.
pub record IsBoundCheck (told : List ℕ → Option (List ℕ)) (check : Check) (after : World) : Type 0 where
  pub names : after.names ≡ names_of check
  pub streams : AreTied (map told check.files) (take (length check.files) after.parts)
  pub rules : AreTiedRules (rules_met told after.parts check)

-- What a check promises: its files are bound, and its answer is that of the run.
pub record Checked (told : List ℕ → Option (List ℕ)) (before after : World) (answer : Status) (check : Check) : Type 0 where
  pub files : answer ≢ status.NoMemory → IsBoundCheck told check after
  pub answers : CheckPromises check (rules_met told after.parts check) (met told before after check) (err_of before after) answer

-- What a dump promises: its file is bound, and its answer is that of the stream.
pub record DumpedFile (told : List ℕ → Option (List ℕ)) (before after : World) (answer : Status) (file : List ℕ) : Type 0 where
  pub files : answer ≢ status.NoMemory → IsBound (told file ∷ []) (file ∷ []) after
  pub answers : answer ≢ status.NoMemory → (part : SourceView) → after.parts ≡ part ∷ []
      → DumpPromises (single (told file) part (out_of before after)) (err_of before after) answer

-- What the program promises, whatever the words ask for.
pub record Promises (words : List (List ℕ)) (told : List ℕ → Option (List ℕ)) (before after : World) (answer : Status) : Type 0 where
  pub refused_words : RefusedWords words (out_of before after) (err_of before after) answer
  pub want_of_memory : answer ≡ status.NoMemory → WantOfMemory (out_of before after) (err_of before after)
  pub check : (check : Check) → command words ≡ Some (Checks check) → Checked told before after answer check
  pub dump : (file : List ℕ) → command words ≡ Some (Dumps file) → DumpedFile told before after answer file
