-- What reading the parts of a check says: those of its streams, and behind them that of its rules file.
use Rattle.std.specs.Prelude.{◌≡◌, ℕ, List, take, drop, Option, Some, None, Result, Ok, Err}
use Rattle.must_base.specs.Views.{SourceView}
use Rattle.must_tree.specs.Told.{HasFailed, AreTied}
use Rattle.must_plan.specs.declared.plan.Sends.{Sends}
use Rattle.must_tree.specs.Reading.{ReadsRun, Stops, mode_of}
use Rattle.must_tree.specs.declared.fault.RunFault.TheVariants as run_fault
use Rattle.must_settings.specs.declared.settings.Settings.{Settings}
use Rattle.must_settings.specs.declared.fault.RulesFault.{RulesFault}
use Rattle.must_settings.specs.declared.fault.RulesFault.TheVariants as rules_fault
use Rattle.must_settings.specs.RulesFile.{rules_file}
use Rattle.must_cli.specs.declared.parts.CheckFault.{CheckFault}
use Rattle.must_cli.specs.declared.parts.CheckFault.TheVariants as fault
use Rattle.must_cli.specs.declared.parts.Analysed.{Analysed}
use Rattle.must_cli.specs.Settled.{RulesFile, rules_of, HasRules, AreSettings, AreTiedRules, sends_by}

-- ---- the rules file

-- what reading the rules file, where there is one, says
abbrev pub ReadsRules : Option RulesFile → Result Settings RulesFault → Type 0
ReadsRules file (Ok s) = AreSettings file s
ReadsRules file (Err rules_fault.Refused) = HasRules file (λ f. (bytes : List ℕ) → f.told ≡ Some bytes → rules_file bytes ≡ None)
ReadsRules file (Err rules_fault.Read) = HasRules file (λ f. HasFailed f.part)
ReadsRules file (Err rules_fault.NoMemory) = Unit {0}

-- ---- all parts

-- the rules file, where there is a part behind those of so many streams
abbrev pub rules_at : List (Option (List ℕ)) → List SourceView → ℕ → Option RulesFile
rules_at told parts n = rules_of (drop n told) (drop n parts)

-- what reading the rules file and then the streams says, where the words say this of standard sends, and the parts show this in the end
abbrev pub ReadsCheck : ℕ → Option Sends → List (Option (List ℕ)) → List SourceView → Result Analysed CheckFault → Type 0
ReadsCheck n words told parts (Ok a) = (s : Settings) × AreSettings (rules_at told parts n) s × (a.rules ≡ s.rules) × ReadsRun (mode_of (sends_by words s.sends)) (take n told) (take n parts) a.findings
ReadsCheck n words told parts (Err (fault.Run (run_fault.Stream rank f))) = (s : Settings) × AreSettings (rules_at told parts n) s × Stops (take n told) (take n parts) rank f
ReadsCheck n words told parts (Err (fault.Run run_fault.NoMemory)) = Unit {0}
ReadsCheck n words told parts (Err (fault.Rules f)) = ReadsRules (rules_at told parts n) (Err f)

-- memory wasn't short
abbrev pub IsEnough : Result Analysed CheckFault → Type 0
IsEnough (Ok a) = Unit {0}
IsEnough (Err (fault.Run (run_fault.Stream rank f))) = Unit {0}
IsEnough (Err (fault.Run run_fault.NoMemory)) = ⊥
IsEnough (Err (fault.Rules rules_fault.Read)) = Unit {0}
IsEnough (Err (fault.Rules rules_fault.Refused)) = Unit {0}
IsEnough (Err (fault.Rules rules_fault.NoMemory)) = ⊥

-- The parts of the streams are those of their files, and so is that of the rules file, where there is one.
pub record TiedCheck (n : ℕ) (told : List (Option (List ℕ))) (parts : List SourceView) : Type 0 where
  pub streams : AreTied (take n told) (take n parts)
  pub rules : AreTiedRules (rules_at told parts n)
