-- The settings of a check: those of its rules file, where the words name one.
use Rattle.std.specs.Prelude.{◌≡◌, ℕ, List, [], ◌++◌, ◌∷◌, length, map, drop, Option, Some, None, is_some, unwrap_or, IsTrue}
use Rattle.must_base.specs.Views.{SourceView}
use Rattle.must_find.specs.Rules.{usual_severities}
use Rattle.must_tree.specs.Told.{HasFailed}
use Rattle.must_settings.specs.Taking.{IsLeftOf}
use Rattle.must_plan.specs.declared.plan.Sends.{Sends}
use Rattle.must_plan.specs.declared.plan.Sends.TheVariants.{Strict}
use Rattle.must_settings.specs.declared.settings.Settings.{Settings}
use Rattle.must_settings.specs.RulesFile.{rules_file, Sets}
use Rattle.must_words.specs.Command.{Check}
use Rattle.must_cli.specs.Outside.{Output, IsUnchanged, Puts}
use Rattle.must_cli.specs.Lines.{settings_line, rules_line}
use Rattle.must_rules.specs.Run.{Mode}
use Rattle.must_tree.specs.Reading.{mode_of}
use Rattle.must_cli.specs.Writing.{Form}

-- a rules file: its bytes, where they are told, and what its part shows at the end
pub record RulesFile : Type 0 where
  pub told : Option (List ℕ)
  pub part : SourceView

abbrev pub rules_read : Option (List ℕ) → SourceView → RulesFile
rules_read told part = record { told = told; part = part }

-- ---- the files of a check

abbrev pub rules_names : Option (List ℕ) → List (List ℕ)
rules_names None = []
rules_names (Some name) = name ∷ []

-- the files that a check binds: its streams, and behind them its rules file
abbrev pub names_of : Check → List (List ℕ)
names_of check = check.files ++ rules_names check.options.rules

-- the rules file with these bytes and this part, where there is one
abbrev pub rules_of : List (Option (List ℕ)) → List SourceView → Option RulesFile
rules_of [] parts = None
rules_of (bytes ∷ told) [] = None
rules_of (bytes ∷ told) (part ∷ parts) = Some (rules_read bytes part)

-- the rules file of a check, whose part stands behind those of its streams
abbrev pub rules_met : (List ℕ → Option (List ℕ)) → List SourceView → Check → Option RulesFile
rules_met told parts check = rules_of (map told (rules_names check.options.rules)) (drop (length check.files) parts)

-- there is a rules file, and this holds of it
abbrev pub HasRules : Option RulesFile → (RulesFile → Type 0) → Type 0
HasRules None P = ⊥
HasRules (Some file) P = P file

-- what was taken of the rules file, where there is one, and what is left of it are together its bytes
abbrev pub AreTiedRules : Option RulesFile → Type 0
AreTiedRules None = Unit {0}
AreTiedRules (Some file) = (bytes : List ℕ) → file.told ≡ Some bytes → IsLeftOf bytes file.part.left

-- ---- settings

-- These are the settings: those of the rules file, which was read to its end, and the usual ones where there is none.
abbrev pub AreSettings : Option RulesFile → Settings → Type 0
AreSettings None s = (s.sends ≡ None) × (s.rules ≡ usual_severities)
AreSettings (Some file) s = (bytes : List ℕ) → file.told ≡ Some bytes → Sets bytes s × (file.part.left ≡ Some [])

-- how standard sends are taken: as the words say, or else as the rules file says, or else they wait for their receives
abbrev pub sends_by : Option Sends → Option Sends → Sends
sends_by words file = unwrap_or words (unwrap_or file Strict)

-- how a check with these settings writes its report
abbrev pub form_of : Check → Settings → Form
form_of check s = record { csv = check.options.csv; rules = s.rules }

-- how a check takes standard sends, and how it writes its report
pub record Terms : Type 0 where
  pub mode : Mode
  pub form : Form

abbrev pub terms_of : Check → Settings → Terms
terms_of check s = record { mode = mode_of (sends_by check.options.sends s.sends); form = form_of check s }

-- the settings stand, and this holds of the terms of the check
abbrev pub Settled : Check → Option RulesFile → (Terms → Type 0) → Type 0
Settled check file P = (s : Settings) × AreSettings file s × P (terms_of check s)

-- ---- what else may come of a rules file

-- Refused settings: the rules file has none, and nothing was put.
pub record RefusedSettings (out err : Output) (file : RulesFile) : Type 0 where
  pub refused : (bytes : List ℕ) → file.told ≡ Some bytes → rules_file bytes ≡ None
  pub nothing : IsUnchanged out
  pub line : Puts err settings_line

-- A read of the rules file failed, and nothing was put.
pub record FailedRules (out err : Output) (file : RulesFile) : Type 0 where
  pub failed : HasFailed file.part
  pub nothing : IsUnchanged out
  pub line : Puts err rules_line

-- the rules file is known to be refused
abbrev pub IsRefusedRules : RulesFile → Type 0
IsRefusedRules file = (bytes : List ℕ) × (file.told ≡ Some bytes) × (rules_file bytes ≡ None) × (HasFailed file.part → ⊥)

-- there is no rules file, or it is known to have settings
abbrev pub AreKnown : Option RulesFile → Type 0
AreKnown None = Unit {0}
AreKnown (Some file) = (bytes : List ℕ) × (file.told ≡ Some bytes) × IsTrue (is_some (rules_file bytes)) × (HasFailed file.part → ⊥)
