-- The commands by which `clap` reads the words behind the first.
use Rattle.std.specs.Prelude.{◌≡◌, Bool, true, false, List, [], ◌∷◌, codes, Option, Some, None, option_and_then}
use Rattle.clap.specs.Words.{App, Row, Rule, Text, all_of, first_of, new_app, new_rule, one_of, with_rule}
use Rattle.must_settings.specs.RulesFile.{sends_by_name}
use Rattle.must_words.specs.Command.{Options, fan_in_named}
use Rattle.clap.specs.Simple.{on_top}
use Rattle.clap.specs.declared.builder.action.ArgAction.TheVariants.{Append, Set, SetTrue}

-- an option with a value, once
abbrev pub valued_rule : Text → Rule
valued_rule name = record (new_rule name) { long = Some name; action = Some Set }

-- an option without a value, once
abbrev pub flag_rule : Text → Rule
flag_rule name = record (new_rule name) { long = Some name; action = Some SetTrue }

-- the words that are no options
abbrev pub files_rule : Rule
files_rule = record (new_rule (codes "files")) { action = Some Append }

-- a command of this name, without options and without help
abbrev pub bare_app : Text → App
bare_app name = on_top (λ s. record s { disable_help_flag = true }) (new_app name)

-- the command that reads a check
abbrev pub check_app : App
check_app =
    with_rule (with_rule (with_rule (with_rule (with_rule (with_rule (bare_app (codes "check"))
    (valued_rule (codes "fan-in"))) (valued_rule (codes "sends"))) (valued_rule (codes "rules")))
    (flag_rule (codes "csv"))) (flag_rule (codes "serial"))) files_rule

-- the command that reads a dump
abbrev pub dump_app : App
dump_app = with_rule (bare_app (codes "dump")) (new_rule (codes "file"))

-- the text of a flag
abbrev pub flag_word : Bool → Text
flag_word true = codes "true"
flag_word false = codes "false"

-- `clap` has no row for no files
abbrev pub given : List Text → Option (List Text)
given [] = None
given (f ∷ fs) = Some (f ∷ fs)

-- what the rows of a check tell
pub record Tells (o : Options) (fs : List Text) (rows : List Row) : Type 0 where
  pub fan_in : option_and_then fan_in_named (first_of (codes "fan-in") rows) ≡ o.fan_in
  pub sends : option_and_then sends_by_name (first_of (codes "sends") rows) ≡ o.sends
  pub rules : first_of (codes "rules") rows ≡ o.rules
  pub csv : one_of (codes "csv") rows ≡ Some (flag_word o.csv)
  pub serial : one_of (codes "serial") rows ≡ Some (flag_word o.serial)
  pub files : all_of (codes "files") rows ≡ given fs
