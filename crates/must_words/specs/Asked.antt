-- What the words that were read stand for.
use Rattle.std.specs.Prelude.{◌≤◌, length, option_map}
use Rattle.must_format.specs.declared.limits.TheConstants.{MOST_RANKS}
use Rattle.must_words.specs.declared.words.OptionWords.{OptionWords}
use Rattle.must_words.specs.declared.words.CheckWords.{CheckWords}
use Rattle.must_words.specs.declared.words.CommandWords.{CommandWords}
use Rattle.must_words.specs.declared.words.CommandWords.TheVariants as words
use Rattle.must_words.specs.declared.options.Taken.{Taken as TakenWords}
use Rattle.must_words.specs.Command.{Options, Taken, Check as Asked, Command, Checks, Dumps}

abbrev pub options_asked : OptionWords → Options
options_asked o = record { fan_in = o.fan_in; sends = o.sends; rules = option_map (λ file. file.now) o.rules; csv = o.csv; serial = o.serial }

abbrev pub taken_asked : TakenWords → Taken
taken_asked t = record { options = options_asked t.options; words = t.words.now }

abbrev pub check_asked : CheckWords → Asked
check_asked c = record { options = options_asked c.options; files = c.files.now }

abbrev pub command_asked : CommandWords → Command
command_asked (words.Check c) = Checks (check_asked c)
command_asked (words.Dump file) = Dumps file.now

-- a check has 1 to 1024 files
abbrev pub IsShort : CommandWords → Type 0
IsShort (words.Check c) = (1 ≤ length c.files.now) × (length c.files.now ≤ MOST_RANKS)
IsShort (words.Dump file) = Unit {0}
