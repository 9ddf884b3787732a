-- The command of the words (README.md, "Commands").
use Rattle.std.specs.Prelude.{ℕ, zero, suc, ◌+◌, ◌-◌, ◌*◌, Bool, true, false, not, ◌&&◌, ◌==◌, List, [], ◌∷◌, length, codes, Option, Some, None, is_some, option_map, option_and_then, nat_lt, nat_le, if◌then◌else◌, slice_index}
use Rattle.std.specs.List.{list_all}
use Rattle.std.specs.Str.{bytes_eq}
use Rattle.must_format.specs.declared.limits.TheConstants.{MOST_RANKS}
use Rattle.must_plan.specs.declared.plan.Sends.{Sends}
use Rattle.must_settings.specs.RulesFile.{sends_by_name}

-- the options of a check: each stands at most once
pub record Options : Type 0 where
  pub fan_in : Option ℕ
  pub sends : Option Sends
  pub rules : Option (List ℕ)
  pub csv : Bool
  pub serial : Bool

abbrev pub no_options : Options
no_options = record { fan_in = None; sends = None; rules = None; csv = false; serial = false }

-- a check of the run whose streams are in these files, rank 0 first
pub record Check : Type 0 where
  pub options : Options
  pub files : List (List ℕ)

-- what words ask for
pub data Command : Type 0 where
  -- a check of a run
  Checks : Check → Command
  -- the text of the stream in this file
  Dumps : List ℕ → Command

-- ---- values

-- a file word isn't empty and doesn't begin with a dash
abbrev pub is_file : List ℕ → Bool
is_file word = nat_lt 0 (length word) && not (slice_index word 0 == 45)

abbrev pub file_named : List ℕ → Option (List ℕ)
file_named word = if is_file word then Some word else None

abbrev pub is_digit : ℕ → Bool
is_digit c = nat_le 48 c && nat_le c 57

-- a number of one or two decimal digits, without a sign or a leading zero
abbrev pub small_number : List ℕ → Option ℕ
small_number [] = None
small_number (d ∷ []) = if is_digit d then Some (d - 48) else None
small_number (d ∷ e ∷ []) = if is_digit d && (is_digit e && not (d == 48)) then Some ((d - 48) * 10 + (e - 48)) else None
small_number (d ∷ e ∷ f ∷ word) = None

-- how many children a node of a tree may have
abbrev pub is_fan_in : ℕ → Bool
is_fan_in n = nat_le 2 n && nat_le n 64

abbrev pub fan_in_when : ℕ → Option ℕ
fan_in_when n = if is_fan_in n then Some n else None

abbrev pub fan_in_named : List ℕ → Option ℕ
fan_in_named word = option_and_then fan_in_when (small_number word)

-- ---- the options

-- the options with one more, and the words behind it
pub record Taken : Type 0 where
  pub options : Options
  pub words : List (List ℕ)

abbrev pub taken : List (List ℕ) → Options → Taken
taken words options = record { options = options; words = words }

abbrev pub with_fan_in : Options → ℕ → Options
with_fan_in o n = record o { fan_in = Some n }

abbrev pub with_sends : Options → Sends → Options
with_sends o s = record o { sends = Some s }

abbrev pub with_rules : Options → List ℕ → Options
with_rules o file = record o { rules = Some file }

-- an option without a value
abbrev pub flag_at : Options → List ℕ → Option Options
flag_at o word =
    if bytes_eq word (codes "--csv") && not o.csv then Some (record o { csv = true })
    else if bytes_eq word (codes "--serial") && not o.serial then Some (record o { serial = true })
    else None

-- an option with the value behind it
abbrev pub valued_at : Options → List ℕ → List ℕ → Option Options
valued_at o word value =
    if bytes_eq word (codes "--fan-in") && not (is_some o.fan_in) then option_map (with_fan_in o) (fan_in_named value)
    else if bytes_eq word (codes "--sends") && not (is_some o.sends) then option_map (with_sends o) (sends_by_name value)
    else if bytes_eq word (codes "--rules") && not (is_some o.rules) then option_map (with_rules o) (file_named value)
    else None

-- an option with a value, in front of these words
abbrev pub value_at : Options → List ℕ → List (List ℕ) → Option Taken
value_at o word [] = None
value_at o word (value ∷ words) = option_map (taken words) (valued_at o word value)

abbrev pub or_value : Option Options → Options → List ℕ → List (List ℕ) → Option Taken
or_value (Some options) o word words = Some (taken words options)
or_value None o word words = value_at o word words

-- the option in front of some words, where one stands there
abbrev pub option_at : Options → List (List ℕ) → Option Taken
option_at o [] = None
option_at o (word ∷ words) = or_value (flag_at o word) o word words

-- ---- the commands

-- a file word a rank, of a run of 1 to 1024 ranks
abbrev pub are_files : List (List ℕ) → Bool
are_files words = nat_lt 0 (length words) && (nat_le (length words) MOST_RANKS && list_all is_file words)

abbrev pub check_of : Options → List (List ℕ) → Option Check
check_of o words = if are_files words then Some (record { options = o; files = words }) else None

-- what stands behind an option, or the files where no option stands
abbrev pub or_files : Options → List (List ℕ) → Option (Option Check) → Option Check
or_files o words None = check_of o words
or_files o words (Some behind) = behind

-- at most so many options, and then the files
abbrev pub check_words : ℕ → Options → List (List ℕ) → Option Check
check_words zero o words = check_of o words
check_words (suc most) o words = or_files o words (option_map (λ t. check_words most t.options t.words) (option_at o words))

-- one file
abbrev pub dump_words : List (List ℕ) → Option (List ℕ)
dump_words [] = None
dump_words (word ∷ []) = file_named word
dump_words (word ∷ other ∷ words) = None

-- the command that canonical words spell
abbrev pub command : List (List ℕ) → Option Command
command [] = None
command (word ∷ words) =
    if bytes_eq word (codes "check") then option_map Checks (check_words 5 no_options words)
    else if bytes_eq word (codes "dump") then option_map Dumps (dump_words words)
    else None
