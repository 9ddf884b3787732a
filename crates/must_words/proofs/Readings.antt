-- What rows tell of the options and files of a check.
use Rattle.std.proofs.Common.{◌≡◌, ◌∙◌, ◌&&◌, ◌||◌, ℕ, Bool, true, false, not, refl, sym, ap, List, [], ◌∷◌, ◌++◌, Option, Some, None, is_some, option_map, true≢false, subst}
use Rattle.std.specs.Prelude.{codes, option_and_then, slice_get}
use Rattle.std.specs.Str.{bytes_eq}
use Rattle.clap.specs.Walk.{Held, Row, Text, has_row, row_text, stronger, with_values, without}
use Rattle.clap.specs.declared.builder.value_parser.Reading.{Reading}
use Rattle.clap.specs.declared.builder.value_parser.Reading.TheVariants.{AsWritten}
use Rattle.clap.specs.declared.parser.matches.ValueSource.{ValueSource}
use Rattle.clap.specs.declared.parser.matches.ValueSource.TheVariants.{CommandLine}
use Rattle.must_plan.specs.declared.plan.Sends.{Sends}
use Rattle.must_settings.specs.RulesFile.{sends_by_name}
use Rattle.must_words.specs.Command.{Options, fan_in_named, no_options, with_fan_in, with_rules, with_sends}
use Rattle.must_words.specs.Readers.{given}
use Rattle.must_words.proofs.Rows.{changed_row, kept_row, none_here, or_missing, row_by, without_none}
use Rattle.must_words.proofs.Walk.{passes, pending, rows_in}

abbrev pub first_in : Row → Option Text
first_in r = slice_get r.values 0

abbrev pub flag_text : Bool → Option (Option Text)
flag_text true = Some (Some (codes "true"))
flag_text false = None

pub record Reads (o : Options) (fs : List Text) (rows : List Row) : Type 0 where
  pub fan_in : option_map (λ r. option_and_then fan_in_named (first_in r)) (row_by (codes "fan-in") rows) ≡ option_map Some o.fan_in
  pub sends : option_map (λ r. option_and_then sends_by_name (first_in r)) (row_by (codes "sends") rows) ≡ option_map Some o.sends
  pub rules : option_map first_in (row_by (codes "rules") rows) ≡ option_map Some o.rules
  pub csv : option_map row_text (row_by (codes "csv") rows) ≡ flag_text o.csv
  pub serial : option_map row_text (row_by (codes "serial") rows) ≡ flag_text o.serial
  pub files : option_map (λ r. r.values) (row_by (codes "files") rows) ≡ given fs

pub record Ready (o : Options) (fs : List Text) (h : Held) : Type 0 where
  pub passing : passes h ≡ true
  pub reads : Reads o fs (rows_in h)

pub none_ready : Ready no_options [] (record { rows = []; pending = None; skip = 0 })
none_ready = record {
  passing = refl;
  reads = record { fan_in = refl; sends = refl; rules = refl; csv = refl; serial = refl; files = refl };
}

-- ---- one row more

pub none_of : {X : Type 0} (f : Row → X) (o : Option Row) → option_map f o ≡ None → o ≡ None
none_of f None e = refl
none_of f (Some r) e = absurd (true≢false (ap is_some e))

abbrev new_row : Text → Reading → ValueSource → List Text → Row
new_row id how s values = record { id = id; values = values; count = None; source = Some s; reading = how }

abbrev fuller : ValueSource → List Text → Row → Row
fuller s values r = record r { values = r.values ++ values; source = Some (stronger r.source s) }

module _ (id : Text) (how : Reading) (s : ValueSource) (values : List Text) (rows : List Row) where
  abbrev more : List Row
  more = with_values id how s values rows

  pub keep : {X : Type 0} (f : Row → X) (other : Text) (goal : Option X) → bytes_eq id other ≡ false → option_map f (row_by other rows) ≡ goal → option_map f (row_by other more) ≡ goal
  keep f other goal apart e = ap (option_map f) (kept_row id (fuller s values) (new_row id how s values) (λ r. refl) refl other apart rows) ∙ e

  pub here : row_by id more ≡ Some (or_missing id (fuller s values) (new_row id how s values) (λ r. refl) refl (row_by id rows))
  here = changed_row id (fuller s values) (new_row id how s values) (λ r. refl) refl rows

  pub fresh : {X : Type 0} (f : Row → X) → row_by id rows ≡ None → option_map f (row_by id more) ≡ Some (f (new_row id how s values))
  fresh f e = ap (option_map f) (here ∙ ap (λ o. Some (or_missing id (fuller s values) (new_row id how s values) (λ r. refl) refl o)) e)

-- a use of an argument that has no row
abbrev pub put : Text → Text → List Row → List Row
put id value rows = with_values id AsWritten CommandLine (value ∷ []) (without id rows)

once : (o : Options) (fs : List Text) (id value : Text) (rows : List Row) → has_row id rows ≡ false
    → Reads o fs (with_values id AsWritten CommandLine (value ∷ []) rows) → Reads o fs (put id value rows)
once o fs id value rows none k = subst (λ rs. Reads o fs (with_values id AsWritten CommandLine (value ∷ []) rs)) (sym (without_none id rows none)) k

module _ (o : Options) (rows : List Row) (k : Reads o [] rows) where
  pub csv_none : o.csv ≡ false → option_map row_text (row_by (codes "csv") rows) ≡ None
  csv_none e = k.csv ∙ ap flag_text e

  pub serial_none : o.serial ≡ false → option_map row_text (row_by (codes "serial") rows) ≡ None
  serial_none e = k.serial ∙ ap flag_text e

  pub fan_in_none : o.fan_in ≡ None → option_map (λ r. option_and_then fan_in_named (first_in r)) (row_by (codes "fan-in") rows) ≡ None
  fan_in_none e = k.fan_in ∙ ap (option_map Some) e

  pub sends_none : o.sends ≡ None → option_map (λ r. option_and_then sends_by_name (first_in r)) (row_by (codes "sends") rows) ≡ None
  sends_none e = k.sends ∙ ap (option_map Some) e

  pub rules_none : o.rules ≡ None → option_map first_in (row_by (codes "rules") rows) ≡ None
  rules_none e = k.rules ∙ ap (option_map Some) e

  pub csv_read : o.csv ≡ false → Reads (record o { csv = true }) [] (put (codes "csv") (codes "true") rows)
  csv_read e =
      let id = codes "csv" in
      let v = codes "true" ∷ [] in
      once _ [] id (codes "true") rows (none_here _ id rows (csv_none e)) (record {
        fan_in = keep id AsWritten CommandLine v rows _ _ _ refl k.fan_in;
        sends = keep id AsWritten CommandLine v rows _ _ _ refl k.sends;
        rules = keep id AsWritten CommandLine v rows _ _ _ refl k.rules;
        csv = fresh id AsWritten CommandLine v rows row_text (none_of _ _ (csv_none e));
        serial = keep id AsWritten CommandLine v rows _ _ _ refl k.serial;
        files = keep id AsWritten CommandLine v rows _ _ _ refl k.files;
      })

  pub serial_read : o.serial ≡ false → Reads (record o { serial = true }) [] (put (codes "serial") (codes "true") rows)
  serial_read e =
      let id = codes "serial" in
      let v = codes "true" ∷ [] in
      once _ [] id (codes "true") rows (none_here _ id rows (serial_none e)) (record {
        fan_in = keep id AsWritten CommandLine v rows _ _ _ refl k.fan_in;
        sends = keep id AsWritten CommandLine v rows _ _ _ refl k.sends;
        rules = keep id AsWritten CommandLine v rows _ _ _ refl k.rules;
        csv = keep id AsWritten CommandLine v rows _ _ _ refl k.csv;
        serial = fresh id AsWritten CommandLine v rows row_text (none_of _ _ (serial_none e));
        files = keep id AsWritten CommandLine v rows _ _ _ refl k.files;
      })

  pub fan_in_read : (value : Text) (n : ℕ) → o.fan_in ≡ None → fan_in_named value ≡ Some n → Reads (with_fan_in o n) [] (put (codes "fan-in") value rows)
  fan_in_read value n e is =
      let id = codes "fan-in" in
      let v = value ∷ [] in
      once _ [] id value rows (none_here _ id rows (fan_in_none e)) (record {
        fan_in = fresh id AsWritten CommandLine v rows (λ r. option_and_then fan_in_named (first_in r)) (none_of _ _ (fan_in_none e)) ∙ ap Some is;
        sends = keep id AsWritten CommandLine v rows _ _ _ refl k.sends;
        rules = keep id AsWritten CommandLine v rows _ _ _ refl k.rules;
        csv = keep id AsWritten CommandLine v rows _ _ _ refl k.csv;
        serial = keep id AsWritten CommandLine v rows _ _ _ refl k.serial;
        files = keep id AsWritten CommandLine v rows _ _ _ refl k.files;
      })

  pub sends_read : (value : Text) (n : Sends) → o.sends ≡ None → sends_by_name value ≡ Some n → Reads (with_sends o n) [] (put (codes "sends") value rows)
  sends_read value n e is =
      let id = codes "sends" in
      let v = value ∷ [] in
      once _ [] id value rows (none_here _ id rows (sends_none e)) (record {
        fan_in = keep id AsWritten CommandLine v rows _ _ _ refl k.fan_in;
        sends = fresh id AsWritten CommandLine v rows (λ r. option_and_then sends_by_name (first_in r)) (none_of _ _ (sends_none e)) ∙ ap Some is;
        rules = keep id AsWritten CommandLine v rows _ _ _ refl k.rules;
        csv = keep id AsWritten CommandLine v rows _ _ _ refl k.csv;
        serial = keep id AsWritten CommandLine v rows _ _ _ refl k.serial;
        files = keep id AsWritten CommandLine v rows _ _ _ refl k.files;
      })

  pub rules_read : (value : Text) → o.rules ≡ None → Reads (with_rules o value) [] (put (codes "rules") value rows)
  rules_read value e =
      let id = codes "rules" in
      let v = value ∷ [] in
      once _ [] id value rows (none_here _ id rows (rules_none e)) (record {
        fan_in = keep id AsWritten CommandLine v rows _ _ _ refl k.fan_in;
        sends = keep id AsWritten CommandLine v rows _ _ _ refl k.sends;
        rules = fresh id AsWritten CommandLine v rows first_in (none_of _ _ (rules_none e));
        csv = keep id AsWritten CommandLine v rows _ _ _ refl k.csv;
        serial = keep id AsWritten CommandLine v rows _ _ _ refl k.serial;
        files = keep id AsWritten CommandLine v rows _ _ _ refl k.files;
      })

-- ---- one file more

files_longer : (fs : List Text) (word : Text) (o : Option Row) → option_map (λ r. r.values) o ≡ given fs
    → option_map (λ r. r.values) (Some (or_missing (codes "files") (fuller CommandLine (word ∷ [])) (new_row (codes "files") AsWritten CommandLine (word ∷ [])) (λ r. refl) refl o))
    ≡ given (fs ++ word ∷ [])
files_longer [] word None e = refl
files_longer (f ∷ fs) word None e = absurd (true≢false (sym (ap is_some e)))
files_longer [] word (Some r) e = absurd (true≢false (ap is_some e))
files_longer (f ∷ fs) word (Some r) e = ap (option_map (λ vs. vs ++ word ∷ [])) e

pub file_read : (o : Options) (fs : List Text) (word : Text) (rows : List Row) → Reads o fs rows
    → Reads o (fs ++ word ∷ []) (with_values (codes "files") AsWritten CommandLine (word ∷ []) rows)
file_read o fs word rows k =
    let id = codes "files" in
    let v = word ∷ [] in
    record {
      fan_in = keep id AsWritten CommandLine v rows _ _ _ refl k.fan_in;
      sends = keep id AsWritten CommandLine v rows _ _ _ refl k.sends;
      rules = keep id AsWritten CommandLine v rows _ _ _ refl k.rules;
      csv = keep id AsWritten CommandLine v rows _ _ _ refl k.csv;
      serial = keep id AsWritten CommandLine v rows _ _ _ refl k.serial;
      files = ap (option_map (λ r. r.values)) (here id AsWritten CommandLine v rows) ∙ files_longer fs word (row_by id rows) k.files;
    }

-- ---- the same, of what is held

one_passes : (b : Bool) → b ≡ false → ((not b || false) && true) ≡ true
one_passes false e = refl
one_passes true e = absurd (true≢false e)

module _ (o : Options) (h : Held) (k : Ready o [] h) where
  pub csv_ready : o.csv ≡ false → Ready (record o { csv = true }) [] (record h { rows = put (codes "csv") (codes "true") (rows_in h); pending = None })
  csv_ready e = record { passing = refl; reads = csv_read o (rows_in h) k.reads e }

  pub serial_ready : o.serial ≡ false → Ready (record o { serial = true }) [] (record h { rows = put (codes "serial") (codes "true") (rows_in h); pending = None })
  serial_ready e = record { passing = refl; reads = serial_read o (rows_in h) k.reads e }

  pub fan_in_ready : (value : Text) (n : ℕ) → o.fan_in ≡ None → fan_in_named value ≡ Some n → Ready (with_fan_in o n) [] (pending h (codes "fan-in") (value ∷ []))
  fan_in_ready value n e is = record {
    passing = one_passes (has_row (codes "fan-in") (rows_in h)) (none_here _ (codes "fan-in") (rows_in h) (fan_in_none o (rows_in h) k.reads e));
    reads = fan_in_read o (rows_in h) k.reads value n e is;
  }

  pub sends_ready : (value : Text) (n : Sends) → o.sends ≡ None → sends_by_name value ≡ Some n → Ready (with_sends o n) [] (pending h (codes "sends") (value ∷ []))
  sends_ready value n e is = record {
    passing = one_passes (has_row (codes "sends") (rows_in h)) (none_here _ (codes "sends") (rows_in h) (sends_none o (rows_in h) k.reads e));
    reads = sends_read o (rows_in h) k.reads value n e is;
  }

  pub rules_ready : (value : Text) → o.rules ≡ None → Ready (with_rules o value) [] (pending h (codes "rules") (value ∷ []))
  rules_ready value e = record {
    passing = one_passes (has_row (codes "rules") (rows_in h)) (none_here _ (codes "rules") (rows_in h) (rules_none o (rows_in h) k.reads e));
    reads = rules_read o (rows_in h) k.reads value e;
  }

pub file_ready : (o : Options) (fs : List Text) (word : Text) (h : Held) → Ready o fs h → Ready o (fs ++ word ∷ []) (pending h (codes "files") (word ∷ []))
file_ready o fs word h k = record { passing = refl; reads = file_read o fs word (rows_in h) k.reads }
