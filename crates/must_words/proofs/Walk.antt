-- The walk of `clap` over the words of a check, word by word.
use Rattle.std.proofs.Common.{◌≡◌, ◌&&◌, ◌||◌, Bool, true, false, not, refl, sym, List, [], ◌∷◌, Some, None, true≢false}
use Rattle.std.specs.Prelude.{codes, ◌==◌, nat_lt, length}
use Rattle.clap.proofs.WalkLemmas.{both}
use Rattle.clap.proofs.SimpleLemmas.{is_false}
use Rattle.std.specs.Str.{bytes_eq}
use Rattle.clap.specs.Lexer.{long_of, short_of}
use Rattle.clap.specs.Simple.{Shape, built, filled, with_index}
use Rattle.clap.specs.Takes.{settle_passes, turn_passes}
use Rattle.clap.specs.Walk.{Held, Row, Rule, Text, Walk, has_row, is_pending, option, positional, reacted, settled, walk_from, walked}
use Rattle.must_words.specs.Command.{is_file}
use Rattle.must_words.specs.Readers.{check_app, files_rule, flag_rule}

abbrev pub shape : Shape
shape = (built check_app).top

abbrev pub rules : List Rule
rules = (built check_app).top.rules

abbrev pub filled_rule : Rule → Rule
filled_rule r = with_index 1 (filled r)

abbrev pub rows_in : Held → List Row
rows_in h = (settled rules h).rows

abbrev pub passes : Held → Bool
passes h = settle_passes rules false h

-- what is held where this use of an argument is pending
abbrev pub pending : Held → Text → List Text → Held
pending h id values = record h { rows = rows_in h; pending = Some (id, values) }

both_true : (a b : Bool) → a ≡ true → b ≡ false → ((a && ((not b || false) && true)) && true) ≡ true
both_true true false x y = refl
both_true true true x y = absurd (true≢false y)
both_true false b x y = x

and_true : (a : Bool) → a ≡ true → (a && true) ≡ true
and_true true x = refl
and_true false x = x

pub and_false : (b : Bool) → (b && false) ≡ false
and_false true = refl
and_false false = refl

-- a pending use of the files takes no further word
abbrev files_pending : Held → Bool
files_pending h = is_pending (filled_rule files_rule) h.pending

-- ---- an option without a value

pub csv_walked : (h : Held) → walked rules [] (walk_from h) (codes "--csv") ≡ walk_from (reacted rules (filled_rule (flag_rule (codes "csv"))) [] h)
unfolding walked
csv_walked h = refl

pub serial_walked : (h : Held) → walked rules [] (walk_from h) (codes "--serial") ≡ walk_from (reacted rules (filled_rule (flag_rule (codes "serial"))) [] h)
unfolding walked
serial_walked h = refl

pub csv_turn : (h : Held) → passes h ≡ true → has_row (codes "csv") (rows_in h) ≡ false → turn_passes shape [] (walk_from h) (codes "--csv") ≡ true
csv_turn h p none = both_true (passes h) (has_row (codes "csv") (rows_in h)) p none

pub serial_turn : (h : Held) → passes h ≡ true → has_row (codes "serial") (rows_in h) ≡ false → turn_passes shape [] (walk_from h) (codes "--serial") ≡ true
serial_turn h p none = both_true (passes h) (has_row (codes "serial") (rows_in h)) p none

-- ---- an option with a value

abbrev pub waiting_for : Held → Text → Walk
waiting_for h id = record (walk_from (pending h id [])) { waiting = option id }

pub fan_in_walked : (h : Held) → walked rules [] (walk_from h) (codes "--fan-in") ≡ waiting_for h (codes "fan-in")
unfolding walked
fan_in_walked h = refl

pub sends_walked : (h : Held) → walked rules [] (walk_from h) (codes "--sends") ≡ waiting_for h (codes "sends")
unfolding walked
sends_walked h = refl

pub rules_walked : (h : Held) → walked rules [] (walk_from h) (codes "--rules") ≡ waiting_for h (codes "rules")
unfolding walked
rules_walked h = refl

pub fan_in_turn : (h : Held) → passes h ≡ true → turn_passes shape [] (walk_from h) (codes "--fan-in") ≡ true
fan_in_turn h p = and_true (passes h) p

pub sends_turn : (h : Held) → passes h ≡ true → turn_passes shape [] (walk_from h) (codes "--sends") ≡ true
sends_turn h p = and_true (passes h) p

pub rules_turn : (h : Held) → passes h ≡ true → turn_passes shape [] (walk_from h) (codes "--rules") ≡ true
rules_turn h p = and_true (passes h) p

-- ---- a word that doesn't begin with a dash

pub record Plain (word : Text) : Type 0 where
  pub long : long_of word ≡ None
  pub short : short_of word ≡ None
  pub dashes : bytes_eq word (45 ∷ 45 ∷ []) ≡ false

pub plain_file : (word : Text) → is_file word ≡ true → Plain word
plain_file [] e = absurd (true≢false (sym e))
plain_file (x ∷ xs) e =
    let first : (x == 45) ≡ false = is_false (x == 45) (both (nat_lt 0 (length (x ∷ xs))) (not (x == 45)) e).1 in
    record { long = rw first refl; short = rw first refl; dashes = rw first refl }

module _ (word : Text) (file : is_file word ≡ true) where
  plain_word : Plain word
  plain_word = plain_file word file

  pub fan_in_valued : (h : Held) → walked rules [] (waiting_for h (codes "fan-in")) word ≡ walk_from (pending h (codes "fan-in") (word ∷ []))
  unfolding walked
  fan_in_valued h = rw (plain_word.long, plain_word.short, plain_word.dashes) refl

  pub sends_valued : (h : Held) → walked rules [] (waiting_for h (codes "sends")) word ≡ walk_from (pending h (codes "sends") (word ∷ []))
  unfolding walked
  sends_valued h = rw (plain_word.long, plain_word.short, plain_word.dashes) refl

  pub rules_valued : (h : Held) → walked rules [] (waiting_for h (codes "rules")) word ≡ walk_from (pending h (codes "rules") (word ∷ []))
  unfolding walked
  rules_valued h = rw (plain_word.long, plain_word.short, plain_word.dashes) refl

  pub valued_turn : (h : Held) (id : Text) → turn_passes shape [] (waiting_for h id) word ≡ true
  valued_turn h id = rw (plain_word.long, plain_word.short, plain_word.dashes) refl

  pub file_walked : (h : Held) → walked rules [] (walk_from h) word ≡ record (walk_from (pending h (codes "files") (word ∷ []))) { waiting = positional }
  unfolding walked
  file_walked h = rw (plain_word.long, plain_word.short, plain_word.dashes, and_false (files_pending h)) refl

  pub next_file_walked : (h : Held) → walked rules [] (record (walk_from h) { waiting = positional }) word ≡ record (walk_from (pending h (codes "files") (word ∷ []))) { waiting = positional }
  unfolding walked
  next_file_walked h = rw (plain_word.long, plain_word.short, plain_word.dashes, and_false (files_pending h)) refl

  pub next_file_turn : (h : Held) → passes h ≡ true → turn_passes shape [] (record (walk_from h) { waiting = positional }) word ≡ true
  next_file_turn h p = rw (plain_word.long, plain_word.short, plain_word.dashes, and_false (files_pending h)) p

  pub file_turn : (h : Held) → passes h ≡ true → turn_passes shape [] (walk_from h) word ≡ true
  file_turn h p = rw (plain_word.long, plain_word.short, plain_word.dashes, and_false (files_pending h)) p
