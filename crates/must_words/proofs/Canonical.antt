-- What `clap` holds after the canonical words of a check.
use Rattle.std.proofs.Common.{◌≡◌, ◌∙◌, ◌&&◌, ℕ, Bool, cond, true, false, not, zero, suc, refl, sym, ap, List, [], ◌∷◌, ◌++◌, Option, Some, None, is_some, option_map, true≢false, subst, length, append-nil, arith, ne_eqb}
use Rattle.std.specs.Prelude.{◌==◌, ◌-◌, ◌*◌, ◌+◌, ◌≤◌, codes, option_and_then, fold, nat_lt, nat_le, unwrap_or}
use Rattle.std.specs.List.{list_all}
use Rattle.std.specs.Str.{bytes_eq}
use Rattle.std.proofs.lemmas.List.{append_assoc}
use Rattle.std.proofs.lemmas.Bool.{leb-true, lt-ltb}
use Rattle.clap.specs.Takes.{turn_passes, walk_passes}
use Rattle.clap.specs.Walk.{Held, Text, Walk, positional, walk_from, walked}
use Rattle.clap.proofs.WalkLemmas.{both}
use Rattle.clap.proofs.SimpleLemmas.{is_false}
use Rattle.must_plan.specs.declared.plan.Sends.{Sends}
use Rattle.must_plan.specs.declared.plan.Sends.TheVariants.{Buffered, Strict}
use Rattle.must_settings.specs.RulesFile.{sends_by_name}
use Rattle.must_words.specs.Command.{Check, Options, Taken, are_files, check_words, fan_in_named, fan_in_when, file_named, is_digit, is_file, option_at, or_files, or_value, taken, value_at, with_fan_in, with_rules, with_sends}
use Rattle.must_words.proofs.Rows.{same_text}
use Rattle.must_words.proofs.Walk.{csv_turn, csv_walked, fan_in_turn, fan_in_valued, fan_in_walked, file_turn, file_walked, next_file_turn, next_file_walked, pending, rows_in, rules, rules_turn, rules_valued, rules_walked, sends_turn, sends_valued, sends_walked, serial_turn, serial_walked, shape, valued_turn, waiting_for}
use Rattle.must_words.proofs.Readings.{Ready, csv_none, csv_ready, fan_in_ready, file_ready, rules_ready, sends_ready, serial_none, serial_ready}
use Rattle.must_words.proofs.Rows.{none_here}

abbrev pub goes : Walk → List Text → Walk
goes w words = fold (walked rules []) w words

abbrev pub takes_from : Walk → List Text → Bool
takes_from w words = walk_passes shape [] w words

-- ---- one word

pub both_hold : (a b : Bool) → a ≡ true → b ≡ true → (a && b) ≡ true
both_hold true b x y = y
both_hold false b x y = x

takes_one : (w : Walk) (word : Text) (rest : List Text) → turn_passes shape [] w word ≡ true → takes_from (walked rules [] w word) rest ≡ true → takes_from w (word ∷ rest) ≡ true
unfolding walk_passes
takes_one w word rest here behind = both_hold (turn_passes shape [] w word) (takes_from (walked rules [] w word) rest) here behind

-- ---- one option

pub record Stepped (words : List Text) (t : Taken) (h : Held) : Type 0 where
  pub after : Held
  pub ready : Ready t.options [] after
  pub walks : goes (walk_from h) words ≡ goes (walk_from after) t.words
  pub passing : takes_from (walk_from after) t.words ≡ true → takes_from (walk_from h) words ≡ true

-- by one word
by_word : (t : Taken) (h after : Held) (word : Text) → Ready t.options [] after → walked rules [] (walk_from h) word ≡ walk_from after → turn_passes shape [] (walk_from h) word ≡ true
    → Stepped (word ∷ t.words) t h
by_word t h after word k walks turn = record {
  after = after;
  ready = k;
  walks = ap (λ w. goes w t.words) walks;
  passing = λ e. takes_one (walk_from h) word t.words turn (ap (λ w. takes_from w t.words) walks ∙ e);
}

-- by two words
by_words : (t : Taken) (h after : Held) (word value id : Text) → Ready t.options [] after → walked rules [] (walk_from h) word ≡ waiting_for h id → turn_passes shape [] (walk_from h) word ≡ true
    → walked rules [] (waiting_for h id) value ≡ walk_from after → turn_passes shape [] (waiting_for h id) value ≡ true
    → Stepped (word ∷ value ∷ t.words) t h
by_words t h after word value id k walks turn more again = record {
  after = after;
  ready = k;
  walks = ap (λ w. goes (walked rules [] w value) t.words) walks ∙ ap (λ w. goes w t.words) more;
  passing = λ e. takes_one (walk_from h) word (value ∷ t.words) turn
      (ap (λ w. takes_from w (value ∷ t.words)) walks ∙ takes_one (waiting_for h id) value t.words again (ap (λ w. takes_from w t.words) more ∙ e));
}

no_value : {X : Type 0} (o : Option X) → not (is_some o) ≡ true → o ≡ None
no_value None e = refl
no_value (Some x) e = absurd (true≢false (sym e))

-- ---- values don't begin with a dash

pub none_some : {X : Type 0} (x : X) → None ≡ Some x → ⊥
none_some x e = true≢false (sym (ap is_some e))

pub same_in : {X : Type 0} (x y : X) → Some x ≡ Some y → x ≡ y
same_in x y e = ap (λ o. unwrap_or o x) e

sends_file : (value : Text) (s : Sends) → sends_by_name value ≡ Some s → is_file value ≡ true
sends_file value s e = go (bytes_eq value (codes "strict")) refl e
  where
    last : (b : Bool) → bytes_eq value (codes "buffered") ≡ b → cond b (Some Buffered) None ≡ Some s → is_file value ≡ true
    last true is e = ap is_file (same_text value (codes "buffered") is)
    last false is e = absurd (none_some s e)

    go : (b : Bool) → bytes_eq value (codes "strict") ≡ b → cond b (Some Strict) (cond (bytes_eq value (codes "buffered")) (Some Buffered) None) ≡ Some s → is_file value ≡ true
    go true is e = ap is_file (same_text value (codes "strict") is)
    go false is e = last (bytes_eq value (codes "buffered")) refl e

digit_file : (x : ℕ) (xs : Text) → is_digit x ≡ true → is_file (x ∷ xs) ≡ true
digit_file x xs e =
    let low : 48 ≤ x = leb-true 48 x (both (nat_le 48 x) (nat_le x 57) e).0 in
    let other : (x == 45) ≡ false = ne_eqb x 45 (λ is. omega arith) in
    let long : nat_lt 0 (length (x ∷ xs)) ≡ true = lt-ltb 0 (length (x ∷ xs)) (omega arith) in
    both_hold (nat_lt 0 (length (x ∷ xs))) (not (x == 45)) long (ap not other)

fan_in_file : (value : Text) (n : ℕ) → fan_in_named value ≡ Some n → is_file value ≡ true
fan_in_file [] n e = absurd (none_some n e)
fan_in_file (x ∷ []) n e = go (is_digit x) refl e
  where
    go : (b : Bool) → is_digit x ≡ b → option_and_then fan_in_when (cond b (Some (x - 48)) None) ≡ Some n → is_file (x ∷ []) ≡ true
    go true is e = digit_file x [] is
    go false is e = absurd (none_some n e)
fan_in_file (x ∷ y ∷ []) n e = go (is_digit x && (is_digit y && not (x == 48))) refl e
  where
    go : (b : Bool) → (is_digit x && (is_digit y && not (x == 48))) ≡ b → option_and_then fan_in_when (cond b (Some ((x - 48) * 10 + (y - 48))) None) ≡ Some n → is_file (x ∷ y ∷ []) ≡ true
    go true is e = digit_file x (y ∷ []) (both (is_digit x) _ is).0
    go false is e = absurd (none_some n e)
fan_in_file (x ∷ y ∷ z ∷ zs) n e = absurd (none_some n e)

-- ---- the cases of an option

module _ (o : Options) (h : Held) (k : Ready o [] h) (words : List Text) (t : Taken) where
  abbrev here : Text → Type 0
  here word = Stepped (word ∷ words) t h

  csv_step : o.csv ≡ false → Some (taken words (record o { csv = true })) ≡ Some t → here (codes "--csv")
  csv_step off is = subst (λ u. Stepped (codes "--csv" ∷ words) u h) (same_in _ t is)
      (by_word (taken words (record o { csv = true })) h _ (codes "--csv") (csv_ready o h k off) (csv_walked h) (csv_turn h k.passing (none_here _ (codes "csv") (rows_in h) (csv_none o (rows_in h) k.reads off))))

  serial_step : o.serial ≡ false → Some (taken words (record o { serial = true })) ≡ Some t → here (codes "--serial")
  serial_step off is = subst (λ u. Stepped (codes "--serial" ∷ words) u h) (same_in _ t is)
      (by_word (taken words (record o { serial = true })) h _ (codes "--serial") (serial_ready o h k off) (serial_walked h) (serial_turn h k.passing (none_here _ (codes "serial") (rows_in h) (serial_none o (rows_in h) k.reads off))))

  module _ (value : Text) where
    abbrev behind : Text → Type 0
    behind word = Stepped (word ∷ value ∷ words) t h

    fan_in_step : o.fan_in ≡ None → (n : Option ℕ) → fan_in_named value ≡ n → option_map (taken words) (option_map (with_fan_in o) n) ≡ Some t → behind (codes "--fan-in")
    fan_in_step off None is e = absurd (none_some t e)
    fan_in_step off (Some n) is e = subst (λ u. Stepped (codes "--fan-in" ∷ value ∷ words) u h) (same_in _ t e)
        (by_words (taken words (with_fan_in o n)) h _ (codes "--fan-in") value (codes "fan-in") (fan_in_ready o h k value n off is) (fan_in_walked h) (fan_in_turn h k.passing)
        (fan_in_valued value (fan_in_file value n is) h) (valued_turn value (fan_in_file value n is) h (codes "fan-in")))

    sends_step : o.sends ≡ None → (n : Option Sends) → sends_by_name value ≡ n → option_map (taken words) (option_map (with_sends o) n) ≡ Some t → behind (codes "--sends")
    sends_step off None is e = absurd (none_some t e)
    sends_step off (Some n) is e = subst (λ u. Stepped (codes "--sends" ∷ value ∷ words) u h) (same_in _ t e)
        (by_words (taken words (with_sends o n)) h _ (codes "--sends") value (codes "sends") (sends_ready o h k value n off is) (sends_walked h) (sends_turn h k.passing)
        (sends_valued value (sends_file value n is) h) (valued_turn value (sends_file value n is) h (codes "sends")))

    rules_step : o.rules ≡ None → (b : Bool) → is_file value ≡ b → option_map (taken words) (option_map (with_rules o) (cond b (Some value) None)) ≡ Some t → behind (codes "--rules")
    rules_step off false is e = absurd (none_some t e)
    rules_step off true is e = subst (λ u. Stepped (codes "--rules" ∷ value ∷ words) u h) (same_in _ t e)
        (by_words (taken words (with_rules o value)) h _ (codes "--rules") value (codes "rules") (rules_ready o h k value off) (rules_walked h) (rules_turn h k.passing)
        (rules_valued value is h) (valued_turn value is h (codes "rules")))

    module _ (word : Text) where
      rules_case : (b : Bool) → (bytes_eq word (codes "--rules") && not (is_some o.rules)) ≡ b
          → option_map (taken words) (cond b (option_map (with_rules o) (file_named value)) None) ≡ Some t → behind word
      rules_case false is e = absurd (none_some t e)
      rules_case true is e =
          let p = both (bytes_eq word (codes "--rules")) _ is in
          subst behind (sym (same_text word (codes "--rules") p.0)) (rules_step (no_value o.rules p.1) (is_file value) refl e)

      sends_case : (b : Bool) → (bytes_eq word (codes "--sends") && not (is_some o.sends)) ≡ b
          → option_map (taken words) (cond b (option_map (with_sends o) (sends_by_name value))
          (cond (bytes_eq word (codes "--rules") && not (is_some o.rules)) (option_map (with_rules o) (file_named value)) None)) ≡ Some t → behind word
      sends_case false is e = rules_case (bytes_eq word (codes "--rules") && not (is_some o.rules)) refl e
      sends_case true is e =
          let p = both (bytes_eq word (codes "--sends")) _ is in
          subst behind (sym (same_text word (codes "--sends") p.0)) (sends_step (no_value o.sends p.1) (sends_by_name value) refl e)

      fan_in_case : (b : Bool) → (bytes_eq word (codes "--fan-in") && not (is_some o.fan_in)) ≡ b
          → option_map (taken words) (cond b (option_map (with_fan_in o) (fan_in_named value))
          (cond (bytes_eq word (codes "--sends") && not (is_some o.sends)) (option_map (with_sends o) (sends_by_name value))
          (cond (bytes_eq word (codes "--rules") && not (is_some o.rules)) (option_map (with_rules o) (file_named value)) None))) ≡ Some t → behind word
      fan_in_case false is e = sends_case (bytes_eq word (codes "--sends") && not (is_some o.sends)) refl e
      fan_in_case true is e =
          let p = both (bytes_eq word (codes "--fan-in")) _ is in
          subst behind (sym (same_text word (codes "--fan-in") p.0)) (fan_in_step (no_value o.fan_in p.1) (fan_in_named value) refl e)

value_case : (o : Options) (h : Held) (k : Ready o [] h) (word : Text) (words : List Text) (t : Taken) → value_at o word words ≡ Some t → Stepped (word ∷ words) t h
value_case o h k word [] t e = absurd (none_some t e)
value_case o h k word (value ∷ words) t e = fan_in_case o h k words t value word (bytes_eq word (codes "--fan-in") && not (is_some o.fan_in)) refl e

module _ (o : Options) (h : Held) (k : Ready o [] h) (word : Text) (words : List Text) (t : Taken) where
  serial_case : (b : Bool) → (bytes_eq word (codes "--serial") && not o.serial) ≡ b
      → or_value (cond b (Some (record o { serial = true })) None) o word words ≡ Some t → Stepped (word ∷ words) t h
  serial_case false is e = value_case o h k word words t e
  serial_case true is e =
      let p = both (bytes_eq word (codes "--serial")) _ is in
      subst (λ w. Stepped (w ∷ words) t h) (sym (same_text word (codes "--serial") p.0)) (serial_step o h k words t (is_false o.serial p.1) e)

  csv_case : (b : Bool) → (bytes_eq word (codes "--csv") && not o.csv) ≡ b
      → or_value (cond b (Some (record o { csv = true })) (cond (bytes_eq word (codes "--serial") && not o.serial) (Some (record o { serial = true })) None)) o word words ≡ Some t → Stepped (word ∷ words) t h
  csv_case false is e = serial_case (bytes_eq word (codes "--serial") && not o.serial) refl e
  csv_case true is e =
      let p = both (bytes_eq word (codes "--csv")) _ is in
      subst (λ w. Stepped (w ∷ words) t h) (sym (same_text word (codes "--csv") p.0)) (csv_step o h k words t (is_false o.csv p.1) e)

pub option_step : (o : Options) (h : Held) → Ready o [] h → (words : List Text) (t : Taken) → option_at o words ≡ Some t → Stepped words t h
option_step o h k [] t e = absurd (none_some t e)
option_step o h k (word ∷ words) t e = csv_case o h k word words t (bytes_eq word (codes "--csv") && not o.csv) refl e

-- ---- the files

abbrev pub positional_at : Held → Walk
positional_at h = record (walk_from h) { waiting = positional }

pub record Ended (w : Walk) (words : List Text) (o : Options) (fs : List Text) : Type 0 where
  pub after : Held
  pub ready : Ready o fs after
  pub walks : goes w words ≡ positional_at after
  pub passing : takes_from w words ≡ true

file_by_word : (o : Options) (fs : List Text) (w : Walk) (h : Held) (word : Text) (words : List Text) → walked rules [] w word ≡ positional_at h → turn_passes shape [] w word ≡ true
    → Ended (positional_at h) words o fs → Ended w (word ∷ words) o fs
file_by_word o fs w h word words walks turn k = record {
  after = k.after;
  ready = k.ready;
  walks = ap (λ v. goes v words) walks ∙ k.walks;
  passing = takes_one w word words turn (ap (λ v. takes_from v words) walks ∙ k.passing);
}

pub files_walk : (o : Options) (words fs : List Text) (h : Held) → Ready o fs h → list_all is_file words ≡ true → Ended (positional_at h) words o (fs ++ words)
unfolding walk_passes
files_walk o [] fs h k all = record { after = h; ready = subst (λ l. Ready o l h) (sym (append-nil fs)) k; walks = refl; passing = refl }
files_walk o (word ∷ words) fs h k all =
    let p = both (is_file word) (list_all is_file words) all in
    subst (λ l. Ended (positional_at h) (word ∷ words) o l) (append_assoc fs (word ∷ []) words)
    (file_by_word o ((fs ++ word ∷ []) ++ words) (positional_at h) (pending h (codes "files") (word ∷ [])) word words (next_file_walked word p.0 h) (next_file_turn word p.0 h k.passing)
    (files_walk o words (fs ++ word ∷ []) _ (file_ready o fs word h k) p.1))

-- a check has a file at least
files_from : (o : Options) (words : List Text) (h : Held) → Ready o [] h → are_files words ≡ true → Ended (walk_from h) words o words
files_from o [] h k all = absurd (true≢false (sym all))
files_from o (word ∷ words) h k all =
    let q = both (nat_le (length (word ∷ words)) _) (list_all is_file (word ∷ words)) (both (nat_lt 0 (length (word ∷ words))) _ all).1 in
    let p = both (is_file word) (list_all is_file words) q.1 in
    file_by_word o (word ∷ words) (walk_from h) (pending h (codes "files") (word ∷ [])) word words (file_walked word p.0 h) (file_turn word p.0 h k.passing)
    (files_walk o words (word ∷ []) _ (file_ready o [] word h k) p.1)

-- ---- all the words

check_end : (o : Options) (h : Held) (words : List Text) (c : Check) → Ready o [] h → (b : Bool) → are_files words ≡ b
    → cond b (Some (record { options = o; files = words })) None ≡ Some c → Ended (walk_from h) words c.options c.files
check_end o h words c k false is e = absurd (none_some c e)
check_end o h words c k true is e = subst (λ (d : Check). Ended (walk_from h) words d.options d.files) (same_in _ c e) (files_from o words h k is)

stepped_end : (o : Options) (fs words : List Text) (t : Taken) (h : Held) (s : Stepped words t h) → Ended (walk_from s.after) t.words o fs → Ended (walk_from h) words o fs
stepped_end o fs words t h s k = record { after = k.after; ready = k.ready; walks = s.walks ∙ k.walks; passing = s.passing k.passing }

pub check_walk : (most : ℕ) (o : Options) (h : Held) (words : List Text) (c : Check) → Ready o [] h → check_words most o words ≡ Some c → Ended (walk_from h) words c.options c.files
check_walk zero o h words c k e = check_end o h words c k (are_files words) refl e
check_walk (suc most) o h words c k e = go (λ t g r is. check_walk most t.options g t.words c r is) (option_at o words) refl e
  where
    go : ((t : Taken) (g : Held) → Ready t.options [] g → check_words most t.options t.words ≡ Some c → Ended (walk_from g) t.words c.options c.files)
        → (t : Option Taken) → option_at o words ≡ t → or_files o words (option_map (λ t. check_words most t.options t.words) t) ≡ Some c → Ended (walk_from h) words c.options c.files
    go next None is e = check_end o h words c k (are_files words) refl e
    go next (Some t) is e =
        let s = option_step o h k words t is in
        stepped_end c.options c.files words t h s (next t s.after s.ready e)
