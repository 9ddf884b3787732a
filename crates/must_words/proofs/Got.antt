-- What the getters of the matches give.
use Rattle.std.proofs.Common.{◌≡◌, ◌∙◌, ◌≤◌, Bool, cond, true, false, refl, sym, ap, ap₂, List, [], ◌∷◌, Option, Some, None, is_some, option_map, true≢false, subst, length, map, drop, take, arith, Bor, codes, Result, IfOk}
use Rattle.std.specs.Prelude.{IfSome, ◌-◌}
use Rattle.std.proofs.lemmas.List.{length-map, take_all}
use Rattle.std.proofs.lemmas.Result.{IfOk-weaker}
use Rattle.clap.specs.Words.{App, HasMatchesOf, all_of, first_of, first_value, found_of, is_simple, matched_of, matches_of, one_of, one_text, raw_values, rows_of, Text}
use Rattle.clap.specs.declared.parser.matches.Found.{Found}
use Rattle.clap.specs.declared.parser.matches.ArgMatches.{ArgMatches}
use Rattle.clap.proofs.OnLiterals.{clap_on_literals}
use Rattle.clap.proofs.WalkLemmas.{first_value-rows, one_text-rows, raw_values-rows}
use Rattle.must_format.specs.declared.limits.TheConstants.{MOST_RANKS}
use Rattle.must_words.specs.Asked.{check_asked}
use Rattle.must_words.specs.Command.{Check, Options, check_words, dump_words, is_file, no_options}
use Rattle.must_words.specs.Readers.{Tells, check_app, dump_app, flag_word, given}
use Rattle.must_words.specs.declared.words.CheckWords.{CheckWords}
use Rattle.must_words.proofs.Canonical.{none_some, same_in}
use Rattle.must_words.proofs.Dumped.{dump_tells}
use Rattle.must_words.proofs.Files.{counted, dropped, has_files}
use Rattle.must_words.proofs.Parsed.{check_simple, check_tells}

pub got_text : (f : Found) (id : Text) (r : Option (Bor Text)) → option_map (λ s. s.now) r ≡ first_value f id → first_of id (rows_of f) ≡ option_map (λ s. s.now) r
got_text f id r e = sym (first_value-rows f id) ∙ sym e

pub got_flag : (f : Found) (id : Text) (r : Bool) → (one_text f id ≡ Some (codes "true") → r ≡ true) → (one_text f id ≡ Some (codes "false") → r ≡ false)
    → (b : Bool) → one_of id (rows_of f) ≡ Some (flag_word b) → r ≡ b
got_flag f id r on off true e = on (one_text-rows f id ∙ e)
got_flag f id r on off false e = off (one_text-rows f id ∙ e)

pub same_options : (a o : Options) → a.fan_in ≡ o.fan_in → a.sends ≡ o.sends → a.rules ≡ o.rules → a.csv ≡ o.csv → a.serial ≡ o.serial → a ≡ o
same_options a o fan_in sends rules csv serial = λ i. record { fan_in = fan_in i; sends = sends i; rules = rules i; csv = csv i; serial = serial i }

pub same_check : (a c : Check) → a.options ≡ c.options → a.files ≡ c.files → a ≡ c
same_check a c options files = λ i. record { options = options i; files = files i }

count_some : (xs : List (Bor Text)) (fs : List Text) → Some (map (λ v. v.now) xs) ≡ given fs → length xs ≡ length fs
count_some xs [] e = absurd (none_some _ (sym e))
count_some xs (f ∷ fs) e = sym (length-map xs (λ v. v.now)) ∙ ap length (same_in _ _ e)

count_none : (fs : List Text) → None ≡ given fs → 0 ≡ length fs
count_none [] e = refl
count_none (f ∷ fs) e = absurd (none_some _ e)

pub got_files : (f : Found) (xs : Bor (List (Bor Text))) (r : Option (Bor (List (Bor Text)))) → option_map (λ s. map (λ v. v.now) s.now) r ≡ option_map raw_values (matched_of f (codes "files"))
    → r ≡ Some xs → (fs : List Text) → all_of (codes "files") (rows_of f) ≡ given fs → length xs.now ≡ length fs
got_files f xs r e is fs all = count_some xs.now fs (sym (ap (option_map (λ s. map (λ v. v.now) s.now)) is) ∙ e ∙ raw_values-rows f (codes "files") ∙ all)

pub got_no_files : (f : Found) (r : Option (Bor (List (Bor Text)))) → option_map (λ s. map (λ v. v.now) s.now) r ≡ option_map raw_values (matched_of f (codes "files"))
    → r ≡ None → (fs : List Text) → all_of (codes "files") (rows_of f) ≡ given fs → 0 ≡ length fs
got_no_files f r e is fs all = count_none fs (sym (ap (option_map (λ s. map (λ v. v.now) s.now)) is) ∙ e ∙ raw_values-rows f (codes "files") ∙ all)

-- the words behind the first
pub behind_first : {X : Type 0} (words : List X) → 1 ≤ length words → take (length words - 1) (drop 1 words) ≡ drop 1 words
behind_first [] least = absurd (omega arith)
behind_first (w ∷ ws) least = take_all _ ws (omega arith)

-- ---- a check

pub told : (a : App) (words : List Text) (first : Text) (rest : List Text) (c : Check) → a ≡ check_app → words ≡ first ∷ rest → check_words 5 no_options rest ≡ Some c
    → (r : Option ArgMatches) → IfSome r (HasMatchesOf a words) → IfSome r (λ m. Tells c.options c.files (rows_of (found_of m)))
told a words first rest c app is e None h = tt
told a words first rest c app is e (Some m) h =
    subst (Tells c.options c.files) (sym ((h (ap is_simple app ∙ check_simple)).0 ∙ ap₂ matches_of app is)) (check_tells first rest c e)

pub files_last : (words : List Text) (first : Text) (rest : List Text) (c : Check) → words ≡ first ∷ rest → check_words 5 no_options rest ≡ Some c
    → drop (length words - length c.files) words ≡ c.files
files_last words first rest c is e =
    let k = (has_files 5 no_options rest c e).ends in
    dropped words c.files (record { front = first ∷ k.front; parts = is ∙ ap (λ l. first ∷ l) k.parts })

module _ {E : Type 0} (r : Result (Option CheckWords) E) where
  abbrev pub ReadsCheck : List Text → Type 0
  ReadsCheck words = (first : Text) (rest : List Text) (c : Check) → words ≡ first ∷ rest → check_words 5 no_options rest ≡ Some c → IfOk r (λ o. option_map check_asked o ≡ Some c)

  pub check_read : (words : List Text) → 1 ≤ length words → is_some (check_words 5 no_options (drop 1 words)) ≡ true → ReadsCheck words
      → IfOk r (λ o. option_map check_asked o ≡ check_words 5 no_options (drop 1 words))
  check_read [] least some reads = absurd (omega arith)
  check_read (w ∷ ws) least some reads = go (check_words 5 no_options ws) refl some
    where
      go : (k : Option Check) → check_words 5 no_options ws ≡ k → is_some k ≡ true → IfOk r (λ o. option_map check_asked o ≡ check_words 5 no_options ws)
      go None is e = absurd (true≢false (sym e))
      go (Some c) is e = IfOk-weaker r _ _ (λ o h. h ∙ sym is) (reads w ws c refl is)

  few : (c : Check) → (1 ≤ length c.files) × (length c.files ≤ MOST_RANKS) → (o : Option CheckWords) → option_map check_asked o ≡ Some c
      → IfSome o (λ k. (1 ≤ length k.files.now) × (length k.files.now ≤ MOST_RANKS))
  few c fits None e = tt
  few c fits (Some k) e = subst (λ (d : Check). (1 ≤ length d.files) × (length d.files ≤ MOST_RANKS)) (sym (same_in (check_asked k) c e)) fits

  pub check_count : (words : List Text) → 1 ≤ length words → is_some (check_words 5 no_options (drop 1 words)) ≡ true → ReadsCheck words
      → IfOk r (λ o. IfSome o (λ k. (1 ≤ length k.files.now) × (length k.files.now ≤ MOST_RANKS)))
  check_count [] least some reads = absurd (omega arith)
  check_count (w ∷ ws) least some reads = go (check_words 5 no_options ws) refl some
    where
      go : (k : Option Check) → check_words 5 no_options ws ≡ k → is_some k ≡ true → IfOk r (λ o. IfSome o (λ k. (1 ≤ length k.files.now) × (length k.files.now ≤ MOST_RANKS)))
      go None is e = absurd (true≢false (sym e))
      go (Some c) is e = IfOk-weaker r _ _ (few c (counted c.files (has_files 5 no_options ws c is).files)) (reads w ws c refl is)

-- ---- a dump

pub dump_simple : is_simple dump_app ≡ true
unfolding clap_on_literals
dump_simple = refl

pub dumped : (a : App) (words : List Text) (first file : Text) (m : ArgMatches) → a ≡ dump_app → words ≡ first ∷ file ∷ [] → is_file file ≡ true → HasMatchesOf a words m
    → first_value (found_of m) (codes "file") ≡ Some file
dumped a words first file m app is f h =
    first_value-rows (found_of m) (codes "file") ∙ ap (first_of (codes "file")) ((h (ap is_simple app ∙ dump_simple)).0 ∙ ap₂ matches_of app is) ∙ dump_tells first file f

module _ {E : Type 0} (r : Result (Option (Bor Text)) E) where
  pub dump_read : (words : List Text) → 1 ≤ length words → is_some (dump_words (drop 1 words)) ≡ true
      → ((first file : Text) → words ≡ first ∷ file ∷ [] → is_file file ≡ true → IfOk r (λ o. option_map (λ f. f.now) o ≡ Some file))
      → IfOk r (λ o. option_map (λ f. f.now) o ≡ dump_words (drop 1 words))
  dump_read [] least some reads = absurd (omega arith)
  dump_read (w ∷ []) least some reads = absurd (true≢false (sym some))
  dump_read (w ∷ a ∷ b ∷ rest) least some reads = absurd (true≢false (sym some))
  dump_read (w ∷ file ∷ []) least some reads = go (is_file file) refl some
    where
      go : (b : Bool) → is_file file ≡ b → is_some (cond b (Some file) None) ≡ true → IfOk r (λ o. option_map (λ f. f.now) o ≡ dump_words (file ∷ []))
      go false is e = absurd (true≢false (sym e))
      go true is e = IfOk-weaker r _ _ (λ o h. h ∙ sym (ap (λ b. cond b (Some file) None) is)) (reads w file refl is)
