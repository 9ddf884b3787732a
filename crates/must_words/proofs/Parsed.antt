-- `clap` takes the canonical words of a check, and its matches tell them.
use Rattle.std.proofs.Common.{◌≡◌, ◌∙◌, ◌&&◌, Bool, cond, true, false, refl, sym, ap, List, [], ◌∷◌, Option, Some, None, is_some, option_map, subst}
use Rattle.std.specs.Prelude.{codes, option_and_then}
use Rattle.std.specs.List.{list_all}
use Rattle.std.specs.Str.{bytes_eq}
use Rattle.clap.proofs.OnLiterals.{clap_on_literals}
use Rattle.clap.proofs.TakesLemmas.{leaf_takes}
use Rattle.clap.specs.Simple.{built, is_simple, matches_of}
use Rattle.clap.specs.Takes.{default_passes, is_valid, level_passes, settle_passes, takes}
use Rattle.clap.specs.Walk.{Held, Row, Text, Walk, finished, has_row, nothing_held, row_text, walk_from, with_default, with_values}
use Rattle.clap.specs.declared.builder.value_parser.Reading.TheVariants.{AsWritten}
use Rattle.clap.specs.declared.parser.matches.ValueSource.TheVariants.{DefaultValue}
use Rattle.must_words.specs.Command.{Check, Options, check_words, fan_in_named, no_options}
use Rattle.must_words.specs.Readers.{Tells, check_app, files_rule, flag_rule, flag_word, valued_rule}
use Rattle.must_words.proofs.Rows.{has_row-row_by, none_here, row_by}
use Rattle.must_words.proofs.Walk.{filled_rule, passes, rows_in, rules, shape}
use Rattle.must_words.proofs.Readings.{Reads, first_in, flag_text, fresh, keep, none_of, none_ready}
use Rattle.must_words.proofs.Canonical.{Ended, both_hold, check_walk, none_some, same_in}

pub check_ended : (words : List Text) (c : Check) → check_words 5 no_options words ≡ Some c → Ended (walk_from nothing_held) words c.options c.files
check_ended words c e = check_walk 5 no_options nothing_held words c none_ready e

pub check_simple : is_simple check_app ≡ true
unfolding clap_on_literals
check_simple = refl

abbrev end_passes : Walk → Bool
end_passes w = settle_passes rules false w.held && (list_all default_passes rules && is_valid shape (finished rules w.held) false)

end_of : (h : Held) → passes h ≡ true → (passes h && true) ≡ true
end_of h e = both_hold (passes h) true e refl

pub check_takes : (first : Text) (words : List Text) (c : Check) → check_words 5 no_options words ≡ Some c → takes check_app (first ∷ words) ≡ true
check_takes first words c e =
    let k = check_ended words c e in
    let level : level_passes shape [] nothing_held words false ≡ true = both_hold _ _ k.passing (ap end_passes k.walks ∙ end_of k.after k.ready.passing) in
    both_hold (is_simple check_app) _ check_simple (leaf_takes (built check_app) nothing_held words refl level)

pub check_matches : (first : Text) (words : List Text) (c : Check) (k : Ended (walk_from nothing_held) words c.options c.files)
    → matches_of check_app (first ∷ words) ≡ finished rules k.after
check_matches first words c k = ap (λ (w : Walk). finished rules w.held) k.walks

-- ---- defaults

same_if : {X : Type 0} (b : Bool) (x : X) → cond b x x ≡ x
same_if true x = refl
same_if false x = refl

no_default : (id : Text) (rows : List Row) → with_default rows (filled_rule (valued_rule id)) ≡ rows
no_default id rows = same_if (has_row id rows) rows

no_files_default : (rows : List Row) → with_default rows (filled_rule files_rule) ≡ rows
no_files_default rows = same_if (has_row (codes "files") rows) rows

abbrev flag_default : Text → List Row → List Row
flag_default id rows = with_default rows (filled_rule (flag_rule id))

abbrev set_false : Text → List Row → List Row
set_false id rows = with_values id AsWritten DefaultValue (codes "false" ∷ []) rows

default_keeps : {X : Type 0} (f : Row → X) (id other : Text) (goal : Option X) (rows : List Row) → bytes_eq id other ≡ false
    → option_map f (row_by other rows) ≡ goal → option_map f (row_by other (flag_default id rows)) ≡ goal
default_keeps {X} f id other goal rows apart e = go (has_row id rows)
  where
    go : (b : Bool) → option_map f (row_by other (cond b rows (set_false id rows))) ≡ goal
    go true = e
    go false = keep id AsWritten DefaultValue (codes "false" ∷ []) rows f other goal apart e

some_here : (o : Option Row) → option_map row_text o ≡ Some (Some (codes "true")) → is_some o ≡ true
some_here None e = absurd (none_some _ e)
some_here (Some r) e = refl

default_tells : (id : Text) (rows : List Row) (b : Bool) → option_map row_text (row_by id rows) ≡ flag_text b
    → option_map row_text (row_by id (flag_default id rows)) ≡ Some (Some (flag_word b))
default_tells id rows true e =
    ap (λ b. option_map row_text (row_by id (cond b rows (set_false id rows)))) (has_row-row_by id rows ∙ some_here (row_by id rows) e) ∙ e
default_tells id rows false e =
    ap (λ b. option_map row_text (row_by id (cond b rows (set_false id rows)))) (none_here row_text id rows e)
    ∙ fresh id AsWritten DefaultValue (codes "false" ∷ []) rows row_text (none_of row_text (row_by id rows) e)

abbrev ended_rows : List Row → List Row
ended_rows rows = flag_default (codes "serial") (flag_default (codes "csv") rows)

finished_rows : (h : Held) → finished rules h ≡ ended_rows (rows_in h)
finished_rows h =
    let behind = λ (rows : List Row). with_default (ended_rows rows) (filled_rule files_rule) in
    ap (λ rs. behind (with_default (with_default rs (filled_rule (valued_rule (codes "sends")))) (filled_rule (valued_rule (codes "rules"))))) (no_default (codes "fan-in") (rows_in h))
    ∙ ap (λ rs. behind (with_default rs (filled_rule (valued_rule (codes "rules"))))) (no_default (codes "sends") (rows_in h))
    ∙ ap behind (no_default (codes "rules") (rows_in h))
    ∙ no_files_default (ended_rows (rows_in h))

-- ---- what the rows tell

joined : {X : Type 0} (g : Text → Option X) (r : Option Row) (o : Option X) → option_map (λ r. option_and_then g (first_in r)) r ≡ option_map Some o
    → option_and_then g (option_and_then first_in r) ≡ o
joined g None None e = refl
joined g None (Some x) e = absurd (none_some _ e)
joined g (Some r) None e = absurd (none_some _ (sym e))
joined g (Some r) (Some x) e = same_in _ _ e

first_joined : (r : Option Row) (o : Option Text) → option_map first_in r ≡ option_map Some o → option_and_then first_in r ≡ o
first_joined None None e = refl
first_joined None (Some x) e = absurd (none_some _ e)
first_joined (Some r) None e = absurd (none_some _ (sym e))
first_joined (Some r) (Some x) e = same_in _ _ e

text_joined : (r : Option Row) (t : Text) → option_map row_text r ≡ Some (Some t) → option_and_then row_text r ≡ Some t
text_joined None t e = absurd (none_some _ e)
text_joined (Some r) t e = same_in _ _ e

rows_tell : (o : Options) (fs : List Text) (rows : List Row) → Reads o fs rows → Tells o fs (ended_rows rows)
rows_tell o fs rows k =
    let csv = codes "csv" in
    let serial = codes "serial" in
    let one = flag_default csv rows in
    record {
      fan_in = joined fan_in_named _ _ (default_keeps _ serial (codes "fan-in") _ one refl (default_keeps _ csv (codes "fan-in") _ rows refl k.fan_in));
      sends = joined _ _ _ (default_keeps _ serial (codes "sends") _ one refl (default_keeps _ csv (codes "sends") _ rows refl k.sends));
      rules = first_joined _ _ (default_keeps _ serial (codes "rules") _ one refl (default_keeps _ csv (codes "rules") _ rows refl k.rules));
      csv = text_joined _ _ (default_keeps _ serial csv _ one refl (default_tells csv rows o.csv k.csv));
      serial = text_joined _ _ (default_tells serial one o.serial (default_keeps _ csv serial _ rows refl k.serial));
      files = default_keeps _ serial (codes "files") _ one refl (default_keeps _ csv (codes "files") _ rows refl k.files);
    }

pub check_tells : (first : Text) (words : List Text) (c : Check) → check_words 5 no_options words ≡ Some c → Tells c.options c.files (matches_of check_app (first ∷ words))
check_tells first words c e =
    let k = check_ended words c e in
    subst (Tells c.options c.files) (sym (check_matches first words c k ∙ finished_rows k.after)) (rows_tell c.options c.files (rows_in k.after) k.ready.reads)
