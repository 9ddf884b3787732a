-- The promises of a check, from what it answers by its status.
use Rattle.std.proofs.Common.{◌≡◌, ◌⊎◌, ℕ, List, length, map, Option, Some, None, refl, sym, ap, subst, ◌∙◌, inl, inr, arith}
use Rattle.std.specs.Prelude.{◌≢◌}
use Rattle.std.proofs.lemmas.Bool.{cases_order}
use Rattle.std.proofs.lemmas.List.{length-map}
use Rattle.must_call.specs.declared.call.Call.{Call}
use Rattle.must_format.specs.declared.fault.StreamFault.{StreamFault}
use Rattle.must_format.specs.declared.fault.StreamFault.TheVariants as fault
use Rattle.must_rules.specs.LimitLaws.{refused_is_one, accepted_or_refused}
use Rattle.must_rules.specs.Streams.{Accepted, Records}
use Rattle.must_cli.specs.declared.status.Status.{Status}
use Rattle.must_cli.specs.declared.status.Status.TheVariants as status
use Rattle.must_base.specs.Views.{SourceView}
use Rattle.must_tree.specs.Told.{told_at}
use Rattle.must_tree.specs.ToldLaws.{told_within, told_of, stream_at}
use Rattle.must_tree.specs.Reading.{IsAccepted, IsRefused, StopsAt}
use Rattle.must_cli.specs.Outside.{Output, Outside}
use Rattle.must_cli.specs.Statuses.{IsSuccess, IsRefusal, is_found, status_for}
use Rattle.std.specs.Prelude.{IsTrue, is_some}
use Rattle.std.proofs.lemmas.Bool.{false≢true}
use Rattle.toml.specs.Data.{Members}
use Rattle.must_settings.specs.declared.settings.Settings.{Settings}
use Rattle.must_settings.specs.RulesFile.{rules_file}
use Rattle.must_words.specs.Command.{Check}
use Rattle.must_cli.specs.Settled.{RulesFile, HasRules, Terms, Settled, AreSettings, RefusedSettings, FailedRules, IsRefusedRules, AreKnown, terms_of}
use Rattle.must_cli.specs.CheckPromises.{CheckAnswers, RulesAnswers, Answers, WantOfMemory, Completeness, CheckPromises, IsKnownAccepted, IsKnownRefused, WholeReport, RefusedStream, OutsideFault, RefusesLowest, ReportsComplete}

not_both : (told : List (Option (List ℕ))) (rank : ℕ) (f : StreamFault) → IsAccepted told rank → IsKnownRefused told rank f → ⊥
not_both told rank f accepted refused =
    let a = accepted refused.0 refused.1 in
    accepted_or_refused rank (length told) refused.0 a.0 f a.1 refused.2

-- ---- a refusal

is_refusal : (told : List (Option (List ℕ))) (parts : List SourceView) (rank : ℕ) (f : StreamFault) → IsRefusal (status_for f) → StopsAt told parts rank f → IsRefused told rank f
is_refusal told parts rank (fault.Malformed at c) is stops = stops
is_refusal told parts rank (fault.Bound at l) is stops = stops
is_refusal told parts rank fault.Read is stops = absurd is
is_refusal told parts rank fault.NoMemory is stops = absurd is

refused_there : (o : Outside) (err : Output) (s : Status) → IsRefusal s → (a : RefusedStream o err s) → IsRefused o.told a.rank a.fault
refused_there o err s is a = is_refusal o.told o.parts a.rank a.fault (subst (λ (t : Status). IsRefusal t) a.answer_is is) a.stops.stops

lowest_refused : (o : Outside) (err : Output) (s : Status) → IsRefusal s → RefusedStream o err s → RefusesLowest o s
lowest_refused o err s is a = λ rank f lower refused above.
    let there = refused_there o err s is a in
    elim (cases_order a.rank rank) [
      | inl same ↦
          let here = subst (λ (r : ℕ). IsRefused o.told r a.fault) same there in
          inl (a.answer_is ∙ ap status_for (refused_is_one rank (length o.told) refused.0 a.fault f (here refused.0 refused.1) refused.2))
      | inr (inl less) ↦
          let known = lower a.rank less in
          absurd (not_both o.told a.rank a.fault (λ bytes e. known_at o.told a.rank bytes known e) (known.0, known.1, there known.0 known.1))
      | inr (inr more) ↦ absurd (not_both o.told rank f (a.stops.lower rank more) refused)
    ]
  where
    some_bytes : (b c : List ℕ) → Some b ≡ Some c → b ≡ c
    some_bytes b c e = cc

    known_at : (told : List (Option (List ℕ))) (rank : ℕ) (bytes : List ℕ) → IsKnownAccepted told rank → told_at told rank ≡ Some bytes → (calls : List Call) × Accepted rank (length told) bytes calls
    known_at told rank bytes known e =
        let same = some_bytes known.0 bytes (sym known.1 ∙ e) in
        (known.2.0, subst (λ (b : List ℕ). Accepted rank (length told) b known.2.0) same known.2.1)

no_refusal : (o : Outside) (err : Output) (s : Status) → IsRefusal s → RefusedStream o err s → (streams : List (List ℕ)) (run : Rattle.must_rules.specs.Run.Run) → o.told ≡ map Some streams → Records streams run → ⊥
no_refusal o err s is a streams run told records =
    let n : length o.told ≡ length streams = ap length told ∙ length-map streams Some in
    let within = a.stops.within in
    let here = stream_at streams a.rank (omega (arith, n, within)) in
    let known : told_at o.told a.rank ≡ Some here.0 = ap (λ (os : List (Option (List ℕ))). told_at os a.rank) told ∙ told_of streams a.rank here.0 here.1 in
    let r = records.each a.rank here.0 here.1 in
    accepted_or_refused a.rank (length o.told) here.0 r.calls a.fault (subst (λ (m : ℕ). Accepted a.rank m here.0 r.calls) (sym n) r.accepted) (refused_there o err s is a here.0 known)

-- ---- by the status

whole_from : (terms : Terms) (o : Outside) (err : Output) (s : Status) → CheckAnswers terms o err s → IsSuccess s → WholeReport terms o err (is_found s)
whole_from terms o err status.Clean a is = a
whole_from terms o err status.Found a is = a
whole_from terms o err status.Usage a is = absurd is
whole_from terms o err status.Malformed a is = absurd is
whole_from terms o err status.Outside a is = absurd is
whole_from terms o err status.Bound a is = absurd is
whole_from terms o err status.NoMemory a is = absurd is
whole_from terms o err status.Settings a is = absurd is

refused_from : (terms : Terms) (o : Outside) (err : Output) (s : Status) → CheckAnswers terms o err s → IsRefusal s → RefusedStream o err s
refused_from terms o err status.Clean a is = absurd is
refused_from terms o err status.Found a is = absurd is
refused_from terms o err status.Usage a is = absurd is
refused_from terms o err status.Malformed a is = a
refused_from terms o err status.Outside a is = absurd is
refused_from terms o err status.Bound a is = a
refused_from terms o err status.NoMemory a is = absurd is
refused_from terms o err status.Settings a is = absurd is

reported : (terms : Terms) (o : Outside) (err : Output) (found : Rattle.std.specs.Prelude.Bool) (s : Status) → WholeReport terms o err found → RefusesLowest o s
reported terms o err found s a = λ rank f lower refused above.
    absurd (not_both o.told rank f (a.reads.accepted rank (told_within o.told rank refused.0 refused.1)) refused)

refuses_from : (terms : Terms) (o : Outside) (err : Output) (s : Status) → CheckAnswers terms o err s → RefusesLowest o s
refuses_from terms o err status.Clean a = reported terms o err _ status.Clean a
refuses_from terms o err status.Found a = reported terms o err _ status.Found a
refuses_from terms o err status.Usage a = absurd a
refuses_from terms o err status.Malformed a = lowest_refused o err status.Malformed tt a
refuses_from terms o err status.Outside (inl a) = λ rank f lower refused above.
    let part = a.stops.stops in
    absurd (not_both o.told rank f (a.stops.lower rank (above a.rank part.0 part.1 part.2)) refused)
refuses_from terms o err status.Outside (inr a) = λ rank f lower refused above.
    absurd (not_both o.told rank f (a.reads.accepted rank (told_within o.told rank refused.0 refused.1)) refused)
refuses_from terms o err status.Bound a = lowest_refused o err status.Bound tt a
refuses_from terms o err status.NoMemory a = λ rank f lower refused above. inr refl
refuses_from terms o err status.Settings a = absurd a

reports_from : (terms : Terms) (o : Outside) (err : Output) (s : Status) → CheckAnswers terms o err s → ReportsComplete o s
reports_from terms o err status.Clean a = λ streams run told records none no. inl tt
reports_from terms o err status.Found a = λ streams run told records none no. inl tt
reports_from terms o err status.Usage a = absurd a
reports_from terms o err status.Malformed a = λ streams run told records none no. absurd (no_refusal o err status.Malformed tt a streams run told records)
reports_from terms o err status.Outside (inl a) = λ streams run told records none no. let part = a.stops.stops in absurd (none a.rank part.0 part.1 part.2)
reports_from terms o err status.Outside (inr a) = λ streams run told records none no. absurd (no a.cuts.rose)
reports_from terms o err status.Bound a = λ streams run told records none no. absurd (no_refusal o err status.Bound tt a streams run told records)
reports_from terms o err status.NoMemory a = λ streams run told records none no. inr refl
reports_from terms o err status.Settings a = absurd a

-- ---- the rules file

none_is : {A : Type 0} (a : A) → None ≡ Some a → ⊥
none_is a e = cc

no_success : (file : Option RulesFile) (o : Outside) (err : Output) (s : Status) → RulesAnswers file o err s → IsSuccess s → ⊥
no_success file o err status.Clean a is = a
no_success file o err status.Found a is = a
no_success file o err status.Usage a is = is
no_success file o err status.Malformed a is = is
no_success file o err status.Outside a is = is
no_success file o err status.Bound a is = is
no_success file o err status.NoMemory a is = is
no_success file o err status.Settings a is = is

no_stream : (file : Option RulesFile) (o : Outside) (err : Output) (s : Status) → RulesAnswers file o err s → IsRefusal s → ⊥
no_stream file o err status.Clean a is = is
no_stream file o err status.Found a is = is
no_stream file o err status.Usage a is = is
no_stream file o err status.Malformed a is = a
no_stream file o err status.Outside a is = is
no_stream file o err status.Bound a is = a
no_stream file o err status.NoMemory a is = is
no_stream file o err status.Settings a is = is

-- a rules file that has settings isn't refused
not_refused : (f : RulesFile) (s : Settings) → AreSettings (Some f) s → IsRefusedRules f → ⊥
not_refused f s are r = none_is _ (sym r.2 ∙ (are r.0 r.1).0.accepted)

rules_refused : (f : RulesFile) (o : Outside) (err : Output) (s : Status) → RulesAnswers (Some f) o err s → IsRefusedRules f → (s ≡ status.Settings) ⊎ (s ≡ status.NoMemory)
rules_refused f o err status.Clean a r = absurd a
rules_refused f o err status.Found a r = absurd a
rules_refused f o err status.Usage a r = absurd a
rules_refused f o err status.Malformed a r = absurd a
rules_refused f o err status.Outside a r = absurd (r.3 a.failed)
rules_refused f o err status.Bound a r = absurd a
rules_refused f o err status.NoMemory a r = inr refl
rules_refused f o err status.Settings a r = inl refl

no_answer : (o : Outside) → Completeness o status.NoMemory
no_answer o = record { refuses = λ rank f lower refused above. inr refl; reports = λ streams run told records none no. inr refl }

is_none : (o : Option Members) → o ≡ None → IsTrue (is_some o) → ⊥
is_none None e is = false≢true is
is_none (Some ms) e is = none_is ms (sym e)

rules_complete : (file : Option RulesFile) (o : Outside) (err : Output) (s : Status) → RulesAnswers file o err s → AreKnown file → Completeness o s
rules_complete None o err status.Outside a known = absurd a
rules_complete None o err status.Settings a known = absurd a
rules_complete (Some f) o err status.Outside a known = absurd (known.3 a.failed)
rules_complete (Some f) o err status.Settings a known = absurd (is_none (rules_file known.0) (a.refused known.0 known.1) known.2)
rules_complete file o err status.Clean a known = absurd a
rules_complete file o err status.Found a known = absurd a
rules_complete file o err status.Usage a known = absurd a
rules_complete file o err status.Malformed a known = absurd a
rules_complete file o err status.Bound a known = absurd a
rules_complete file o err status.NoMemory a known = no_answer o

-- ---- a check with its settings

whole_settled : (check : Check) (file : Option RulesFile) (o : Outside) (err : Output) (s : Status) → Answers check file o err s → IsSuccess s → Settled check file (λ terms. WholeReport terms o err (is_found s))
whole_settled check file o err s (inl a) is = absurd (no_success file o err s a is)
whole_settled check file o err s (inr a) is = (a.0, a.1, whole_from (terms_of check a.0) o err s a.2 is)

refused_settled : (check : Check) (file : Option RulesFile) (o : Outside) (err : Output) (s : Status) → Answers check file o err s → IsRefusal s → Settled check file (λ terms. RefusedStream o err s)
refused_settled check file o err s (inl a) is = absurd (no_stream file o err s a is)
refused_settled check file o err s (inr a) is = (a.0, a.1, refused_from (terms_of check a.0) o err s a.2 is)

outside_settled : (check : Check) (file : Option RulesFile) (o : Outside) (err : Output) → Answers check file o err status.Outside → HasRules file (FailedRules o.out err) ⊎ Settled check file (λ terms. OutsideFault terms o err)
outside_settled check file o err (inl a) = inl a
outside_settled check file o err (inr a) = inr (a.0, a.1, a.2)

settings_refused : (check : Check) (file : Option RulesFile) (o : Outside) (err : Output) → Answers check file o err status.Settings → HasRules file (RefusedSettings o.out err)
settings_refused check file o err (inl a) = a
settings_refused check file o err (inr a) = absurd a.2

refuses_rules : (check : Check) (file : Option RulesFile) (o : Outside) (err : Output) (s : Status) → Answers check file o err s → HasRules file IsRefusedRules → (s ≡ status.Settings) ⊎ (s ≡ status.NoMemory)
refuses_rules check None o err s a r = absurd r
refuses_rules check (Some f) o err s (inl a) r = rules_refused f o err s a r
refuses_rules check (Some f) o err s (inr a) r = absurd (not_refused f a.0 a.1 r)

complete_from : (check : Check) (file : Option RulesFile) (o : Outside) (err : Output) (s : Status) → Answers check file o err s → AreKnown file → Completeness o s
complete_from check file o err s (inl a) known = rules_complete file o err s a known
complete_from check file o err s (inr a) known = let terms = terms_of check a.0 in record { refuses = refuses_from terms o err s a.2; reports = reports_from terms o err s a.2 }

pub check_promises : (check : Check) (file : Option RulesFile) (o : Outside) (err : Output) (s : Status) → Answers check file o err s → CheckPromises check file o err s
check_promises check file o err s a = record {
  whole_report = whole_settled check file o err s a;
  refused_stream = refused_settled check file o err s a;
  outside_fault = λ e. outside_settled check file o err (subst (λ (t : Status). Answers check file o err t) e a);
  refused_settings = λ e. settings_refused check file o err (subst (λ (t : Status). Answers check file o err t) e a);
  refuses_rules = refuses_rules check file o err s a;
  completeness = complete_from check file o err s a;
}

pub check_memory : (check : Check) (file : Option RulesFile) (o : Outside) (err : Output) → Answers check file o err status.NoMemory → WantOfMemory o.out err
check_memory check file o err (inl a) = a
check_memory check file o err (inr a) = a.2

pub check_usage : (check : Check) (file : Option RulesFile) (o : Outside) (err : Output) → Answers check file o err status.Usage → ⊥
check_usage check file o err (inl a) = a
check_usage check file o err (inr a) = a.2
