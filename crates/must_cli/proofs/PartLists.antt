-- The parts of a check, those of its streams and behind them that of its rules file, as one list.
use Rattle.std.proofs.Common.{◌≡◌, ℕ, zero, suc, List, [], ◌∷◌, ◌++◌, length, take, drop, map, Option, Some, None, Result, Ok, Err, refl, sym, ap, ap₂, subst, ◌∙◌, inr}
use Rattle.std.specs.Prelude.{slice_get, IfOk}
use Rattle.std.proofs.lemmas.List.{length-map}
use Rattle.must_base.specs.Causes.{Rose}
use Rattle.must_base.specs.Views.{SourceView}
use Rattle.must_find.specs.declared.finding.Finding.{Finding}
use Rattle.must_find.specs.declared.severity.Severity.{Severity}
use Rattle.must_tree.specs.Told.{told_at, HasFailed, AreTied, IsLeftOf}
use Rattle.must_rules.specs.Run.{Mode}
use Rattle.must_plan.specs.declared.plan.Sends.{Sends}
use Rattle.must_tree.specs.Reading.{ReadsRun, Stops, Analyses, mode_of}
use Rattle.must_tree.specs.declared.fault.RunFault.{RunFault}
use Rattle.must_tree.specs.declared.fault.RunFault.TheVariants as run_fault
use Rattle.must_settings.specs.declared.settings.Settings.{Settings}
use Rattle.must_settings.specs.declared.fault.RulesFault.{RulesFault}
use Rattle.must_settings.specs.declared.fault.RulesFault.TheVariants as rules_fault
use Rattle.must_settings.specs.RulesFile.{rules_file, Sets}
use Rattle.must_words.specs.Command.{Check}
use Rattle.must_cli.specs.declared.status.Status.TheVariants as status
use Rattle.must_cli.specs.declared.parts.Analysed.{Analysed}
use Rattle.must_cli.specs.declared.parts.CheckFault.TheVariants as fault
use Rattle.must_cli.specs.Outside.{Output, outside, Puts}
use Rattle.must_cli.specs.Lines.{write_line}
use Rattle.must_cli.specs.Writing.{Cuts}
use Rattle.must_cli.specs.Settled.{RulesFile, rules_read, rules_of, rules_names, rules_met, names_of, AreSettings, AreTiedRules, sends_by}
use Rattle.must_cli.specs.Parts.{ReadsRules, ReadsCheck, TiedCheck, rules_at}
use Rattle.must_cli.specs.CheckPromises.{Answers}

-- ---- lists

take_map : {S X : Type 0} (f : S → X) (n : ℕ) (xs : List S) → take n (map f xs) ≡ map f (take n xs)
take_map f zero xs = refl
take_map f (suc n) [] = refl
take_map f (suc n) (x ∷ xs) = ap (λ t. f x ∷ t) (take_map f n xs)

drop_map : {S X : Type 0} (f : S → X) (n : ℕ) (xs : List S) → drop n (map f xs) ≡ map f (drop n xs)
drop_map f zero xs = refl
drop_map f (suc n) [] = refl
drop_map f (suc n) (x ∷ xs) = drop_map f n xs

front_map : {S X : Type 0} (f : S → X) (xs ys : List S) → take (length xs) (map f (xs ++ ys)) ≡ map f xs
front_map f [] ys = refl
front_map f (x ∷ xs) ys = ap (λ t. f x ∷ t) (front_map f xs ys)

behind_map : {S X : Type 0} (f : S → X) (xs ys : List S) → drop (length xs) (map f (xs ++ ys)) ≡ map f ys
behind_map f [] ys = refl
behind_map f (x ∷ xs) ys = behind_map f xs ys

-- ---- the names of a check

abbrev Told : Type 0
Told = List ℕ → Option (List ℕ)

pub files_told : (told : Told) (check : Check) → take (length check.files) (map told (names_of check)) ≡ map told check.files
files_told told check = front_map told check.files (rules_names check.options.rules)

pub rules_told : (told : Told) (check : Check) (parts : List SourceView) → rules_at (map told (names_of check)) parts (length check.files) ≡ rules_met told parts check
rules_told told check parts =
    ap (λ (t : List (Option (List ℕ))). rules_of t (drop (length check.files) parts)) (behind_map told check.files (rules_names check.options.rules))

-- ---- the rules file

failed_now : (old new : ℕ) (v : SourceView) → old ≡ 0 → v.faults ≡ new → Rose old new → HasFailed v
failed_now old new v none same rose = subst (λ (n : ℕ). Rose 0 n) (sym same) (subst (λ (m : ℕ). Rose m new) none rose)

pub reads_rules : (told left : Option (List ℕ)) (old new : ℕ) (v : SourceView) (r : Result Settings RulesFault) → v ≡ record { left = left; faults = new } → old ≡ 0
    → IfOk r (λ s. (bytes : List ℕ) → told ≡ Some bytes → Sets bytes s × (left ≡ Some []))
    → (r ≡ Err rules_fault.Refused → (bytes : List ℕ) → told ≡ Some bytes → rules_file bytes ≡ None)
    → (r ≡ Err rules_fault.Read → Rose old new) → ReadsRules (Some (rules_read told v)) r
reads_rules told left old new v (Ok s) is none ok refused read = λ bytes e. ((ok bytes e).0, ap (λ (w : SourceView). w.left) is ∙ (ok bytes e).1)
reads_rules told left old new v (Err rules_fault.Refused) is none ok refused read = refused refl
reads_rules told left old new v (Err rules_fault.Read) is none ok refused read = failed_now old new v none (ap (λ (w : SourceView). w.faults) is) (read refl)
reads_rules told left old new v (Err rules_fault.NoMemory) is none ok refused read = tt

pub rules_at_is : {S : Type 0} (left : S → Option (List ℕ)) (shows : S → SourceView) (n : ℕ) (old mid new : List S) → drop n new ≡ drop n mid
    → rules_of (map left (drop n old)) (map shows (drop n mid)) ≡ rules_at (map left old) (map shows new) n
rules_at_is left shows n old mid new behind = ap₂ rules_of (sym (drop_map left n old)) (ap (map shows) (sym behind) ∙ sym (drop_map shows n new))

-- ---- parts that are those of their files

none_told : (bytes : List ℕ) → None ≡ Some bytes → ⊥
none_told bytes e = cc

tied_each : {S : Type 0} (left : S → Option (List ℕ)) (shows : S → SourceView) → ((s : S) → (shows s).left ≡ left s) → (xs : List S) (k : ℕ) (bytes : List ℕ) → told_at (map left xs) k ≡ Some bytes
    → (part : SourceView) × (slice_get (map shows xs) k ≡ Some part) × IsLeftOf bytes part.left
tied_each left shows is [] k bytes e = absurd (none_told bytes e)
tied_each left shows is (x ∷ xs) zero bytes e = (shows x, refl, ([], bytes, is x ∙ e, refl))
tied_each left shows is (x ∷ xs) (suc k) bytes e = tied_each left shows is xs k bytes e

tied_unread : {S : Type 0} (left : S → Option (List ℕ)) (shows : S → SourceView) → ((s : S) → (shows s).left ≡ left s) → (xs : List S) → AreTied (map left xs) (map shows xs)
tied_unread left shows is xs = record { count = length-map xs shows ∙ sym (length-map xs left); each = tied_each left shows is xs }

moved : (a b : List (Option (List ℕ))) (p q : List SourceView) → a ≡ b → p ≡ q → AreTied a p → AreTied b q
moved a b p q e f tied = subst (λ (t : List (Option (List ℕ))). AreTied t q) e (subst (λ (ps : List SourceView). AreTied a ps) f tied)

told_front : {S : Type 0} (left : S → Option (List ℕ)) (n : ℕ) (old mid : List S) → take n mid ≡ take n old → map left (take n mid) ≡ take n (map left old)
told_front left n old mid front = ap (map left) front ∙ sym (take_map left n old)

-- no stream was read
pub tied_early : {S : Type 0} (left : S → Option (List ℕ)) (shows : S → SourceView) → ((s : S) → (shows s).left ≡ left s) → (n : ℕ) (old new : List S) → take n new ≡ take n old
    → AreTiedRules (rules_of (map left (drop n old)) (map shows (drop n new))) → TiedCheck n (map left old) (map shows new)
tied_early left shows is n old new front rules = record {
  streams = moved (map left (take n old)) (take n (map left old)) (map shows (take n old)) (take n (map shows new)) (sym (take_map left n old)) (ap (map shows) (sym front) ∙ sym (take_map shows n new))
      (tied_unread left shows is (take n old));
  rules = subst (λ (f : Option RulesFile). AreTiedRules f) (rules_at_is left shows n old new new refl) rules;
}

-- the streams were read
pub tied_late : {S : Type 0} (left : S → Option (List ℕ)) (shows : S → SourceView) (n : ℕ) (old mid new : List S) → take n mid ≡ take n old → drop n new ≡ drop n mid
    → AreTied (map left (take n mid)) (map shows (take n new)) → AreTiedRules (rules_of (map left (drop n old)) (map shows (drop n mid))) → TiedCheck n (map left old) (map shows new)
tied_late left shows n old mid new front behind tied rules = record {
  streams = moved (map left (take n mid)) (take n (map left old)) (map shows (take n new)) (take n (map shows new)) (told_front left n old mid front) (sym (take_map shows n new)) tied;
  rules = subst (λ (f : Option RulesFile). AreTiedRules f) (rules_at_is left shows n old mid new behind) rules;
}

-- ---- what was read

pub reads_refused : {S : Type 0} (left : S → Option (List ℕ)) (shows : S → SourceView) (n : ℕ) (old new : List S) (f : RulesFault)
    → ReadsRules (rules_of (map left (drop n old)) (map shows (drop n new))) (Err f) → ReadsRules (rules_at (map left old) (map shows new) n) (Err f)
reads_refused left shows n old new f reads = subst (λ (file : Option RulesFile). ReadsRules file (Err f)) (rules_at_is left shows n old new new refl) reads

pub reads_run : {S : Type 0} (left : S → Option (List ℕ)) (shows : S → SourceView) (n : ℕ) (old mid new : List S) (s : Settings) (words : Option Sends) (mode : Mode) (fs : List Finding) → mode ≡ mode_of (sends_by words s.sends) → take n mid ≡ take n old → drop n new ≡ drop n mid
    → AreSettings (rules_of (map left (drop n old)) (map shows (drop n mid))) s → ReadsRun mode (map left (take n mid)) (map shows (take n new)) fs
    → (x : Settings) × AreSettings (rules_at (map left old) (map shows new) n) x × (s.rules ≡ x.rules) × ReadsRun (mode_of (sends_by words x.sends)) (take n (map left old)) (take n (map shows new)) fs
reads_run left shows n old mid new s words mode fs same front behind are run = (
  s,
  subst (λ (f : Option RulesFile). AreSettings f s) (rules_at_is left shows n old mid new behind) are,
  refl,
  subst (λ (t : List (Option (List ℕ))). ReadsRun (mode_of (sends_by words s.sends)) t (take n (map shows new)) fs) (told_front left n old mid front)
      (subst (λ (ps : List SourceView). ReadsRun (mode_of (sends_by words s.sends)) (map left (take n mid)) ps fs) (sym (take_map shows n new))
      (subst (λ (m : Mode). ReadsRun m (map left (take n mid)) (map shows (take n new)) fs) same run)),
)

pub reads_stop : {S : Type 0} (left : S → Option (List ℕ)) (shows : S → SourceView) (n : ℕ) (old mid new : List S) (s : Settings) (words : Option Sends) (mode : Mode) (f : RunFault) → take n mid ≡ take n old → drop n new ≡ drop n mid
    → AreSettings (rules_of (map left (drop n old)) (map shows (drop n mid))) s → Analyses mode (map left (take n mid)) (map shows (take n new)) (Err f)
    → ReadsCheck n words (map left old) (map shows new) (Err (fault.Run f))
reads_stop left shows n old mid new s words mode (run_fault.Stream rank g) front behind are stops = (
  s,
  subst (λ (f : Option RulesFile). AreSettings f s) (rules_at_is left shows n old mid new behind) are,
  subst (λ (t : List (Option (List ℕ))). Stops t (take n (map shows new)) rank g) (told_front left n old mid front)
      (subst (λ (ps : List SourceView). Stops (map left (take n mid)) ps rank g) (sym (take_map shows n new)) stops),
)
reads_stop left shows n old mid new s words mode run_fault.NoMemory front behind are stops = tt

-- ---- a put that failed

pub write_answers : (told : Told) (check : Check) (parts : List SourceView) (out err : Output) (a : Analysed) → ReadsCheck (length check.files) check.options.sends (map told (names_of check)) parts (Ok a)
    → Cuts (record { csv = check.options.csv; rules = a.rules }) out a.findings → Puts err write_line
    → Answers check (rules_met told parts check) (outside (map told check.files) (take (length check.files) parts) out) err status.Outside
write_answers told check parts out err a r cuts line = inr (
  r.0,
  subst (λ (f : Option RulesFile). AreSettings f r.0) (rules_told told check parts) r.1,
  inr (record {
    rows = a.findings;
    reads = subst (λ (t : List (Option (List ℕ))). ReadsRun (mode_of (sends_by check.options.sends r.0.sends)) t (take (length check.files) parts) a.findings) (files_told told check) r.3;
    cuts = subst (λ (rules : List Severity). Cuts (record { csv = check.options.csv; rules = rules }) out a.findings) r.2 cuts;
    line = line;
  }),
)
