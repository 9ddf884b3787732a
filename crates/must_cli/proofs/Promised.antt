-- The promises of the program, from what its commands answer.
use Rattle.std.proofs.Common.{◌≡◌, ℕ, List, [], ◌∷◌, length, take, map, Option, Some, None, is_some, inl, refl, sym, subst, true, true≢false, ◌∙◌}
use Rattle.std.specs.Prelude.{◌≢◌}
use Rattle.must_base.specs.Views.{SourceView}
use Rattle.must_tree.specs.Told.{AreTied}
use Rattle.must_cli.specs.declared.status.Status.{Status}
use Rattle.must_cli.specs.declared.status.Status.TheVariants as status
use Rattle.must_words.specs.Command.{Check, Command, Checks, Dumps, command}
use Rattle.must_cli.specs.Outside.{Output, Outside}
use Rattle.must_cli.specs.Settled.{RulesFile, AreTiedRules, names_of, rules_met}
use Rattle.must_cli.specs.Parts.{TiedCheck}
use Rattle.must_cli.proofs.PartLists.{files_told, rules_told}
use Rattle.must_cli.specs.CheckPromises.{Answers, WantOfMemory}
use Rattle.must_cli.specs.DumpPromises.{single, DumpAnswers}
use Rattle.must_cli.specs.Promises.{World, out_of, err_of, met, IsBoundCheck, RefusedWords, Checked, DumpedFile, Promises}
use Rattle.must_cli.proofs.Checked.{check_promises, check_memory, check_usage}
use Rattle.must_cli.proofs.Dumped.{dump_promises}

-- the bytes of a file by its name, where they are told
abbrev Told : Type 0
Told = List ℕ → Option (List ℕ)

-- ---- commands apart

same_check : (a b : Check) → Some (Checks a) ≡ Some (Checks b) → a ≡ b
same_check a b e = cc

same_file : (a b : List ℕ) → Some (Dumps a) ≡ Some (Dumps b) → a ≡ b
same_file a b e = cc

no_dump : (a : Check) (b : List ℕ) → Some (Checks a) ≡ Some (Dumps b) → ⊥
no_dump a b e = cc

no_command : (a : Command) → Some a ≡ None → ⊥
no_command a e = cc

-- a command isn't refused
accepted : (words : List (List ℕ)) (out err : Output) (answer : Status) (c : Command) → command words ≡ Some c → answer ≢ status.Usage → RefusedWords words out err answer
accepted words out err answer c is not = record {
  exact = (λ e. absurd (not e), λ e. absurd (no_command c (sym is ∙ e)));
  nothing = λ e. absurd (not e);
  line = λ e. absurd (not e);
}

-- ---- a check

bound_check : (told : Told) (check : Check) (after : World) → after.names ≡ names_of check → TiedCheck (length check.files) (map told (names_of check)) after.parts → IsBoundCheck told check after
bound_check told check after names tied = record {
  names = names;
  streams = subst (λ (t : List (Option (List ℕ))). AreTied t (take (length check.files) after.parts)) (files_told told check) tied.streams;
  rules = subst (λ (f : Option RulesFile). AreTiedRules f) (rules_told told check after.parts) tied.rules;
}

pub promises_of_check : (words : List (List ℕ)) (check : Check) (told : Told) (before after : World) (answer : Status)
    → command words ≡ Some (Checks check) → Answers check (rules_met told after.parts check) (met told before after check) (err_of before after) answer
    → (answer ≢ status.NoMemory → after.names ≡ names_of check)
    → (answer ≢ status.NoMemory → TiedCheck (length check.files) (map told (names_of check)) after.parts) → Promises words told before after answer
promises_of_check words check told before after answer is a names tied =
    let file : Option RulesFile = rules_met told after.parts check in
    let o : Outside = met told before after check in
    let err = err_of before after in
    let here : Checked told before after answer check = record {
      files = λ enough. bound_check told check after (names enough) (tied enough);
      answers = check_promises check file o err answer a;
    } in
    record {
      refused_words = accepted words (out_of before after) err answer (Checks check) is (λ e. check_usage check file o err (subst (λ (t : Status). Answers check file o err t) e a));
      want_of_memory = λ e. check_memory check file o err (subst (λ (t : Status). Answers check file o err t) e a);
      check = λ other e. subst (λ (c : Check). Checked told before after answer c) (same_check check other (sym is ∙ e)) here;
      dump = λ file e. absurd (no_dump check file (sym is ∙ e));
    }

-- ---- a dump

pub promises_of_dump : (words : List (List ℕ)) (file : List ℕ) (told : Told) (before after : World) (answer : Status)
    → command words ≡ Some (Dumps file)
    → (answer ≢ status.NoMemory → (part : SourceView) → after.parts ≡ part ∷ []
    → DumpAnswers (single (told file) part (out_of before after)) (err_of before after) answer)
    → (answer ≡ status.NoMemory → WantOfMemory (out_of before after) (err_of before after))
    → answer ≢ status.Usage
    → (answer ≢ status.NoMemory → after.names ≡ file ∷ [])
    → (answer ≢ status.NoMemory → AreTied (told file ∷ []) after.parts) → Promises words told before after answer
promises_of_dump words file told before after answer is a memory not names tied =
    let here : DumpedFile told before after answer file = record {
      files = λ enough. record { names = names enough; parts = tied enough };
      answers = λ enough part parts_are. dump_promises (single (told file) part (out_of before after)) (err_of before after) answer (a enough part parts_are);
    } in
    record {
      refused_words = accepted words (out_of before after) (err_of before after) answer (Dumps file) is not;
      want_of_memory = memory;
      check = λ check e. absurd (no_dump check file (sym e ∙ is));
      dump = λ other e. subst (λ (f : List ℕ). DumpedFile told before after answer f) (same_file file other (sym is ∙ e)) here;
    }

-- ---- want of memory before a command began

no_usage : status.NoMemory ≢ status.Usage
no_usage e = cc

pub promises_of_memory : (words : List (List ℕ)) (told : Told) (before after : World) → is_some (command words) ≡ true
    → WantOfMemory (out_of before after) (err_of before after) → Promises words told before after status.NoMemory
promises_of_memory words told before after some want = go (command words) refl some
  where
    go : (c : Option Command) → command words ≡ c → is_some c ≡ true → Promises words told before after status.NoMemory
    go None is e = absurd (true≢false (sym e))
    go (Some (Checks check)) is e = promises_of_check words check told before after status.NoMemory is (inl want) (λ enough. absurd (enough refl)) (λ enough. absurd (enough refl))
    go (Some (Dumps file)) is e = promises_of_dump words file told before after status.NoMemory is (λ enough. absurd (enough refl)) (λ _. want) no_usage
        (λ enough. absurd (enough refl)) (λ enough. absurd (enough refl))
