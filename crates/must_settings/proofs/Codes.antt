-- A rule is determined by its code.
use Rattle.std.proofs.Common.{◌≡◌, ◌≢◌, ℕ, Bool, true, false, List, [], ◌∷◌, Option, Some, None, refl, sym, subst, ◌∙◌, inl, inr}
use Rattle.std.proofs.lemmas.Bool.{cases_Bool, false≢true}
use Rattle.std.specs.Prelude.{find}
use Rattle.std.specs.Str.{bytes_eq}
use lib.Pointwise.{bytes_decides}
use Rattle.must_find.specs.declared.rule.Rule.{Rule}
use Rattle.must_find.specs.declared.rule.Rule.TheVariants.{I1, I2, I3, A1, A2, A3, A4, A5, A6, A7, H1, H2, H3, H4, H5, T1, T2, T3, S1, M1, M2, M3, M4, N1, C1, C2, C3, C4, C5, C6, C7, C8, W1, W2, L1, L2, L3, L4, L5, X1}
use Rattle.must_find.specs.declared.severity.Severity.{Severity}
use Rattle.must_find.specs.Rules.{all_rules, code_of, usual_severity, usual_severities}
use Rattle.must_find.specs.RuleSet.{severity_in}
use Rattle.toml.specs.Data.{Data}
use Rattle.must_settings.specs.RulesFile.{severity_named, given}

-- the rule with a code, whether a rules file may name it or not
abbrev pub with_code : List ℕ → Option Rule
with_code code = find (λ rule. bytes_eq (code_of rule) code) all_rules

code_again : (r : Rule) → with_code (code_of r) ≡ Some r
code_again I1 = refl
code_again I2 = refl
code_again I3 = refl
code_again A1 = refl
code_again A2 = refl
code_again A3 = refl
code_again A4 = refl
code_again A5 = refl
code_again A6 = refl
code_again A7 = refl
code_again H1 = refl
code_again H2 = refl
code_again H3 = refl
code_again H4 = refl
code_again H5 = refl
code_again T1 = refl
code_again T2 = refl
code_again T3 = refl
code_again S1 = refl
code_again M1 = refl
code_again M2 = refl
code_again M3 = refl
code_again M4 = refl
code_again N1 = refl
code_again C1 = refl
code_again C2 = refl
code_again C3 = refl
code_again C4 = refl
code_again C5 = refl
code_again C6 = refl
code_again C7 = refl
code_again C8 = refl
code_again W1 = refl
code_again W2 = refl
code_again L1 = refl
code_again L2 = refl
code_again L3 = refl
code_again L4 = refl
code_again L5 = refl
code_again X1 = refl

pub code_found : (r : Rule) (code : List ℕ) → bytes_eq (code_of r) code ≡ true → with_code code ≡ Some r
code_found r code e = subst (λ (c : List ℕ). with_code c ≡ Some r) ((bytes_decides (code_of r) code).0 e) (code_again r)

found_passes : {X : Type 0} (p : X → Bool) (xs : List X) (x : X) → find p xs ≡ Some x → p x ≡ true
found_passes p [] x e = absurd cc
found_passes p (y ∷ xs) x e = elim (cases_Bool (p y)) [
  | inl passes ↦ let same : y ≡ x = some_same y x (sym (here passes) ∙ e) in subst (λ z. p z ≡ true) same passes
  | inr fails ↦ found_passes p xs x (sym (behind fails) ∙ e)
]
  where
    some_same : {X : Type 0} (a b : X) → Some a ≡ Some b → a ≡ b
    some_same a b e = cc

    here : p y ≡ true → find p (y ∷ xs) ≡ Some y
    here passes = rw passes refl

    behind : p y ≡ false → find p (y ∷ xs) ≡ find p xs
    behind fails = rw fails refl

some_rule : (r s : Rule) → Some r ≡ Some s → r ≡ s
some_rule r s e = cc

none_rule : (r : Rule) → None ≡ Some r → ⊥
none_rule r e = cc

-- no rule has the code
pub none_given : (r : Rule) (old : Severity) (code : List ℕ) (d : Data) → with_code code ≡ None → old ≡ given r old code d
none_given r old code d none = elim (cases_Bool (bytes_eq (code_of r) code)) [
  | inl named_so ↦ absurd (none_rule r (sym none ∙ code_found r code named_so))
  | inr other ↦ rw other refl
]

-- no severity has the name
pub nothing_given : (r : Rule) (old : Severity) (code : List ℕ) (d : Data) → severity_named d ≡ None → old ≡ given r old code d
nothing_given r old code d none = elim (cases_Bool (bytes_eq (code_of r) code)) [
  | inl named_so ↦ rw (named_so, none) refl
  | inr other ↦ rw other refl
]

-- the rule with the code was given the severity with the name, and no other rule was
pub rule_given : (old new : List Severity) (rule r : Rule) (severity : Severity) (code : List ℕ) (d : Data) → with_code code ≡ Some rule → severity_named d ≡ Some severity
    → severity_in new rule ≡ severity → ((other : Rule) → other ≢ rule → severity_in new other ≡ severity_in old other)
    → severity_in new r ≡ given r (severity_in old r) code d
rule_given old new rule r severity code d is named this others = elim (cases_Bool (bytes_eq (code_of r) code)) [
  | inl named_so ↦ let same : rule ≡ r = some_rule rule r (sym is ∙ code_found r code named_so) in
      rw (named_so, named) (subst (λ (s : Rule). severity_in new s ≡ severity) same this)
  | inr other ↦ let apart : r ≢ rule = λ e. false≢true (sym other ∙ subst (λ (s : Rule). bytes_eq (code_of s) code ≡ true) (sym e) (found_passes (λ s. bytes_eq (code_of s) code) all_rules rule is)) in
      rw other (others r apart)
]

pub usual_in : (r : Rule) → severity_in usual_severities r ≡ usual_severity r
usual_in I1 = refl
usual_in I2 = refl
usual_in I3 = refl
usual_in A1 = refl
usual_in A2 = refl
usual_in A3 = refl
usual_in A4 = refl
usual_in A5 = refl
usual_in A6 = refl
usual_in A7 = refl
usual_in H1 = refl
usual_in H2 = refl
usual_in H3 = refl
usual_in H4 = refl
usual_in H5 = refl
usual_in T1 = refl
usual_in T2 = refl
usual_in T3 = refl
usual_in S1 = refl
usual_in M1 = refl
usual_in M2 = refl
usual_in M3 = refl
usual_in M4 = refl
usual_in N1 = refl
usual_in C1 = refl
usual_in C2 = refl
usual_in C3 = refl
usual_in C4 = refl
usual_in C5 = refl
usual_in C6 = refl
usual_in C7 = refl
usual_in C8 = refl
usual_in W1 = refl
usual_in W2 = refl
usual_in L1 = refl
usual_in L2 = refl
usual_in L3 = refl
usual_in L4 = refl
usual_in L5 = refl
usual_in X1 = refl
