-- A rule is determined by its place.
use Rattle.std.proofs.Common.{◌≡◌, Some, refl, sym, ap, ◌∙◌, Equal}
use Rattle.std.specs.Prelude.{slice_get}
use Rattle.std.specs.Ordering.{nat_cmp}
use Rattle.std.specs.FinMap.{nat_cmp-IsAntisymmetric}
use Rattle.must_find.specs.declared.rule.Rule.{Rule}
use Rattle.must_find.specs.declared.rule.Rule.TheVariants.{I1, I2, I3, A1, A2, A3, A4, A5, A6, A7, H1, H2, H3, H4, H5, T1, T2, T3, S1, M1, M2, M3, M4, N1, C1, C2, C3, C4, C5, C6, C7, C8, W1, W2, L1, L2, L3, L4, L5, X1}
use Rattle.must_find.specs.Rules.{all_rules, rule_place}

pub rule_again : (r : Rule) → slice_get all_rules (rule_place r) ≡ Some r
rule_again I1 = refl
rule_again I2 = refl
rule_again I3 = refl
rule_again A1 = refl
rule_again A2 = refl
rule_again A3 = refl
rule_again A4 = refl
rule_again A5 = refl
rule_again A6 = refl
rule_again A7 = refl
rule_again H1 = refl
rule_again H2 = refl
rule_again H3 = refl
rule_again H4 = refl
rule_again H5 = refl
rule_again T1 = refl
rule_again T2 = refl
rule_again T3 = refl
rule_again S1 = refl
rule_again M1 = refl
rule_again M2 = refl
rule_again M3 = refl
rule_again M4 = refl
rule_again N1 = refl
rule_again C1 = refl
rule_again C2 = refl
rule_again C3 = refl
rule_again C4 = refl
rule_again C5 = refl
rule_again C6 = refl
rule_again C7 = refl
rule_again C8 = refl
rule_again W1 = refl
rule_again W2 = refl
rule_again L1 = refl
rule_again L2 = refl
rule_again L3 = refl
rule_again L4 = refl
rule_again L5 = refl
rule_again X1 = refl

some_rule : (r s : Rule) → Some r ≡ Some s → r ≡ s
some_rule r s e = cc

pub rule_same : (r s : Rule) → nat_cmp (rule_place r) (rule_place s) ≡ Equal → r ≡ s
rule_same r s e =
    some_rule r s (sym (rule_again r) ∙ ap (λ n. slice_get all_rules n) (nat_cmp-IsAntisymmetric (rule_place r) (rule_place s) e) ∙ rule_again s)
