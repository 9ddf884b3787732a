-- The findings of the ranks of a run.
use Rattle.std.proofs.Common.{◌≡◌, ℕ, ◌<◌, ◌≤◌, List, length, Option, None, Some, sym, ap, ◌∙◌, inl, inr, arith}
use Rattle.std.specs.Prelude.{◌↔◌}
use Rattle.std.proofs.lemmas.Bool.{cases_order}
use Rattle.std.proofs.lemmas.Option.{slice_get_past}
use Rattle.must_base.specs.Listing.{Has}
use Rattle.must_find.specs.declared.finding.Finding.{Finding}
use Rattle.must_rules.specs.Answer.{Answer}
use Rattle.must_rules.specs.Run.{Run, Mode, Recorded, size_of}
use Rattle.must_rules.specs.RunRows.{finding_in, IsFinding, HasRanksBelow}

no_answer : (a : Answer) {P : Type 0} → None ≡ Some a → P
no_answer a e = absurd cc

-- behind the last rank there is none
within : (run : Run) (mode : Mode) (rank : ℕ) (f : Finding) → length run.ranks ≤ rank → IsFinding run mode f → f.rank < rank
within run mode rank f far is = elim (cases_order f.rank rank) [
  | inl same ↦ no_answer (f.see, f.value) (ap (λ (o : Option Recorded). finding_in (size_of run) f.rank o f.call f.rule f.part) (sym (slice_get_past run.ranks f.rank (omega (arith, same, far)))) ∙ is)
  | inr (inl less) ↦ less
  | inr (inr more) ↦ no_answer (f.see, f.value) (ap (λ (o : Option Recorded). finding_in (size_of run) f.rank o f.call f.rule f.part) (sym (slice_get_past run.ranks f.rank (omega (arith, more, far)))) ∙ is)
]

-- the findings of all ranks
pub all_findings : (run : Run) (mode : Mode) (rank : ℕ) (fs : List Finding) (f : Finding) → length run.ranks ≤ rank → HasRanksBelow run mode rank fs → Has fs f ↔ IsFinding run mode f
all_findings run mode rank fs f far below = (
  λ h. ((below.exact f).0 h).1,
  λ is. (below.exact f).1 (within run mode rank f far is, is),
)
