-- The findings of a run, rank by rank.
use Rattle.std.proofs.Common.{◌≡◌, ℕ, ◌+◌, ◌<◌, List, [], Option, Some, sym, ap, ◌∙◌, inl, inr, arith}
use Rattle.std.specs.Prelude.{slice_get}
use Rattle.std.proofs.lemmas.Bool.{cases_order}
use Rattle.must_find.specs.declared.finding.Finding.{Finding}
use Rattle.must_base.specs.Listing.{Has}
use Rattle.must_rules.specs.Run.{Run, Mode, Recorded, size_of}
use Rattle.must_rules.specs.Local.{IsLocal}
use Rattle.must_find.specs.Adds.{Adds}
use Rattle.must_rules.specs.RunRows.{rank_in, finding_in, IsFinding, HasRanksBelow}

-- a finding of a rank is one of the run
pub of_rank : (run : Run) (mode : Mode) (rank : ℕ) (recorded : Recorded) (f : Finding) → slice_get run.ranks rank ≡ Some recorded → IsLocal (rank_in (size_of run) rank recorded) recorded.calls f → IsFinding run mode f
of_rank run mode rank recorded f e is =
    ap (λ n. finding_in (size_of run) n (slice_get run.ranks n) f.call f.rule f.part) is.rank_is ∙ ap (λ (o : Option Recorded). finding_in (size_of run) rank o f.call f.rule f.part) e ∙ is.gives

pub to_rank : (run : Run) (mode : Mode) (rank : ℕ) (recorded : Recorded) (f : Finding) → slice_get run.ranks rank ≡ Some recorded → f.rank ≡ rank → IsFinding run mode f → IsLocal (rank_in (size_of run) rank recorded) recorded.calls f
to_rank run mode rank recorded f e r is = record {
  rank_is = r;
  gives = sym (ap (λ n. finding_in (size_of run) n (slice_get run.ranks n) f.call f.rule f.part) r ∙ ap (λ (o : Option Recorded). finding_in (size_of run) rank o f.call f.rule f.part) e) ∙ is;
}

pub below_first : (run : Run) (mode : Mode) → HasRanksBelow run mode 0 []
below_first run mode = record { exact = λ f. (λ h. absurd h, λ h. omega (arith, h.0)) }

-- one rank more
pub below_more : (run : Run) (mode : Mode) (rank : ℕ) (recorded : Recorded) (old new : List Finding) → slice_get run.ranks rank ≡ Some recorded → Adds old new (IsLocal (rank_in (size_of run) rank recorded) recorded.calls)
    → HasRanksBelow run mode rank old → HasRanksBelow run mode (rank + 1) new
below_more run mode rank recorded old new e adds below = record {
  exact = λ f. (
    λ h. elim ((adds f).0 h) [
      | inl there ↦ let p = (below.exact f).0 there in (omega (arith, p.0), p.1)
      | inr is ↦ (omega (arith, is.rank_is), of_rank run mode rank recorded f e is)
    ],
    λ p. elim (cases_order f.rank rank) [
      | inl same ↦ (adds f).1 (inr (to_rank run mode rank recorded f e same p.1))
      | inr (inl less) ↦ (adds f).1 (inl ((below.exact f).1 (less, p.1)))
      | inr (inr more) ↦ absurd (omega (arith, p.0))
    ],
  );
}
