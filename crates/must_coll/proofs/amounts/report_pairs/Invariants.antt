use Rattle.std.proofs.Common.{drop, length}
use Rattle.std.specs.Prelude.{◌⊎◌, ◌↔◌}
use Rattle.must_find.specs.declared.finding.Finding.{Finding}
use Rattle.must_base.specs.Listing.{Has}
use Rattle.must_coll.specs.Given.{GivenFrom}
use Rattle.must_coll.specs.Amounts.{first_against}
use Rattle.must_coll.proofs.amounts.report_pairs.Given as goal

-- what is added, with what the other calls give, is what all give
abbrev pub invariant-loop-i : goal.invariant-loop-i
invariant-loop-i l = (f : Finding) → (Has l.out f ⊎ GivenFrom (λ i x. first_against l.exchange (length l.calls) i x 0 l.calls) l.i (drop l.i l.calls) f) ↔ (Has l.fn.out f ⊎ GivenFrom (λ i x. first_against l.exchange (length l.calls) i x 0 l.calls) 0 l.calls f)
