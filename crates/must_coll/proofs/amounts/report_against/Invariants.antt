use Rattle.std.proofs.Common.{drop, length, Some}
use Rattle.std.specs.Prelude.{◌⊎◌, ◌↔◌}
use Rattle.must_find.specs.declared.finding.Finding.{Finding}
use Rattle.must_base.specs.Listing.{Has}
use Rattle.must_coll.specs.Given.{GivenFrom}
use Rattle.must_coll.specs.Amounts.{against}
use Rattle.must_coll.proofs.amounts.report_against.Given as goal

-- what is added, with what the other calls give, is what all give
abbrev pub invariant-loop-i : goal.invariant-loop-i
invariant-loop-i l = (f : Finding) → (Has l.out f ⊎ GivenFrom (against l.exchange (length l.calls) l.j (Some l.y)) l.i (drop l.i l.calls) f) ↔ (Has l.fn.out f ⊎ GivenFrom (against l.exchange (length l.calls) l.j (Some l.y)) 0 l.calls f)
