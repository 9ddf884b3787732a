use Rattle.std.proofs.Common.{drop, length, Some}
use Rattle.std.specs.Prelude.{◌⊎◌, ◌↔◌}
use Rattle.must_find.specs.declared.finding.Finding.{Finding}
use Rattle.must_base.specs.Listing.{Has}
use Rattle.must_coll.specs.Agreement.{root_row}
use Rattle.must_coll.specs.Given.{GivenBy}
use Rattle.must_coll.proofs.agreement.report_roots.Given as goal

-- what is added, with what the other calls give, is what all give
abbrev pub invariant-loop-call : goal.invariant-loop-call
invariant-loop-call l = (f : Finding) → (Has l.out f ⊎ GivenBy (root_row (length l.calls) (Some l.first)) (drop l.call-index l.calls) f) ↔ (Has l.fn.out f ⊎ GivenBy (root_row (length l.calls) (Some l.first)) l.calls f)
