use Rattle.std.proofs.Common.{drop, length}
use Rattle.std.specs.Prelude.{◌⊎◌, ◌↔◌}
use Rattle.must_find.specs.declared.finding.Finding.{Finding}
use Rattle.must_base.specs.Listing.{Has}
use Rattle.must_coll.specs.Given.{GivenFrom}
use Rattle.must_coll.specs.Uniform.{either_row}
use Rattle.must_coll.proofs.uniform.report_either.Given as goal

abbrev pub invariant-loop-i : goal.invariant-loop-i
invariant-loop-i l = (f : Finding) → (Has l.out f ⊎ GivenFrom (λ i x. either_row (length l.calls) l.first l.second x) l.i (drop l.i l.calls) f) ↔ (Has l.fn.out f ⊎ GivenFrom (λ i x. either_row (length l.calls) l.first l.second x) 0 l.calls f)
