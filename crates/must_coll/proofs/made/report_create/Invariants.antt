use Rattle.std.proofs.Common.{drop}
use Rattle.std.specs.Prelude.{◌⊎◌, ◌↔◌}
use Rattle.must_find.specs.declared.finding.Finding.{Finding}
use Rattle.must_base.specs.Listing.{Has}
use Rattle.must_coll.specs.Given.{GivenFrom}
use Rattle.must_coll.specs.Made.{recorded_row, group_with}
use Rattle.must_coll.proofs.made.report_create.Given as goal

-- what is added, with what the other calls give, is what all give
abbrev pub invariant-loop-i : goal.invariant-loop-i
invariant-loop-i l = (f : Finding) → (Has l.out f ⊎ GivenFrom (λ i x. recorded_row x x.members (group_with x.place.rank x.group)) l.i (drop l.i l.calls) f) ↔ (Has l.fn.out f ⊎ GivenFrom (λ i x. recorded_row x x.members (group_with x.place.rank x.group)) 0 l.calls f)
