use Rattle.std.proofs.Common.{drop, Some, []}
use Rattle.std.specs.Prelude.{◌⊎◌, ◌↔◌, unwrap_or}
use Rattle.must_find.specs.declared.finding.Finding.{Finding}
use Rattle.must_base.specs.Listing.{Has}
use Rattle.must_group.specs.Split.{group_at}
use Rattle.must_coll.specs.Given.{GivenFrom}
use Rattle.must_coll.specs.Made.{recorded_row}
use Rattle.must_coll.proofs.made.report_groups.Given as goal

-- what is added, with what the other calls give, is what all give
abbrev pub invariant-loop-i : goal.invariant-loop-i
invariant-loop-i l = (f : Finding) → (Has l.out f ⊎ GivenFrom (λ i x. recorded_row x x.members (Some (unwrap_or (group_at l.groups i) []))) l.i (drop l.i l.calls) f) ↔ (Has l.fn.out f ⊎ GivenFrom (λ i x. recorded_row x x.members (Some (unwrap_or (group_at l.groups i) []))) 0 l.calls f)
