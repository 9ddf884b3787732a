use Rattle.std.proofs.Common.{◌≡◌, drop}
use Rattle.std.specs.Prelude.{◌⊎◌, ◌↔◌}
use Rattle.must_find.specs.declared.finding.Finding.{Finding}
use Rattle.must_base.specs.Listing.{Has}
use Rattle.must_coll.specs.Given.{GivenBy}
use Rattle.must_coll.specs.Created.{first_other, group_row}
use Rattle.must_coll.proofs.created.report_others.Given as goal

-- the answer is that of the last group; what is added, with what the other calls give, is what all give
abbrev pub invariant-loop-call : goal.invariant-loop-call
invariant-loop-call l =
    (l.other ≡ first_other l.members l.calls l.group l.group)
    × ((f : Finding) → (Has l.out f ⊎ GivenBy (group_row l.members l.calls) (drop l.call-index l.calls) f) ↔ (Has l.fn.out f ⊎ GivenBy (group_row l.members l.calls) l.calls f))
