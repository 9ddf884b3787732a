use Rattle.std.proofs.Common.{length}
use Rattle.std.specs.Prelude.{◌⊎◌, ◌↔◌}
use Rattle.must_base.specs.Listing.{Has}
use Rattle.must_find.specs.declared.finding.Finding.{Finding}
use Rattle.must_p2p.proofs.channels.in_order.Given as goal

abbrev pub decreases-loop-row : goal.decreases-loop-row
decreases-loop-row l = length l.rest.items

-- what was put in, with the rest, are all rows
abbrev pub invariant-loop-row : goal.invariant-loop-row
invariant-loop-row l = (f : Finding) → (Has l.found f ⊎ Has l.rest.items f) ↔ Has l.fn.rows.items f
