use Rattle.std.proofs.Common.{drop}
use Rattle.std.specs.Prelude.{◌⊎◌, ◌↔◌}
use Rattle.must_base.specs.Listing.{Has}
use Rattle.must_find.specs.declared.finding.Finding.{Finding}
use Rattle.must_node.specs.Waits.{IsWaitOf}
use Rattle.must_node.proofs.waits.report_blocked.Given as goal

-- what is added, with what the other calls give, is what all give
abbrev pub invariant-loop-place : goal.invariant-loop-place
invariant-loop-place l = (f : Finding) → (Has l.out f ⊎ IsWaitOf l.rows l.blocked (drop l.place-index l.blocked) f) ↔ (Has l.fn.out f ⊎ IsWaitOf l.rows l.blocked l.blocked f)
