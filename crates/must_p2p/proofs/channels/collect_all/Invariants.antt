use Rattle.std.proofs.Common.{length}
use Rattle.std.specs.Prelude.{◌⊎◌, ◌↔◌}
use Rattle.must_base.specs.Listing.{Has}
use Rattle.must_find.specs.declared.finding.Finding.{Finding}
use Rattle.must_p2p.specs.Standing.{IsLeftIn}
use Rattle.must_p2p.proofs.channels.collect_all.Given as goal

abbrev pub decreases-loop-queue : goal.decreases-loop-queue
decreases-loop-queue l = length l.rest.entries

-- what is added, with what the rest gives, is what all give
abbrev pub invariant-loop-queue : goal.invariant-loop-queue
invariant-loop-queue l = (f : Finding) → (Has l.rows.items f ⊎ IsLeftIn l.rest.entries f) ↔ (Has l.fn.rows.items f ⊎ IsLeftIn l.fn.queues.entries f)
