use Rattle.std.proofs.Common.{length}
use Rattle.std.specs.Prelude.{◌⊎◌, ◌↔◌}
use Rattle.must_base.specs.Listing.{Has}
use Rattle.must_find.specs.declared.finding.Finding.{Finding}
use Rattle.must_p2p.specs.Queues.{IsLeft}
use Rattle.must_p2p.proofs.queue.collect_left.Given as goal

abbrev pub decreases-loop-item : goal.decreases-loop-item
decreases-loop-item l = length l.rest.items

-- what is added, with what the rest gives, is what all give
abbrev pub invariant-loop-item : goal.invariant-loop-item
invariant-loop-item l = (f : Finding) → (Has l.rows.items f ⊎ IsLeft l.fn.side l.rest.items f) ↔ (Has l.fn.rows.items f ⊎ IsLeft l.fn.side l.fn.waiting.items f)
