use Rattle.std.proofs.Common.{length}
use Rattle.std.specs.Prelude.{◌⊎◌, ◌↔◌}
use Rattle.must_find.specs.declared.finding.Finding.{Finding}
use Rattle.must_base.specs.Listing.{Has}
use Rattle.must_coll.specs.Progressing.{IsOpenIn}
use Rattle.must_coll.proofs.waves.report_open.Given as goal

abbrev pub decreases-loop-progress : goal.decreases-loop-progress
decreases-loop-progress l = length l.rest.entries

-- what is added, with what the rest gives, is what all give
abbrev pub invariant-loop-progress : goal.invariant-loop-progress
invariant-loop-progress l = (f : Finding) → (Has l.out f ⊎ IsOpenIn l.rest.entries f) ↔ (Has l.fn.out f ⊎ IsOpenIn l.fn.waiting.entries f)
