use Rattle.std.proofs.Common.{drop}
use Rattle.std.specs.Prelude.{◌⊎◌, ◌↔◌}
use Rattle.must_base.specs.Listing.{Has}
use Rattle.must_find.specs.declared.finding.Finding.{Finding}
use Rattle.must_hold.specs.Needing.{AreUnmetIn}
use Rattle.must_hold.proofs.need.add_wildcards.Given as goal

-- what is added, with what the other needs give, is what all give
abbrev pub invariant-loop-need : goal.invariant-loop-need
invariant-loop-need l = (f : Finding) → (Has l.rows f ⊎ AreUnmetIn l.rank (drop l.need-index l.needs) f) ↔ (Has l.fn.rows f ⊎ AreUnmetIn l.rank l.needs f)
