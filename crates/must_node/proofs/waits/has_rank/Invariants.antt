use Rattle.std.proofs.Common.{drop}
use Rattle.std.specs.Prelude.{◌↔◌}
use Rattle.must_base.specs.Listing.{Has}
use Rattle.must_node.proofs.waits.has_rank.Given as goal

abbrev pub invariant-loop-other : goal.invariant-loop-other
invariant-loop-other l = Has (drop l.other-index l.ranks) l.rank ↔ Has l.ranks l.rank
