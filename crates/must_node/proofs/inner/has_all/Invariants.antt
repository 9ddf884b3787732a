use Rattle.std.proofs.Common.{◌≡◌, drop}
use Rattle.must_node.specs.Inner.{all_in}
use Rattle.must_node.proofs.inner.has_all.Given as goal

abbrev pub invariant-loop-rank : goal.invariant-loop-rank
invariant-loop-rank l = all_in l.range (drop l.rank-index l.ranks) ≡ all_in l.range l.ranks
