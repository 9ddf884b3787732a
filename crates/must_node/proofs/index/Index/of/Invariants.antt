use Rattle.std.proofs.Common.{take}
use Rattle.must_node.specs.Indexed.{Stands}
use Rattle.must_node.proofs.index.Index.of.Given as goal

abbrev pub invariant-loop-fact : goal.invariant-loop-fact
invariant-loop-fact l = Stands l.index (take l.fact-index l.facts)
