use Rattle.std.proofs.Common.{List, map, take}
use Rattle.must_node.specs.declared.fact.Fact.{Fact}
use Rattle.must_node.specs.RunNeeds.{way_places}
use Rattle.must_node.specs.Indexed.{Stands}
use Rattle.must_node.specs.Sharing.{AreShared, Grows, AreWays}
use Rattle.must_node.proofs.sharing.Sharing.ways_of.Given as goal

abbrev pub invariant-loop-way : goal.invariant-loop-way
invariant-loop-way l = record {
  shared : (facts : List Fact) → Stands l.index facts → AreShared l.fn.self facts → AreShared l.self facts;
  ways : (facts : List Fact) → Stands l.index facts → AreShared l.fn.self facts → AreWays l.self.rows.lists l.made.items (map (way_places l.strict facts) (take l.way-index l.ways));
  grows : Grows l.fn.self l.self;
}
