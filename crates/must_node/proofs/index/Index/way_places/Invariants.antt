use Rattle.std.proofs.Common.{◌≡◌, List, take}
use Rattle.std.specs.List.{flat_map}
use Rattle.must_node.specs.declared.fact.Fact.{Fact}
use Rattle.must_node.specs.RunNeeds.{want_places}
use Rattle.must_node.specs.Indexed.{Stands}
use Rattle.must_node.proofs.index.Index.way_places.Given as goal

abbrev pub invariant-loop-want : goal.invariant-loop-want
invariant-loop-want l = (facts : List Fact) → Stands l.self facts → l.places.items ≡ flat_map (want_places l.strict facts) (take l.want-index l.way)
