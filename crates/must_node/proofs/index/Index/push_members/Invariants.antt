use Rattle.std.proofs.Common.{◌≡◌, ◌++◌, List, map, take}
use Rattle.must_node.specs.declared.fact.Fact.{Fact}
use Rattle.must_node.specs.Partners.{member_place}
use Rattle.must_node.specs.Indexed.{Stands}
use Rattle.must_node.proofs.index.Index.push_members.Given as goal

abbrev pub invariant-loop-rank : goal.invariant-loop-rank
invariant-loop-rank l = (facts : List Fact) → Stands l.self facts → l.out.items ≡ l.fn.out.items ++ map (member_place facts l.call) (take l.rank-index l.ranks)
