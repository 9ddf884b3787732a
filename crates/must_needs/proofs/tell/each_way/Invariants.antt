use Rattle.std.proofs.Common.{◌≡◌, map, take}
use Rattle.std.specs.List.{filter_map}
use Rattle.must_hold.specs.Ended.{need_seen}
use Rattle.must_needs.specs.Naming.{name_need}
use Rattle.must_needs.proofs.tell.each_way.Given as goal

abbrev pub invariant-loop-name : goal.invariant-loop-name
invariant-loop-name l = l.ways.items ≡ filter_map (name_need l.rank (map (need_seen l.rank) l.needs)) (take l.name-index l.names)
