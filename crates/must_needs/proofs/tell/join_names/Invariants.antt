use Rattle.std.proofs.Common.{◌≡◌, map, drop}
use Rattle.must_messages.specs.CallNeeds.{together}
use Rattle.must_hold.specs.Ended.{need_seen}
use Rattle.must_needs.specs.Naming.{name_need}
use Rattle.must_needs.proofs.Telling.{behind}
use Rattle.must_needs.proofs.tell.join_names.Given as goal

abbrev pub invariant-loop-name : goal.invariant-loop-name
invariant-loop-name l =
    behind l.wants.items (together (map (name_need l.rank (map (need_seen l.rank) l.needs)) (drop l.name-index l.names))) ≡ together (map (name_need l.rank (map (need_seen l.rank) l.needs)) l.names)
