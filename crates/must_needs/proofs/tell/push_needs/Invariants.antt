use Rattle.std.proofs.Common.{◌≡◌, ◌++◌, map, take}
use Rattle.must_hold.specs.Ended.{need_seen}
use Rattle.must_needs.specs.Naming.{ways_named}
use Rattle.must_needs.specs.Stating.{entries_from}
use Rattle.must_needs.proofs.tell.push_needs.Given as goal

abbrev pub invariant-loop-i : goal.invariant-loop-i
invariant-loop-i l = l.entries.items ≡ l.fn.entries.items ++ entries_from l.rank 0 (map (ways_named l.rank (map (need_seen l.rank) l.needs)) (take l.i l.calls))
