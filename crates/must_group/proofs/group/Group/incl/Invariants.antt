use Rattle.std.proofs.Common.{◌≡◌, take}
use Rattle.must_group.specs.Groups.{incl}
use Rattle.must_group.proofs.group.Group.incl.Given as goal

abbrev pub invariant-loop-rank : goal.invariant-loop-rank
invariant-loop-rank l = l.chosen.items ≡ incl l.self-inside.ranks.items (take l.rank-index l.ranks)
