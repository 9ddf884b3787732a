use Rattle.std.proofs.Common.{◌≡◌}
use Rattle.must_group.specs.Groups.{below}
use Rattle.must_local.proofs.objects.ranks_below.Given as goal

abbrev pub invariant-loop-rank : goal.invariant-loop-rank
invariant-loop-rank l = l.ranks.items ≡ below l.rank
