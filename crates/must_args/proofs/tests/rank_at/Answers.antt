use Rattle.std.proofs.Common.{refl}
use Rattle.std.specs.List.{IsDistinct}
use Rattle.must_args.proofs.tests.rank_at.Goals as goal

pub of-requires : goal.of-requires
unfolding IsDistinct
of-requires c = ((refl, tt), (tt, tt))

pub of-requires-2 : goal.of-requires-2
unfolding IsDistinct
of-requires-2 c = ((refl, tt), (tt, tt))
