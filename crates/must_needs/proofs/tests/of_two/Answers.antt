use Rattle.std.proofs.Common.{refl}
use Rattle.std.specs.List.{IsDistinct}
use Rattle.must_needs.proofs.tests.of_two.Goals as goal

pub of-requires : goal.of-requires
unfolding IsDistinct
of-requires c = ((refl, tt), (tt, tt))
