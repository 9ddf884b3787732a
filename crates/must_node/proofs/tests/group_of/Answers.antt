use Rattle.std.proofs.Common.{refl}
use Rattle.std.specs.List.{IsDistinct}
use Rattle.must_node.proofs.tests.group_of.Goals as goal

pub of-requires : goal.of-requires
unfolding IsDistinct
of-requires c = tt

pub of-requires-in-Zero : goal.of-requires-in-Zero
unfolding IsDistinct
of-requires-in-Zero c = (tt, tt)

pub of-requires-in-Both : goal.of-requires-in-Both
unfolding IsDistinct
of-requires-in-Both c = ((refl, tt), (tt, tt))

pub of-requires-in-Turned : goal.of-requires-in-Turned
unfolding IsDistinct
of-requires-in-Turned c = ((refl, tt), (tt, tt))

pub of-requires-in-Three : goal.of-requires-in-Three
unfolding IsDistinct
of-requires-in-Three c = ((refl, (refl, tt)), ((refl, tt), (tt, tt)))

pub of-requires-in-Four : goal.of-requires-in-Four
unfolding IsDistinct
of-requires-in-Four c = ((refl, (refl, (refl, tt))), ((refl, (refl, tt)), ((refl, tt), (tt, tt))))
