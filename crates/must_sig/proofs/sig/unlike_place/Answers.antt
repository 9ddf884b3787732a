use Rattle.must_sig.proofs.Matching.{settled_here, far_within, long_enough}
use Rattle.must_sig.proofs.sig.unlike_place.Goals as goal

pub first_unlike-requires-clause-a_long : goal.first_unlike-requires-clause-a_long
first_unlike-requires-clause-a_long g c = long_enough c.args.a.now c.unit.result.now c.times.result c.unit.ensures.value c.times.ensures c.stretch-far.ensures.small.0

pub first_unlike-requires-clause-b_long : goal.first_unlike-requires-clause-b_long
first_unlike-requires-clause-b_long g c = long_enough c.args.b.now c.unit-2.result.now c.times-2.result c.unit-2.ensures.value c.times-2.ensures c.stretch-far.ensures.small.1

pub first_unlike-requires-clause-a_within : goal.first_unlike-requires-clause-a_within
first_unlike-requires-clause-a_within g c =
    (far_within c.args.a.now c.args.b.now c.unit.result.now c.unit-2.result.now c.times.result c.times-2.result c.stretch-far.result c.unit.ensures.value c.times.ensures c.unit-2.ensures.value c.times-2.ensures c.stretch-far.ensures.stretch).0

pub first_unlike-requires-clause-b_within : goal.first_unlike-requires-clause-b_within
first_unlike-requires-clause-b_within g c =
    (far_within c.args.a.now c.args.b.now c.unit.result.now c.unit-2.result.now c.times.result c.times-2.result c.stretch-far.result c.unit.ensures.value c.times.ensures c.unit-2.ensures.value c.times-2.ensures c.stretch-far.ensures.stretch).1

pub returns-clause-value : goal.returns-clause-value
returns-clause-value g c =
    settled_here c.args.a.now c.args.b.now c.unit.result.now c.unit-2.result.now c.times.result c.times-2.result c.stretch-far.result c.first_unlike.result c.unit.ensures.value c.times.ensures c.unit-2.ensures.value c.times-2.ensures c.stretch-far.ensures.stretch c.first_unlike.ensures.found c.first_unlike.ensures.none
