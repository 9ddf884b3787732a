use Rattle.std.proofs.Common.{◌≡◌, map, drop}
use Rattle.must_coll.specs.Waves.{missing}
use Rattle.must_coll.specs.Fronts.{fronts}
use Rattle.must_coll.proofs.lanes.missing_of.Given as goal

abbrev pub invariant-loop-i : goal.invariant-loop-i
invariant-loop-i l = missing (drop l.i l.members) (fronts (map (λ q. q.items) (drop l.i l.lanes))) ≡ missing l.members (fronts (map (λ q. q.items) l.lanes))
