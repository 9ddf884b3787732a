use Rattle.std.proofs.Common.{◌≡◌, ◌+◌, ◌≤◌, map, drop}
use Rattle.must_coll.specs.Waves.{gap_count}
use Rattle.must_coll.specs.Fronts.{fronts}
use Rattle.must_coll.proofs.lanes.count_empty.Given as goal

abbrev pub invariant-loop-lane : goal.invariant-loop-lane
invariant-loop-lane l = (l.empty ≤ l.lane-index) × (l.empty + gap_count (fronts (map (λ q. q.items) (drop l.lane-index l.lanes))) ≡ gap_count (fronts (map (λ q. q.items) l.lanes)))
