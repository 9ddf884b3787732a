use Rattle.std.proofs.Common.{◌≡◌, map, take, []}
use Rattle.must_coll.proofs.lanes.empty_lanes.Given as goal

abbrev pub invariant-loop : goal.invariant-loop
invariant-loop l = map (λ q. q.items) l.lanes.items ≡ map (λ m. []) (take l.index l.members)
