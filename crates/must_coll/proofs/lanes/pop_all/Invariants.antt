use Rattle.std.proofs.Common.{◌≡◌, map, drop, take, ◌++◌, List}
use Rattle.must_coll.specs.declared.item.WaveItem.{WaveItem}
use Rattle.must_coll.specs.Waves.{present}
use Rattle.must_coll.specs.Fronts.{fronts}
use Rattle.must_coll.proofs.lanes.pop_all.Given as goal

abbrev pub invariant-loop-i : goal.invariant-loop-i
invariant-loop-i l =
    (map (λ q. q.items) l.lanes.items ≡ map (λ (w : List WaveItem). drop 1 w) (take l.i (map (λ q. q.items) l.initial.lanes.items)) ++ drop l.i (map (λ q. q.items) l.initial.lanes.items))
    × (l.calls.items ≡ l.initial.calls.items ++ present (fronts (take l.i (map (λ q. q.items) l.initial.lanes.items))))
