use Rattle.std.proofs.Common.{◌≡◌, ◌+◌, ◌<◌, List, [], map, get_or, set, length, sym, ap, ◌∙◌, arith}
use Rattle.std.proofs.lemmas.List.{get_or-map, length-map}
use Rattle.must_coll.specs.declared.item.WaveItem.{WaveItem}
use Rattle.must_coll.specs.Waves.{gap_count}
use Rattle.must_coll.specs.Fronts.{fronts, fills}
use Rattle.must_coll.proofs.LaneSteps.{items_of, pushed, kept}
use Rattle.must_coll.proofs.Counting.{count_at}
use Rattle.must_coll.proofs.NoCall.{when_err}
use Rattle.must_coll.proofs.lanes.push_at.Goals as goal

pub returns-clause-lanes : goal.returns-clause-lanes
returns-clause-lanes c =
    pushed c.args.lanes.now.items c.args.position c.index_mut-lane.result.now c.push_back.new.self c.args.item (omega arith) c.index_mut-lane.ensures.value c.in_ok-push_back.ensures.items

pub returns-clause-count : goal.returns-clause-count
returns-clause-count c =
    let old = c.args.lanes.now.items in
    let p = c.args.position in
    let h : p < length old = omega arith in
    let is : c.index_mut-lane.result.now.items ≡ get_or (map items_of old) p [] = ap items_of c.index_mut-lane.ensures.value ∙ sym (get_or-map items_of old p c.index_mut-lane.result.now [] h) in
    let lanes = pushed old p c.index_mut-lane.result.now c.push_back.new.self c.args.item h c.index_mut-lane.ensures.value c.in_ok-push_back.ensures.items in
    ap (λ n. n + gap_count (fronts (map items_of (set old p c.push_back.new.self)))) (c.fills-filled.ensures.value ∙ ap fills is)
    ∙ ap (λ (l : List (List WaveItem)). fills (get_or (map items_of old) p []) + gap_count (fronts l)) lanes
    ∙ count_at (map items_of old) p c.args.item (omega (h, length-map old items_of, arith))

pub returns-in_err-push_back-clause-err : goal.returns-in_err-push_back-clause-err
returns-in_err-push_back-clause-err c = when_err c.from_residual.result (kept c.args.lanes.now.items c.args.position c.index_mut-lane.result.now c.push_back.new.self (omega arith) c.index_mut-lane.ensures.value c.in_err-push_back.ensures.items)
