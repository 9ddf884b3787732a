use Rattle.std.proofs.Common.{◌≡◌, ◌<◌, ◌++◌, ◌∷◌, [], List, map, take, drop, get_or, length, sym, ap, ◌∙◌, arith, append_assoc, add-one}
use Rattle.std.specs.Prelude.{slice_get}
use Rattle.std.proofs.lemmas.List.{get_or-map, length-map}
use Rattle.must_coll.specs.declared.item.WaveItem.{WaveItem}
use Rattle.must_coll.specs.Waves.{present}
use Rattle.must_coll.specs.Fronts.{fronts}
use Rattle.must_coll.proofs.LaneSteps.{items_of, popped_more, popped_length, still_there, fronts_step}
use Rattle.must_coll.proofs.lanes.pop_all.Goals as goal

pub loop-i-preserved : goal.loop-i-preserved
loop-i-preserved c =
    let i = c.loop-i.i in
    let old = c.args.lanes.now.items in
    let now = c.loop-i.lanes.items in
    let lane = c.index_mut.result.now in
    let calls = c.args.calls.now.items in
    let within : i < length old = omega arith in
    let long : length now ≡ length old = omega (length-map now items_of, ap length c.loop-i.invariant.0, popped_length (map items_of old) i, length-map old items_of, arith) in
    let is : get_or (map items_of now) i [] ≡ lane.items = get_or-map items_of now i lane [] (omega (within, long, arith)) ∙ sym (ap items_of c.index_mut.ensures.value) in
    let same : lane.items ≡ get_or (map items_of old) i [] =
    sym is ∙ ap (λ (w : List (List WaveItem)). get_or w i []) c.loop-i.invariant.0 ∙ still_there (map items_of old) i (omega (within, length-map old items_of, arith)) in (
      popped_more old now i c.pop_into.new.lane within c.loop-i.invariant.0 (c.in_ok-pop_into.ensures.lane ∙ ap (λ (w : List WaveItem). drop 1 w) (sym is)),
      c.in_ok-pop_into.ensures.calls ∙ ap (λ (w : List WaveItem). w ++ present (slice_get lane.items 0 ∷ [])) c.loop-i.invariant.1
          ∙ append_assoc calls (present (fronts (take i (map items_of old)))) (present (slice_get lane.items 0 ∷ []))
          ∙ ap (λ (w : List WaveItem). calls ++ (present (fronts (take i (map items_of old))) ++ present (slice_get w 0 ∷ []))) same
          ∙ ap (λ (w : List WaveItem). calls ++ w) (sym (fronts_step (map items_of old) i (omega (within, length-map old items_of, arith))))
          ∙ ap (λ n. calls ++ present (fronts (take n (map items_of old)))) (sym (add-one i)),
    )
