use Rattle.std.proofs.Common.{◌≡◌, ℕ, true, false, List, map, Option, Some, None, sym, ap, subst, ◌∙◌}
use Rattle.must_find.specs.Adds.{Adds}
use Rattle.must_coll.specs.declared.item.WaveItem.{WaveItem}
use Rattle.must_coll.specs.Waves.{has_gap, present}
use Rattle.must_coll.specs.Rows.{IsRowOf, IsRowIn}
use Rattle.must_coll.specs.Fronts.{fronts, joined_at}
use Rattle.must_coll.proofs.Counting.{gap_from, whole_from, gap_places, whole_places, none_missing}
use Rattle.must_coll.proofs.NoCall.{adds_with}
use Rattle.must_coll.proofs.progress.Progress.advance.Goals as goal

pub returns-then-not-is_whole-clause-found : goal.returns-then-not-is_whole-clause-found
returns-then-not-is_whole-clause-found c =
    let lanes = joined_at c.args.self.now.lanes c.args.position c.args.item in
    let gap = gap_from (has_gap (fronts c.push.new.self)) c.is_whole.result c.is_whole.ensures c.if-not-is_whole.true in
    sym (gap_places (fronts lanes) (ap (λ (l : List (List WaveItem)). has_gap (fronts l)) (sym c.in_ok-push.ensures) ∙ gap))

pub returns-clause-found : goal.returns-clause-found
returns-clause-found c =
    let lanes = joined_at c.args.self.now.lanes c.args.position c.args.item in
    let whole = whole_from (has_gap (fronts c.push.new.self)) c.is_whole.result c.is_whole.ensures c.if-not-is_whole.false in
    let calls = c.deref-2.ensures.value ∙ c.in_ok-calls.ensures.calls ∙ ap (λ (l : List (List WaveItem)). present (fronts l)) c.in_ok-push.ensures in
    ap Some (c.from_vec.ensures ∙ c.in_ok-places.ensures ∙ ap (λ (l : List WaveItem). map (λ (x : WaveItem). x.place) l) calls)
    ∙ sym (whole_places (fronts lanes) (ap (λ (l : List (List WaveItem)). has_gap (fronts l)) (sym c.in_ok-push.ensures) ∙ whole))

pub returns-clause-rows : goal.returns-clause-rows
returns-clause-rows c =
    let ws = fronts (joined_at c.args.self.now.lanes c.args.position c.args.item) in
    let members = c.args.self.now.name.members in
    let clean = c.args.self.now.clean in
    let whole : has_gap ws ≡ false =
    ap (λ (l : List (List WaveItem)). has_gap (fronts l)) (sym c.in_ok-push.ensures) ∙ whole_from (has_gap (fronts c.push.new.self)) c.is_whole.result c.is_whole.ensures c.if-not-is_whole.false in
    let calls = c.deref.ensures.value ∙ c.in_ok-calls.ensures.calls ∙ ap (λ (l : List (List WaveItem)). present (fronts l)) c.in_ok-push.ensures in
    let adds = c.in_ok-self.ensures.rows in
    let with_calls = subst (λ (cs : List WaveItem). Adds c.args.out.now c.settle_wave.new.out (λ f. (clean ≡ true) × IsRowOf None cs f)) calls adds in
    let with_members = subst (λ (m : Option ℕ). Adds c.args.out.now c.settle_wave.new.out (λ f. (clean ≡ true) × IsRowOf m (present ws) f)) (sym (none_missing members ws whole)) with_calls in
    adds_with c.args.out.now c.settle_wave.new.out (has_gap ws) (λ f. (clean ≡ true) × IsRowIn members ws f) whole with_members
