use Rattle.std.proofs.Common.{◌≡◌, true, false, [], ◌∷◌, ◌++◌, map, Option, Some, None, sym, ap, subst, ◌∙◌, rules}
use Rattle.std.specs.BTreeMap as tree
use Rattle.must_find.specs.Adds.{Adds}
use Rattle.std.specs.Ordering.{nat_cmp}
use Rattle.must_group.specs.Names.{Name}
use Rattle.must_coll.specs.declared.progress.Progress.{Progress}
use Rattle.must_coll.specs.Waves.{wave, has_gap, all_places}
use Rattle.must_coll.specs.Rows.{IsRowIn, IsWholeRowOf}
use Rattle.must_coll.specs.Fronts.{fronts, joined_at}
use Rattle.must_coll.specs.Progressing.{StandsAt}
use Rattle.must_coll.proofs.Whole.{progress_after, places_are, rows_to, rows_back}
use Rattle.must_coll.proofs.PutWave.{orderly_front, member_there, fresh, adds_alike, on_ok, on_both, if_same, no_items}
use Rattle.must_coll.proofs.waves.put_in.Goals as goal

pub returns-in-None-clause-found : goal.returns-in-None-clause-found
returns-in-None-clause-found c = λ h st o. absurd (member_there h c.args.item o (λ k is. c.place_of.ensures.none k c.in-None.is is))

pub returns-in-None-clause-rows : goal.returns-in-None-clause-rows
returns-in-None-clause-rows c = λ h st o. absurd (member_there h c.args.item o (λ k is. c.place_of.ensures.none k c.in-None.is is))

pub returns-in-None-clause-here : goal.returns-in-None-clause-here
returns-in-None-clause-here c = λ h st o. absurd (member_there h c.args.item o (λ k is. c.place_of.ensures.none k c.in-None.is is))

pub returns-in-Some-get_mut-clause-found : goal.returns-in-Some-get_mut-clause-found
returns-in-Some-get_mut-clause-found c = λ h st o.
    let x = c.args.item in
    let p = c.in-Some-get_mut.progress.now in
    let e : tree.get nat_cmp c.args.waiting.now c.args.number ≡ Some p = search rules in
    let is = subst (λ (w : Option Progress). StandsAt w x.name h) e st in
    if_same c.advance.result (all_places (fronts (joined_at p.lanes c.in-Some.position x))) (all_places (wave (h ++ x ∷ []) x.name x.number))
    (places_are p h x c.in-Some.position o (orderly_front h (x ∷ []) o) c.in-Some.ensures.distinct c.in-Some.ensures.found is) c.advance.ensures.found

pub returns-in-Some-get_mut-clause-rows : goal.returns-in-Some-get_mut-clause-rows
returns-in-Some-get_mut-clause-rows c = λ h st o.
    let x = c.args.item in
    let p = c.in-Some-get_mut.progress.now in
    let e : tree.get nat_cmp c.args.waiting.now c.args.number ≡ Some p = search rules in
    let is = subst (λ (w : Option Progress). StandsAt w x.name h) e st in
    let ws = fronts (joined_at p.lanes c.in-Some.position x) in
    let before = orderly_front h (x ∷ []) o in
    on_ok c.advance.result c.advance.ensures.rows (λ adds. adds_alike c.args.out.now c.advance.new.out (λ f. (has_gap ws ≡ false) × ((p.clean ≡ true) × IsRowIn x.name.members ws f)) (IsWholeRowOf (h ++ x ∷ []) x)
    (rows_to p h x c.in-Some.position o before c.in-Some.ensures.distinct c.in-Some.ensures.found is) (rows_back p h x c.in-Some.position o before c.in-Some.ensures.distinct c.in-Some.ensures.found is)
    (subst (λ (n : Name). Adds c.args.out.now c.advance.new.out (λ f. (has_gap ws ≡ false) × ((p.clean ≡ true) × IsRowIn n.members ws f))) is.name_is adds))

pub returns-in-Some-get_mut-clause-here : goal.returns-in-Some-get_mut-clause-here
returns-in-Some-get_mut-clause-here c = λ h st o.
    let x = c.args.item in
    let p = c.in-Some-get_mut.progress.now in
    let e : tree.get nat_cmp c.args.waiting.now c.args.number ≡ Some p = search rules in
    let is = subst (λ (w : Option Progress). StandsAt w x.name h) e st in
    let now : tree.get nat_cmp (c.get_mut.follows.lender c.advance.new.self) c.args.number ≡ Some c.advance.new.self = search rules in
    on_both c.advance.result c.advance.ensures.lanes c.advance.ensures.clean (λ l k. subst (λ (w : Option Progress). StandsAt w x.name (h ++ x ∷ [])) (sym now)
    (progress_after p h x c.in-Some.position o (orderly_front h (x ∷ []) o) c.in-Some.ensures.distinct c.in-Some.ensures.found is c.advance.new.self c.advance.ensures.name l k))

pub returns-in_ok-insert-in-None-get_mut-clause-found : goal.returns-in_ok-insert-in-None-get_mut-clause-found
returns-in_ok-insert-in-None-get_mut-clause-found c = λ h st o.
    let x = c.args.item in
    let p = c.in_ok-progress-in-None-get_mut.progress in
    let e : tree.get nat_cmp c.args.waiting.now c.args.number ≡ None = search rules in
    let before = orderly_front h (x ∷ []) o in
    let named = c.in_ok-copy-in-None-get_mut.ensures in
    let lanes = c.in_ok-progress-in-None-get_mut.ensures.lanes ∙ ap (λ (n : Name). map no_items n.members) named in
    let is = fresh p x.name h c.in-Some.position x.place.rank before c.in-Some.ensures.found (subst (λ (w : Option Progress). StandsAt w x.name h) e st) (c.in_ok-progress-in-None-get_mut.ensures.name ∙ named) c.in_ok-progress-in-None-get_mut.ensures.clean lanes in
    c.in_ok-fact-in-None-get_mut.ensures.found ∙ places_are p h x c.in-Some.position o before c.in-Some.ensures.distinct c.in-Some.ensures.found is

pub returns-in_ok-insert-in-None-get_mut-clause-rows : goal.returns-in_ok-insert-in-None-get_mut-clause-rows
returns-in_ok-insert-in-None-get_mut-clause-rows c = λ h st o.
    let x = c.args.item in
    let p = c.in_ok-progress-in-None-get_mut.progress in
    let e : tree.get nat_cmp c.args.waiting.now c.args.number ≡ None = search rules in
    let before = orderly_front h (x ∷ []) o in
    let named = c.in_ok-copy-in-None-get_mut.ensures in
    let lanes = c.in_ok-progress-in-None-get_mut.ensures.lanes ∙ ap (λ (n : Name). map no_items n.members) named in
    let is = fresh p x.name h c.in-Some.position x.place.rank before c.in-Some.ensures.found (subst (λ (w : Option Progress). StandsAt w x.name h) e st) (c.in_ok-progress-in-None-get_mut.ensures.name ∙ named) c.in_ok-progress-in-None-get_mut.ensures.clean lanes in
    let ws = fronts (joined_at p.lanes c.in-Some.position x) in
    adds_alike c.args.out.now c.advance-in-None-get_mut.new.out (λ f. (has_gap ws ≡ false) × ((p.clean ≡ true) × IsRowIn x.name.members ws f)) (IsWholeRowOf (h ++ x ∷ []) x)
    (rows_to p h x c.in-Some.position o before c.in-Some.ensures.distinct c.in-Some.ensures.found is) (rows_back p h x c.in-Some.position o before c.in-Some.ensures.distinct c.in-Some.ensures.found is)
    (subst (λ (n : Name). Adds c.args.out.now c.advance-in-None-get_mut.new.out (λ f. (has_gap ws ≡ false) × ((p.clean ≡ true) × IsRowIn n.members ws f))) is.name_is c.in_ok-fact-in-None-get_mut.ensures.rows)

pub returns-in_ok-insert-in-None-get_mut-clause-here : goal.returns-in_ok-insert-in-None-get_mut-clause-here
returns-in_ok-insert-in-None-get_mut-clause-here c = λ h st o.
    let x = c.args.item in
    let p = c.in_ok-progress-in-None-get_mut.progress in
    let e : tree.get nat_cmp c.args.waiting.now c.args.number ≡ None = search rules in
    let before = orderly_front h (x ∷ []) o in
    let named = c.in_ok-copy-in-None-get_mut.ensures in
    let lanes = c.in_ok-progress-in-None-get_mut.ensures.lanes ∙ ap (λ (n : Name). map no_items n.members) named in
    let is = fresh p x.name h c.in-Some.position x.place.rank before c.in-Some.ensures.found (subst (λ (w : Option Progress). StandsAt w x.name h) e st) (c.in_ok-progress-in-None-get_mut.ensures.name ∙ named) c.in_ok-progress-in-None-get_mut.ensures.clean lanes in
    let now : tree.get nat_cmp c.insert.new.self c.args.number ≡ Some c.advance-in-None-get_mut.new.self = search rules in
    subst (λ (w : Option Progress). StandsAt w x.name (h ++ x ∷ [])) (sym now)
    (progress_after p h x c.in-Some.position o before c.in-Some.ensures.distinct c.in-Some.ensures.found is c.advance-in-None-get_mut.new.self c.advance-in-None-get_mut.ensures.name c.in_ok-fact-in-None-get_mut.ensures.lanes c.in_ok-fact-in-None-get_mut.ensures.clean)
