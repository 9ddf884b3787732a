use Rattle.std.proofs.Common.{◌≡◌, ◌<◌, ◌∙◌, ℕ, Some, length, get_or, sym, ap, arith, subst, inl, inr}
use Rattle.std.proofs.lemmas.Bool.{cases_order}
use Rattle.std.proofs.lemmas.List.{get_or_default}
use Rattle.std.proofs.lemmas.Option.{slice_get_within}
use Rattle.must_call.specs.declared.place.Place.{Place}
use Rattle.must_wait.specs.Dropping.{core_state, WasLooked}
use Rattle.must_wait.specs.Keeping.{kept_call}
use Rattle.must_wait.specs.Needs.{needs_of}
use Rattle.must_wait.specs.Watching.{ways_in}
use Rattle.must_wait.specs.Shared.{coded}
use Rattle.must_wait.proofs.Listed.{each_item}
use Rattle.must_wait.proofs.Dropped.{both_core_steps, still_looked, is_at}
use Rattle.must_wait.proofs.dropping.Dropping.begin_all.Goals as goal

pub loop-place-preserved : goal.loop-place-preserved
loop-place-preserved c =
    let rows = (coded c.args.rows.now) in
    let blocked = c.args.blocked.now in
    let s = core_state c.loop-place.self in
    let t = core_state c.begin.new.self in
    let steps = c.in_ok-begin.ensures.steps in
    let none : Place = record { rank = 0; call = 0 } in
    record {
      steps = both_core_steps rows (core_state c.args.self.now) s t c.loop-place.invariant.steps steps;
      looked = λ k d less way h. elim (cases_order k c.loop-place.place-index) [
        | inl same ↦ (let is : get_or blocked k d ≡ get_or blocked c.loop-place.place-index none = ap (λ i. get_or blocked i d) same ∙ get_or_default blocked c.loop-place.place-index d none c.loop-place-test.true in
            subst (λ (p : Place). (way : ℕ) → way < length (ways_in (needs_of rows p.rank p.call)) → WasLooked rows t p.rank p.call way) (sym is) c.in_ok-begin.ensures.looked way h)
        | inr (inl below) ↦ still_looked rows s t (get_or blocked k d).rank (get_or blocked k d).call way steps (c.loop-place.invariant.looked k d below way h)
        | inr (inr above) ↦ absurd (omega arith)
      ];
      ways = λ k d less e. elim (cases_order k c.loop-place.place-index) [
        | inl same ↦ (let is : get_or blocked k d ≡ get_or blocked c.loop-place.place-index none = ap (λ i. get_or blocked i d) same ∙ get_or_default blocked c.loop-place.place-index d none c.loop-place-test.true in
            subst (λ (p : Place). kept_call t.kept p.rank ≡ Some p.call → 0 < length (ways_in (needs_of rows p.rank p.call))) (sym is) (λ f. c.in_ok-begin.ensures.ways (is_at _ _ f)) e)
        | inr (inl below) ↦ c.loop-place.invariant.ways k d below (steps.less (get_or blocked k d).rank (get_or blocked k d).call e)
        | inr (inr above) ↦ absurd (omega arith)
      ];
    }

pub returns-clause-held : goal.returns-clause-held
returns-clause-held c = λ rank way call places k w.
    let rows = (coded c.args.rows.now) in
    let t = core_state c.loop-place.self in
    let has = c.requires.blocked rank call (c.loop-place.invariant.steps.less rank call k) in
    each_item (λ (p : Place). (way : ℕ) → way < length (ways_in (needs_of rows p.rank p.call)) → WasLooked rows t p.rank p.call way) c.args.blocked.now (λ j d less. c.loop-place.invariant.looked j d (omega arith))
    (record { rank = rank; call = call }) has way (slice_get_within (ways_in (needs_of rows rank call)) way places w) k call places k w

pub returns-clause-ways : goal.returns-clause-ways
returns-clause-ways c = λ rank call k.
    let rows = (coded c.args.rows.now) in
    let t = core_state c.loop-place.self in
    let has = c.requires.blocked rank call (c.loop-place.invariant.steps.less rank call k) in
    each_item (λ (p : Place). kept_call t.kept p.rank ≡ Some p.call → 0 < length (ways_in (needs_of rows p.rank p.call))) c.args.blocked.now (λ j d less. c.loop-place.invariant.ways j d (omega arith))
    (record { rank = rank; call = call }) has k
