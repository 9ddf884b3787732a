use Rattle.std.proofs.Common.{◌∙◌, get_or, sym, arith, subst, inl, inr}
use Rattle.std.proofs.lemmas.Bool.{cases_order}
use Rattle.std.proofs.lemmas.List.{get_or_default}
use Rattle.must_wait.specs.declared.worklist.Watch.{Watch}
use Rattle.must_wait.specs.Watching.{state_of, taken, slot, IsSettled, HasWatch}
use Rattle.must_wait.specs.Shared.{coded}
use Rattle.must_wait.proofs.Watched.{both_steps, still_settled, looked_at, each_watch}
use Rattle.must_wait.proofs.worklist.Worklist.look_at.Goals as goal

pub loop-way-preserved : goal.loop-way-preserved
loop-way-preserved c =
    let s = state_of c.loop-way.self in
    let t = state_of c.look.new.self in
    record {
      steps = both_steps (coded c.args.rows.now) (taken (state_of c.args.self.now) (slot (state_of c.args.self.now) c.args.place.rank c.args.place.call)) s t c.loop-way.invariant.steps c.in_ok-look.ensures.steps;
      own = λ way less. elim (cases_order way c.loop-way.way) [
        | inl same ↦ subst (λ k. IsSettled (coded c.args.rows.now) t c.args.place.rank c.args.place.call k) (sym same) c.in_ok-look.ensures.settled
        | inr (inl below) ↦ still_settled (coded c.args.rows.now) s t c.args.place.rank c.args.place.call way c.in_ok-look.ensures.steps.keeps (c.loop-way.invariant.own way below)
        | inr (inr above) ↦ absurd (omega arith)
      ];
    }

pub loop-watch-init : goal.loop-watch-init
loop-watch-init c = record {
  steps = c.loop-way.invariant.steps;
  own = λ way less. c.loop-way.invariant.own way (omega (arith, c.way_count-way-end.ensures));
  woken = λ k d less. absurd (omega arith);
}

pub look-requires-in-loop-watch : goal.look-requires-in-loop-watch
look-requires-in-loop-watch c = record { ready = c.loop-watch.invariant.steps.ready }

pub loop-watch-preserved : goal.loop-watch-preserved
loop-watch-preserved c =
    let s = state_of c.loop-watch.self in
    let t = state_of c.look-in-loop-watch.new.self in
    let items = c.deref-watch-items.result.now in
    let none : Watch = record { rank = 0; call = 0; way = 0; place = 0 } in
    let keeps = c.in_ok-look-2.ensures.steps.keeps in
    record {
      steps = both_steps (coded c.args.rows.now) (taken (state_of c.args.self.now) (slot (state_of c.args.self.now) c.args.place.rank c.args.place.call)) s t c.loop-watch.invariant.steps c.in_ok-look-2.ensures.steps;
      own = λ way less. still_settled (coded c.args.rows.now) s t c.args.place.rank c.args.place.call way keeps (c.loop-watch.invariant.own way less);
      woken = λ k d less. elim (cases_order k c.loop-watch.watch-index) [
        | inl same ↦ subst (λ i. IsSettled (coded c.args.rows.now) t (get_or items i d).rank (get_or items i d).call (get_or items i d).way) (sym same)
            (subst (λ (w : Watch). IsSettled (coded c.args.rows.now) t w.rank w.call w.way) (get_or_default items c.loop-watch.watch-index none d c.loop-watch-test.true) c.in_ok-look-2.ensures.settled)
        | inr (inl below) ↦ still_settled (coded c.args.rows.now) s t (get_or items k d).rank (get_or items k d).call (get_or items k d).way keeps (c.loop-watch.invariant.woken k d below)
        | inr (inr above) ↦ absurd (omega arith)
      ];
    }

pub returns-clause-ready : goal.returns-clause-ready
returns-clause-ready c = c.loop-watch.invariant.steps.ready

pub returns-clause-watched : goal.returns-clause-watched
returns-clause-watched c =
    let t = state_of c.loop-watch.self in
    let items = c.deref-watch-items.result.now in
    let is = sym (c.deref-watch-items.ensures.value ∙ c.woken.view_is ∙ c.take_watches-woken.ensures.watches) in
    looked_at (coded c.args.rows.now) (state_of c.args.self.now) t c.args.place c.requires.call c.requires.watched c.loop-watch.invariant.steps.keeps c.loop-watch.invariant.own
    (λ rank call way h. each_watch items (λ r k w. IsSettled (coded c.args.rows.now) t r k w) (λ k d less. c.loop-watch.invariant.woken k d (omega arith)) rank call way (subst (λ l. HasWatch l rank call way) is h))

pub returns-clause-fresh : goal.returns-clause-fresh
returns-clause-fresh c = omega (arith, c.loop-watch.invariant.steps.fresh)
