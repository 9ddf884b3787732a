use Rattle.std.proofs.Common.{◌<◌, ◌∙◌, [], length, get_or, sym, arith, subst, inl, inr}
use Rattle.std.proofs.lemmas.Bool.{cases_order}
use Rattle.std.proofs.lemmas.List.{get_or_default}
use Rattle.must_wait.specs.declared.worklist.Watch.{Watch}
use Rattle.must_wait.specs.Dropping.{core_state, core_taken, WasLooked}
use Rattle.must_wait.specs.Watching.{HasWatch}
use Rattle.must_wait.specs.Shared.{coded}
use Rattle.must_wait.proofs.Dropped.{both_core_steps, still_looked, all_looked}
use Rattle.must_wait.proofs.Watched.{each_watch, index_is}
use Rattle.must_wait.proofs.dropping.Dropping.look_at.Goals as goal

pub loop-watch-preserved : goal.loop-watch-preserved
loop-watch-preserved c =
    let s = core_state c.loop-watch.self in
    let t = core_state c.look.new.self in
    let items = c.deref-watch-items.result.now in
    let none : Watch = record { rank = 0; call = 0; way = 0; place = 0 } in
    record {
      steps = both_core_steps (coded c.args.rows.now) (core_taken (core_state c.args.self.now) c.args.rank) s t c.loop-watch.invariant.steps c.in_ok-look.ensures.steps;
      woken = λ k d less. elim (cases_order k c.loop-watch.watch-index) [
        | inl same ↦ subst (λ i. WasLooked (coded c.args.rows.now) t (get_or items i d).rank (get_or items i d).call (get_or items i d).way) (sym same)
            (subst (λ (w : Watch). WasLooked (coded c.args.rows.now) t w.rank w.call w.way) (get_or_default items c.loop-watch.watch-index none d c.loop-watch-test.true) c.in_ok-look.ensures.looked)
        | inr (inl below) ↦ still_looked (coded c.args.rows.now) s t (get_or items k d).rank (get_or items k d).call (get_or items k d).way c.in_ok-look.ensures.steps (c.loop-watch.invariant.woken k d below)
        | inr (inr above) ↦ absurd (omega arith)
      ];
    }

pub returns-clause-held : goal.returns-clause-held
returns-clause-held c =
    let t = core_state c.loop-watch.self in
    let items = c.deref-watch-items.result.now in
    let watches = c.args.self.now.watches.items in
    let inside : c.args.rank < length watches = omega (arith, c.requires.rank, c.requires.ready.watches) in
    let is = sym (c.deref-watch-items.ensures.value ∙ c.woken.view_is ∙ c.replace-woken.ensures.value ∙ index_is watches c.args.rank c.index_mut.result.now [] inside c.index_mut.ensures.value) in
    all_looked (coded c.args.rows.now) (core_state c.args.self.now) t c.args.rank c.requires.held c.loop-watch.invariant.steps
    (λ rank call way h. each_watch items (λ r k w. WasLooked (coded c.args.rows.now) t r k w) (λ k d less. c.loop-watch.invariant.woken k d (omega arith)) rank call way (subst (λ l. HasWatch l rank call way) is h))
