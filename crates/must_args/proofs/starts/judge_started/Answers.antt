use Rattle.std.proofs.Common.{ℕ, Bool, List, [], get_or, true, ◌||◌, sym, ap, subst, ◌∙◌, nat_eq}
use Rattle.std.specs.Ordering.{nat_cmp}
use Rattle.std.specs.List.{list_any}
use Rattle.std.specs.BTreeMap.{is_at}
use Rattle.std.proofs.lemmas.List.{take_all}
use Rattle.must_rules.specs.Breaches.{AddsBreaches}
use Rattle.must_rules.specs.ArgumentHandles.{active, active_from}
use Rattle.must_args.proofs.Added.{adds_none, adds_as}
use Rattle.must_args.proofs.Seen.{member_more}
use Rattle.must_args.proofs.Steps.{active_step}
use Rattle.must_args.proofs.starts.judge_started.Goals as goal

pub loop-i-init : goal.loop-i-init
loop-i-init g c = record { adds = adds_none c.args.at c.args.rows.now; seen = λ h. ap (λ (ks : List ℕ). list_any (is_at (nat_cmp h)) ks) c.new-seen.ensures.empty }

pub loop-i-preserved : goal.loop-i-preserved
loop-i-preserved g c =
    let starts = g.V.View.starts c.args.view.now in
    let xs = c.args.requests.now in
    let x = get_or xs c.loop-i.i 0 in
    record {
      adds = active_step starts c.args.at.call true xs c.loop-i.i c.args.at c.args.rows.now c.loop-i.rows c.add_handle.new.rows c.loop-i-test.true c.loop-i.invariant.adds
          (adds_as c.args.at c.loop-i.rows c.add_handle.new.rows _ _
          (c.judge_start-broken.ensures c.loop-i.i ∙ ap (λ (b : Bool). active c.args.at.call b c.loop-i.i x (starts x)) (c.in_ok-again.ensures.again ∙ c.loop-i.invariant.seen x))
          c.in_ok-add_handle.ensures);
      seen = λ h. c.in_ok-again.ensures.seen h ∙ ap (λ (b : Bool). b || nat_eq h x) (c.loop-i.invariant.seen h) ∙ sym (member_more xs c.loop-i.i h c.loop-i-test.true);
    }

pub returns : goal.returns
returns g c =
    subst (λ (xs : List ℕ). AddsBreaches c.args.at c.args.rows.now c.loop-i.rows (active_from (g.V.View.starts c.args.view.now) c.args.at.call true [] 0 xs)) (take_all c.loop-i.i c.args.requests.now c.loop-i-test.false) c.loop-i.invariant.adds
