use Rattle.std.proofs.Common.{ℕ, List, [], false, subst}
use Rattle.std.proofs.lemmas.List.{take_all}
use Rattle.must_rules.specs.Breaches.{AddsBreaches}
use Rattle.must_rules.specs.ArgumentHandles.{active_from}
use Rattle.must_args.proofs.Added.{adds_none, adds_as}
use Rattle.must_args.proofs.Steps.{active_step}
use Rattle.must_args.proofs.starts.judge_active.Goals as goal

pub loop-i-init : goal.loop-i-init
loop-i-init g c = adds_none c.args.at c.args.rows.now

pub loop-i-preserved : goal.loop-i-preserved
loop-i-preserved g c =
    active_step (g.V.View.starts c.args.view.now) c.args.at.call false c.args.requests.now c.loop-i.i c.args.at c.args.rows.now c.loop-i.rows c.add_handle.new.rows c.loop-i-test.true c.loop-i.invariant
    (adds_as c.args.at c.loop-i.rows c.add_handle.new.rows _ _ (c.judge_start-broken.ensures c.loop-i.i) c.in_ok-add_handle.ensures)

pub returns : goal.returns
returns g c =
    subst (λ (xs : List ℕ). AddsBreaches c.args.at c.args.rows.now c.loop-i.rows (active_from (g.V.View.starts c.args.view.now) c.args.at.call false [] 0 xs)) (take_all c.loop-i.i c.args.requests.now c.loop-i-test.false) c.loop-i.invariant
