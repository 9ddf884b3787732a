use Rattle.std.proofs.Common.{ℕ, List, map, get_or, false, refl, subst}
use Rattle.std.proofs.lemmas.List.{take_all}
use Rattle.must_call.specs.Handles.{request_of}
use Rattle.must_rules.specs.Breaches.{AddsBreaches}
use Rattle.must_rules.specs.ArgumentHandles.{wrong_handles}
use Rattle.must_args.proofs.Added.{adds_none}
use Rattle.must_args.proofs.Steps.{handles_step}
use Rattle.must_args.proofs.handles.judge_requests.Goals as goal

pub loop-i-init : goal.loop-i-init
loop-i-init g c = adds_none c.args.at c.args.rows.now

pub loop-i-preserved : goal.loop-i-preserved
loop-i-preserved g c =
    let facts = g.V.View.facts c.args.view.now in
    handles_step request_of facts c.args.kind false c.args.number c.args.requests.now c.loop-i.i (get_or c.args.requests.now c.loop-i.i 0) 0 c.args.at c.args.rows.now c.loop-i.rows c.judge_handle.new.rows c.loop-i-test.true refl c.loop-i.invariant c.in_ok-judge_handle.ensures

pub returns : goal.returns
returns g c =
    subst (λ (xs : List ℕ). AddsBreaches c.args.at c.args.rows.now c.loop-i.rows (wrong_handles (g.V.View.facts c.args.view.now) c.args.kind false c.args.number (map request_of xs))) (take_all c.loop-i.i c.args.requests.now c.loop-i-test.false) c.loop-i.invariant
