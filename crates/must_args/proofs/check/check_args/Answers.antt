use Rattle.std.proofs.Common.{Bool, [], subst, ◌∙◌}
use Rattle.must_rules.specs.Breaches.{AddsBreaches}
use Rattle.must_rules.specs.ArgumentHandles.{active_requests}
use Rattle.must_rules.specs.Clear.{wrong_arguments}
use Rattle.must_args.proofs.Added.{adds_both, adds_joined, none_where_clear}
use Rattle.must_args.proofs.check.check_args.Goals as goal

pub parts_of-parts-requires-clause-clear : goal.parts_of-parts-requires-clause-clear
parts_of-parts-requires-clause-clear g c = c.is_empty-clear.ensures ∙ none_where_clear c.args.at c.in_ok-rows.rows (wrong_arguments (g.V.View.facts c.args.view.now) c.args.call.now.body) c.in_ok-rows.ensures

pub returns : goal.returns
returns g c =
    let facts = g.V.View.facts c.args.view.now in
    let b = c.args.call.now.body in
    let at = c.args.at in
    let clear = c.is_empty-clear.ensures ∙ none_where_clear at c.in_ok-rows.rows (wrong_arguments facts b) c.in_ok-rows.ensures in
    let starts = subst (λ (is : Bool). AddsBreaches at c.in_ok-rows.rows c.judge_starts.new.rows (active_requests (g.V.View.starts c.args.view.now) at.call is b)) clear c.in_ok-judge_starts.ensures in
    record {
      rows = adds_joined at c.args.out.now c.judge_starts.new.rows c.join.new.out _ (adds_both at [] c.in_ok-rows.rows c.judge_starts.new.rows _ _ c.in_ok-rows.ensures starts) c.in_ok-join.ensures.ok;
      clear = clear;
      parts = c.parts_of-parts.ensures;
      err = tt;
    }
