use Rattle.std.proofs.Common.{ℕ, List, Option, [], ◌++◌, ap, subst, ◌∙◌}
use Rattle.must_find.specs.declared.rule.Rule.TheVariants.{T3}
use Rattle.must_find.specs.Adds.{Adds}
use Rattle.must_rules.specs.PendingOperations.{operations_weight}
use Rattle.must_parts.specs.Holding.{AreHeld}
use Rattle.must_parts.specs.Rows.{IsOfRule}
use Rattle.must_parts.specs.Starting.{starting, begun_by, clash_started}
use Rattle.must_parts.proofs.Starting.{wide_is}
use Rattle.must_parts.proofs.start.start_requests.Goals as goal

pub returns-then-branch-clause-over : goal.returns-then-branch-clause-over
returns-then-branch-clause-over g c = λ part ops kept held.
    let os = starting c.args.clear (g.V.View.starts c.args.view.now) [] c.args.requests.now in
    let own = c.in_ok-weight.ensures part c.args.at.call kept ∙ ap (λ (l : List (Option ℕ)). operations_weight (begun_by c.args.at.call part l)) (c.as_slice.ensures.value ∙ c.in_ok-started.ensures) in
    wide_is c.args.pending.now ops (begun_by c.args.at.call part os) c.args.size c.in_ok-weight.weight c.weight.result c.in_ok-is_too_wide.field-0 held c.weight.ensures own c.in_ok-is_too_wide.ensures ∙ c.if-branch.true

pub returns-clause-within : goal.returns-clause-within
returns-clause-within g c = λ part ops kept held.
    let os = starting c.args.clear (g.V.View.starts c.args.view.now) [] c.args.requests.now in
    let own = c.in_ok-weight.ensures part c.args.at.call kept ∙ ap (λ (l : List (Option ℕ)). operations_weight (begun_by c.args.at.call part l)) (c.as_slice.ensures.value ∙ c.in_ok-started.ensures) in
    wide_is c.args.pending.now ops (begun_by c.args.at.call part os) c.args.size c.in_ok-weight.weight c.weight.result c.in_ok-is_too_wide.field-0 held c.weight.ensures own c.in_ok-is_too_wide.ensures ∙ c.if-branch.false

pub returns-clause-rows : goal.returns-clause-rows
returns-clause-rows g c = λ part ops kept held.
    subst (λ (l : List (Option ℕ)). Adds c.args.rows.now c.start_all.new.rows (IsOfRule c.args.at T3 (clash_started c.args.at.rank c.args.at.call part ops l))) (c.as_slice-2.ensures.value ∙ c.in_ok-started.ensures) (c.in_ok-start_all.ensures.rows part ops kept held)

pub returns-clause-stands : goal.returns-clause-stands
returns-clause-stands g c = λ part ops kept held.
    subst (λ (l : List (Option ℕ)). AreHeld c.start_all.new.pending (ops ++ begun_by c.args.at.call part l)) (c.as_slice-2.ensures.value ∙ c.in_ok-started.ensures) (c.in_ok-start_all.ensures.stands part ops kept held)
