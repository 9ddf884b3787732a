use Rattle.std.proofs.Common.{ℕ, List, Option, ap, ◌∙◌}
use Rattle.std.proofs.lemmas.List.{take_all}
use Rattle.must_rules.specs.PendingOperations.{operations_weight}
use Rattle.must_parts.specs.Starting.{begun_by}
use Rattle.must_parts.proofs.Starting.{weight_more}
use Rattle.must_parts.proofs.start.weight_started.Goals as goal

pub loop-request-preserved : goal.loop-request-preserved
loop-request-preserved c = λ part call kept.
    weight_more call part c.args.started.now c.loop-request.request-index _ c.loop-request.weight _ _ c.loop-request-test.true (c.loop-request.invariant part call kept) (c.from.ensures ∙ c.weight_for.ensures part call kept) (c.in-Some.ensures).1

pub returns : goal.returns
returns c = λ part call kept. c.loop-request.invariant part call kept ∙ ap (λ (os : List (Option ℕ)). operations_weight (begun_by call part os)) (take_all c.loop-request.request-index c.args.started.now c.loop-request-test.false)
