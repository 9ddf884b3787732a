use Rattle.std.proofs.Common.{ℕ, List, [], sym, subst}
use Rattle.std.proofs.lemmas.List.{take_all}
use Rattle.must_rules.specs.Operations.{operations_of}
use Rattle.must_messages.specs.CallNeeds.{request_needs}
use Rattle.must_needs.specs.Stating.{AreNamed}
use Rattle.must_needs.proofs.Joining.{named_none}
use Rattle.must_needs.proofs.Requesting.{named_more}
use Rattle.must_needs.proofs.waits.name_requests.Goals as goal

pub loop-request-init : goal.loop-request-init
loop-request-init g c = λ r calls starts numbered keeps started.
    subst (AreNamed r (operations_of r calls) (λ need. [])) (sym c.new-names.ensures.items) (named_none r (operations_of r calls))

pub loop-request-preserved : goal.loop-request-preserved
loop-request-preserved g c = λ r calls starts numbered keeps started.
    named_more r calls c.args.requests.now c.loop-request.request-index _ _ _ c.loop-request-test.true c.in_ok-push_name.ensures
    (c.loop-request.invariant r calls starts numbered keeps started) (c.name_request-name.ensures r calls starts numbered keeps started)

pub returns : goal.returns
returns g c = λ r calls starts numbered keeps started.
    subst (λ (xs : List ℕ). AreNamed r (operations_of r calls) (λ need. request_needs r need calls xs) c.loop-request.names.items) (take_all c.loop-request.request-index c.args.requests.now c.loop-request-test.false)
    (c.loop-request.invariant r calls starts numbered keeps started)
