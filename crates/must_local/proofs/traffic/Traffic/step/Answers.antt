use Rattle.std.proofs.Common.{ℕ, length, sym, ap, subst, ◌∙◌}
use Rattle.must_rules.specs.Operations.{operations_at}
use Rattle.must_messages.specs.Asking.{AreBegun}
use Rattle.must_local.proofs.Buffering.{sees}
use Rattle.must_local.proofs.Contradicting.{status_rows}
use Rattle.must_local.proofs.Trading.{as_many}
use Rattle.must_local.proofs.traffic.Traffic.step.Goals as goal

pub returns-clause-rows : goal.returns-clause-rows
returns-clause-rows c = λ r calls rank number s numbered t.
    let call = c.args.call.now in
    let seen = sees r c.args.handles.now calls s in
    let on = c.named_by-on.ensures r calls s in
    let begun = subst (λ (n : ℕ). AreBegun n c.in_ok-begun.begun.items (operations_at r calls call)) (sym number) (c.in_ok-begun.ensures r calls rank number seen on t.requests) in
    status_rows r calls call c.args.at.rank c.args.at.call c.own_part.result c.in_ok-own.own c.args.rows.now c.step-2.new.rows c.add_own.new.rows rank number c.own_part.ensures (c.in_ok-own.ensures r calls seen on)
    (c.in_ok-step-2.ensures.rows r calls t.messages numbered begun) c.in_ok-add_own.ensures

pub returns-clause-stands : goal.returns-clause-stands
returns-clause-stands c = λ r calls rank number s numbered t.
    let call = c.args.call.now in
    let seen = sees r c.args.handles.now calls s in
    let on = c.named_by-on.ensures r calls s in
    let begun = subst (λ (n : ℕ). AreBegun n c.in_ok-begun.begun.items (operations_at r calls call)) (sym number) (c.in_ok-begun.ensures r calls rank number seen on t.requests) in
    record {
      requests = c.in_ok-take.ensures r calls seen on t.requests;
      messages = c.in_ok-step-2.ensures.keeps r calls t.messages numbered begun;
      needs = c.in_ok-step.ensures r calls rank number numbered seen t.messages (c.count_of-count.ensures ∙ ap length c.deref.ensures.value ∙ as_many (length calls) c.in_ok-begun.begun.items (operations_at r calls call) begun) t.needs;
    }

pub returns-clause-gives : goal.returns-clause-gives
returns-clause-gives c = λ r calls rank number s numbered t.
    let call = c.args.call.now in
    let seen = sees r c.args.handles.now calls s in
    let on = c.named_by-on.ensures r calls s in
    let begun = subst (λ (n : ℕ). AreBegun n c.in_ok-begun.begun.items (operations_at r calls call)) (sym number) (c.in_ok-begun.ensures r calls rank number seen on t.requests) in
    c.in_ok-step-2.ensures.gives r calls t.messages numbered begun
