use Rattle.std.proofs.Common.{◌≡◌, ℕ, List, map, ap, sym, ◌∙◌, subst}
use Rattle.must_messages.specs.CallNeeds.{Need as Alternative, operation_need}
use Rattle.must_rules.specs.Operations.{operations_of}
use Rattle.must_hold.specs.Ended.{need_seen}
use Rattle.must_local.proofs.Trading.{end_given}
use Rattle.must_local.proofs.traffic.Traffic.finish.Goals as goal

pub returns-clause-gives : goal.returns-clause-gives
returns-clause-gives c = λ r calls rank numbered t.
    let told = c.in_ok-outcomes.ensures.needs r calls t.messages in
    let here : map (need_seen c.args.rank) c.in_ok-outcomes.outcomes.items ≡ map (operation_need r calls) (operations_of r calls) =
    subst (λ (n : ℕ). map (need_seen n) c.in_ok-outcomes.outcomes.items ≡ map (operation_need r calls) (operations_of r calls)) rank told in
    end_given r calls _ _ _ (c.in_ok-outcomes.ensures.gives r calls t.messages) (c.in_ok-finish.ensures r calls rank t.needs (ap (map (need_seen c.args.rank)) c.deref.ensures.value ∙ here))

pub returns-clause-rows : goal.returns-clause-rows
returns-clause-rows c = λ r calls numbered t. c.in_ok-outcomes.ensures.rows r calls t.messages
