use Rattle.std.proofs.Common.{[], ◌∷◌}
use Rattle.std.proofs.lemmas.Result.{IfOk-weaker}
use Rattle.must_messages.specs.CallNeeds.{wave_wants, clear_ways}
use Rattle.must_needs.proofs.Stepping.{ways_later, ways_same, wave_need}
use Rattle.must_needs.proofs.waits.clear_ways.Goals as goal

pub returns-in-Finish : goal.returns-in-Finish
returns-in-Finish g c = IfOk-weaker c.finish_ways.result _ _ (λ ways is. λ r calls len starts numbered keeps started begun waits.
    let call = c.args.call.now in
    ways_later r calls call (λ need. clear_ways r need calls call call.body) ways (is r calls call c.in-Finish.is starts numbered keeps started)) c.finish_ways.ensures

pub returns-in-Object : goal.returns-in-Object
returns-in-Object g c = IfOk-weaker c.wave_ways.result _ _ (λ ways is. λ r calls len starts numbered keeps started begun waits.
    let call = c.args.call.now in
    ways_later r calls call (λ need. clear_ways r need calls call call.body) ways
    (ways_same r _ (λ need. wave_wants r calls call ∷ []) (λ need. clear_ways r need calls call call.body) ways (λ need. wave_need r calls call need c.in-Object.is) (is r calls call len waits))) c.wave_ways.ensures
