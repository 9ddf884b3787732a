use Rattle.std.proofs.Common.{sym, ◌∙◌, true}
use Rattle.std.proofs.lemmas.Result.{IfOk-weaker}
use Rattle.must_messages.specs.CallNeeds.{clear_ways, ways_by}
use Rattle.must_needs.proofs.Stepping.{clear_by, ways_same, none_waited}
use Rattle.must_needs.proofs.waits.ways_at.Goals as goal

pub returns-then-next : goal.returns-then-next
returns-then-next g c = IfOk-weaker c.clear_ways.result _ _ (λ ways is. λ r calls len clear starts numbered keeps started begun waits.
    let call = c.args.call.now in
    ways_same r _ (λ need. clear_ways r need calls call call.body) (λ need. ways_by r need calls call) ways
    (λ need. sym (clear_by r calls call need true (sym c.if-next.true ∙ clear))) (is r calls len starts numbered keeps started begun waits)) c.clear_ways.ensures

pub returns-else-next : goal.returns-else-next
returns-else-next g c = λ r calls len clear starts numbered keeps started begun waits.
    none_waited r calls c.args.call.now _ c.new.ensures.items (sym clear ∙ c.if-next.false)
