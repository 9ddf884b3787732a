use Rattle.std.proofs.Common.{◌≡◌, [], rules, List, length, ap, sym, subst, ◌∙◌}
use Rattle.must_entry.specs.declared.range.RankRange.{RankRange}
use Rattle.must_inbox.specs.Children.{IsOrderly}
use Rattle.must_inbox.specs.Rule.{got_of, Empties}
use Rattle.crossbeam_queue.specs.declared.seg_queue.Stage.TheVariants.{Idle}
use Rattle.must_inbox.proofs.Steps.{takes, empties, view_popped}
use Rattle.must_inbox.proofs.inbox.Inbox.take.Goals as goal

pub pop_as-requires-clause-rule : goal.pop_as-requires-clause-rule
pop_as-requires-clause-rule g c = (takes _ c.taker.invariant.taking _, empties _ c.taker.invariant.taking _)

pub invariant_of-taker : goal.invariant_of-taker
invariant_of-taker g c =
    let view = view_popped (Empties c.taker.inside.pass.me.view.client []) (λ _. c.pop_as.new.pass.me.view.stage ≡ Idle) _ _ c.pop_as.result c.pop_as.ensures.rule c.taker.invariant.taking c.taker.invariant.orderly in
    record { taking = view.0; hand = search rules; spare = search rules; given = c.taker.invariant.given ∙ ap length (sym view.1); few = c.taker.invariant.few; orderly = subst (λ (l : List RankRange). IsOrderly l (got_of c.pop_as.new.pass.me.view.client)) (sym view.1) view.2 }
