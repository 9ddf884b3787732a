use Rattle.std.proofs.Common.{rules, List, length, ap, sym, subst, ◌∙◌}
use Rattle.must_entry.specs.declared.range.RankRange.{RankRange}
use Rattle.must_inbox.specs.Children.{IsOrderly}
use Rattle.must_inbox.specs.Rule.{got_of}
use Rattle.must_inbox.proofs.Steps.{merges, view_joined}
use Rattle.must_inbox.proofs.inbox.Inbox.join.Goals as goal

pub absorb-requires-clause-rule : goal.absorb-requires-clause-rule
absorb-requires-clause-rule c = merges _ _ c.taker.invariant.taking c.port.invariant.sending _ _

pub invariant_of-taker : goal.invariant_of-taker
invariant_of-taker c =
    let view = view_joined _ _ _ c.absorb.ensures.rule c.taker.invariant.taking c.taker.invariant.orderly in
    record { taking = view.0; hand = search rules; spare = search rules; given = c.taker.invariant.given ∙ ap length (sym view.1); few = c.taker.invariant.few; orderly = subst (λ (l : List RankRange). IsOrderly l (got_of c.absorb.new.pass.me.view.client)) (sym view.1) view.2 }
