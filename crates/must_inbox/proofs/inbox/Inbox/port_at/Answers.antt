use Rattle.std.proofs.Common.{rules, List, length, ap, sym, subst, ◌∙◌}
use Rattle.std.proofs.lemmas.List.{length-append}
use Rattle.must_entry.specs.declared.range.RankRange.{RankRange}
use Rattle.must_inbox.specs.Children.{IsApartFrom, IsOrderly}
use Rattle.must_inbox.specs.Rule.{got_of}
use Rattle.must_inbox.proofs.Steps.{forks, view_grown}
use Rattle.must_inbox.proofs.inbox.Inbox.port_at.Goals as goal

pub another-pass-requires-clause-rule : goal.another-pass-requires-clause-rule
another-pass-requires-clause-rule g c =
    let ranges = ap (λ s. s.ranges) c.taker.view_is in
    let range = c.requires.range in
    forks _ g.K.Given.range c.taker.invariant.taking (subst (λ (p : List RankRange × RankRange). IsApartFrom p.0 p.1) (λ i. (sym ranges i, range i)) c.requires.apart) _

pub invariant_of-taker : goal.invariant_of-taker
invariant_of-taker g c =
    let ranges = ap (λ s. s.ranges) c.taker.view_is in
    let range = c.requires.range in
    let new = subst (λ (p : List RankRange × RankRange). IsApartFrom p.0 p.1) (λ i. (sym ranges i, range i)) c.requires.apart in
    let view = view_grown g.K.Given.range _ c.another-pass.new.pass.me.view.client c.another-pass.ensures.rule.0 c.taker.invariant.taking new c.taker.invariant.orderly in
    record { taking = view.0; hand = search rules; spare = search rules; given = search (rules, length-append); few = search rules; orderly = subst (λ (l : List RankRange). IsOrderly l (got_of c.another-pass.new.pass.me.view.client)) (sym view.1) view.2 }
