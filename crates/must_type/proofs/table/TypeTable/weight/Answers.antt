use Rattle.std.proofs.Common.{◌≡◌, ◌∙◌, subst, sym, ap, Some}
use Rattle.must_type.specs.declared.facts.Facts.{Facts}
use Rattle.must_type.specs.Weights.{weigh}
use Rattle.must_type.specs.Tree.{TypeTree}
use Rattle.must_type.specs.Table.{message_weight}
use Rattle.must_type.specs.Facts.{IsSettled, weighed_facts}
use Rattle.must_type.proofs.Rows.{facts_settled}
use Rattle.must_type.proofs.Weights.{weighed_is}
use Rattle.must_type.proofs.table.TypeTable.weight.Goals as goal

pub weigh-requires : goal.weigh-requires
weigh-requires c = record { settled = subst IsSettled (sym c.facts.ensures.value) (facts_settled c.tree.result.now c.facts.ensures.makeable) }

same_tree : (t u : TypeTree) → Some t ≡ Some u → t ≡ u
same_tree t u e = cc

pub returns : goal.returns
returns c = λ t e.
    let same = same_tree c.tree.result.now t (sym c.tree.ensures ∙ e) in
    c.weigh.ensures.value ∙ ap (λ (f : Facts). weigh c.args.count (weighed_facts f)) c.facts.ensures.value ∙ ap (weigh c.args.count) (weighed_is c.tree.result.now) ∙ ap (message_weight c.args.count) same
