use Rattle.std.proofs.Common.{◌≡◌, subst, sym, ◌∙◌, ap, arith, get_or}
use Rattle.std.proofs.lemmas.List.{get_or_read}
use Rattle.must_type.specs.declared.facts.Facts.{Facts}
use Rattle.must_type.specs.Tree.{type_map}
use Rattle.must_type.specs.Facts.{facts_of, IsSettled, IsOf}
use Rattle.must_type.proofs.Rows.{Shared, facts_are_of, facts_settled, facts_depth}
use Rattle.must_type.proofs.forms.old_facts.Goals as goal

pub returns-clause-settled : goal.returns-clause-settled
returns-clause-settled c = subst IsSettled (sym c.facts.ensures.value) (facts_settled c.as_ref.result.now c.facts.ensures.makeable)

pub returns-clause-of : goal.returns-clause-of
returns-clause-of c = λ d.
    let at : c.as_ref.result.now ≡ (get_or c.args.olds.now c.args.i d).value = c.as_ref.ensures ∙ ap (λ (r : Shared). r.value) (get_or_read c.args.olds.now c.args.i c.index-olds-i.result c.requires c.index-olds-i.is d) in
    subst (IsOf (type_map (get_or c.args.olds.now c.args.i d).value)) (sym (c.facts.ensures.value ∙ ap facts_of at)) (facts_are_of (get_or c.args.olds.now c.args.i d).value)

pub returns-clause-shallow : goal.returns-clause-shallow
returns-clause-shallow c =
    let e = ap (λ (f : Facts). f.depth) c.facts.ensures.value ∙ facts_depth c.as_ref.result.now in
    omega (arith, e, c.facts.ensures.makeable.reach.shallow)
