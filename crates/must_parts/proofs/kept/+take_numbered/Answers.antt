use Rattle.std.proofs.Common.{Option, Some, None, true, false, List, nat_eq, refl, subst}
use Rattle.std.proofs.lemmas.Bool.{eq-eqb, ne_eqb}
use Rattle.must_parts.specs.declared.placed.Placed.{Placed}
use Rattle.must_rules.specs.Parts.{numbered}
use Rattle.must_parts.specs.Placing.{IsPlacedOf, ArePlaced}
use Rattle.must_parts.proofs.Keeping.{found_last}
use Rattle.must_parts.proofs.Clashing.{last_items}
use Rattle.must_parts.proofs.kept.+take_numbered.Goals as goal

pub returns-in-Some-take_numbered : goal.returns-in-Some-take_numbered
returns-in-Some-take_numbered t c = λ ps all.
    found_last c.args.number c.pop.new.self.items c.in-Some.last ps (Some c.in-Some-take_numbered.first) (nat_eq c.in-Some.last.number c.args.number)
    (subst (λ (l : List Placed). ArePlaced l ps) (last_items c.args.parts.items c.pop.new.self.items c.pop.result c.in-Some.last c.in-Some.is c.pop.ensures.items) all)
    (λ qs each. subst (λ (o : Option Placed). IsPlacedOf o (numbered c.args.number qs)) c.in-Some-take_numbered.is (c.take_numbered.ensures qs each)) refl

pub returns-then-last-number : goal.returns-then-last-number
returns-then-last-number t c = λ ps all.
    found_last c.args.number c.pop.new.self.items c.in-Some.last ps None true
    (subst (λ (l : List Placed). ArePlaced l ps) (last_items c.args.parts.items c.pop.new.self.items c.pop.result c.in-Some.last c.in-Some.is c.pop.ensures.items) all)
    (λ qs each. subst (λ (o : Option Placed). IsPlacedOf o (numbered c.args.number qs)) c.in_default-take_numbered.is (c.take_numbered.ensures qs each)) (eq-eqb c.in-Some.last.number c.args.number c.if-last-number.true)

pub returns-else-last-number : goal.returns-else-last-number
returns-else-last-number t c = λ ps all.
    found_last c.args.number c.pop.new.self.items c.in-Some.last ps None false
    (subst (λ (l : List Placed). ArePlaced l ps) (last_items c.args.parts.items c.pop.new.self.items c.pop.result c.in-Some.last c.in-Some.is c.pop.ensures.items) all)
    (λ qs each. subst (λ (o : Option Placed). IsPlacedOf o (numbered c.args.number qs)) c.in_default-take_numbered.is (c.take_numbered.ensures qs each)) (ne_eqb c.in-Some.last.number c.args.number c.if-last-number.false)
