use Rattle.std.proofs.Common.{◌≡◌, [], ◌∷◌, ◌++◌, refl, sym, ap, subst, ◌∙◌}
use Rattle.must_group.specs.Names.{Name}
use Rattle.must_node.specs.declared.fact.Fact.{Fact}
use Rattle.must_node.specs.declared.fact.Fact.TheVariants.{Wave}
use Rattle.must_node.specs.declared.keys.Call.{Call}
use Rattle.must_node.specs.Partners.{item_of, call_of, need_of}
use Rattle.must_node.specs.Indexed.{listed, Stands}
use Rattle.must_node.proofs.Indexing.{adds_item, adds_call}
use Rattle.must_node.proofs.index.Index.add.Goals as goal

pub returns-in_ok-add_item-in-Some : goal.returns-in_ok-add_item-in-Some
returns-in_ok-add_item-in-Some c = λ facts s.
    let f = c.args.fact.now in
    let x = c.in-Some.item in
    let is : item_of f ≡ x ∷ [] = sym c.in_ok-item-in-Message.ensures ∙ ap listed c.in-Some.is in
    let e = c.in_ok-add_item-in-Some.ensures in
    adds_item c.args.self.now c.add_item.new.self facts f x is (ap call_of c.in-Message.is) (ap need_of c.in-Message.is) e.items e.sends e.receives e.rest s

pub returns-in_ok-add_call-in-Wave : goal.returns-in_ok-add_call-in-Wave
returns-in_ok-add_call-in-Wave c = λ facts s.
    let m = c.in-Wave in
    let f : Fact = Wave m.name m.comm m.number m.place in
    let call : Name → Call = λ n. record { place = m.place; number = m.number; name = n } in
    let name = c.in_ok-copy-in-Wave.field-0 in
    let is : call_of f ≡ call name ∷ [] = ap (λ (n : Name). call n ∷ []) (sym c.in_ok-copy-in-Wave.ensures) in
    let e = c.in_ok-add_call-in-Wave.ensures in
    subst (λ (g : Fact). Stands c.add_call.new.self (facts ++ g ∷ [])) (sym m.is) (adds_call c.args.self.now c.add_call.new.self facts f (call name) refl is refl e.calls e.members e.items s)
