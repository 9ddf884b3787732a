use Rattle.std.proofs.Common.{◌≡◌, ℕ, sym, ap, ◌∙◌, rules, Some, inl}
use Rattle.std.specs.Ordering.{is_eq}
use Rattle.std.specs.BTreeMap.{BTreeMap}
use Rattle.must_coll.specs.declared.names.Handle.{Handle}
use Rattle.must_coll.specs.declared.names.Names.{Names}
use Rattle.std.specs.BTreeMap as tree
use Rattle.must_coll.specs.Numbering.{handle_of, handle_cmp}
use Rattle.must_coll.proofs.Named.{Got, handle_number, knows_more, knows_push}
use Rattle.must_coll.proofs.names.Names.number.Goals as goal

pub returns-in-Some-clause-knows : goal.returns-in-Some-clause-knows
returns-in-Some-clause-knows c = λ items known o. knows_more c.args.self.now items c.args.item.now known

pub returns-in-Some-clause-number : goal.returns-in-Some-clause-number
returns-in-Some-clause-number c = λ items known o.
    let e : tree.get handle_cmp c.args.self.now.handles (handle_of c.args.item.now) ≡ Some c.in-Some.number.now = search rules in
    handle_number c.args.self.now items c.args.item.now c.in-Some.number.now known o e

pub returns-in-Some-clause-old_or_new : goal.returns-in-Some-clause-old_or_new
returns-in-Some-clause-old_or_new c = λ items known o.
    let e : tree.get handle_cmp c.args.self.now.handles (handle_of c.args.item.now) ≡ Some c.in-Some.number.now = search rules in
    inl (handle_number c.args.self.now items c.args.item.now c.in-Some.number.now known o e)

pub returns-clause-knows : goal.returns-clause-knows
returns-clause-knows c = λ items known o.
    let x = c.args.item.now in
    let i = c.in_ok-number.number in
    let old = c.args.self.now in
    let new : Names = record { met = c.by_name.new.self.met; handles = c.insert.new.self; count = c.by_name.new.self.count } in
    let got : Got old new x.name i = record { number = c.in_ok-number.ensures.number; others = c.by_name.ensures.others; old_or_new = c.in_ok-number.ensures.old_or_new } in
    let here : tree.get handle_cmp c.insert.new.self (handle_of x) ≡ Some i = ap (λ (h : Handle). tree.get handle_cmp c.insert.new.self h) (sym c.handle-handle.ensures) ∙ c.in_ok-insert.ensures.updates.1 in
    knows_push old new items x i known got here (λ other apart.
    c.in_ok-insert.ensures.updates.2 other (ap (λ (h : Handle). is_eq (handle_cmp h other)) c.handle-handle.ensures ∙ apart)
    ∙ ap (λ (m : BTreeMap Handle ℕ). tree.get handle_cmp m other) c.by_name.ensures.handles)
