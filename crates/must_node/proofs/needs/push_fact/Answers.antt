use Rattle.std.proofs.Common.{◌≡◌, ◌++◌, ◌∷◌, [], None, refl, sym, ap, subst, arith}
use Rattle.must_entry.specs.Entries.{Waits}
use Rattle.must_wait.specs.Needs.{calls_of, needs_of}
use Rattle.must_node.specs.declared.fact.Fact.{Fact}
use Rattle.must_node.specs.declared.fact.Fact.TheVariants.{Need}
use Rattle.must_node.specs.RunNeeds.{call_needs, ranks_from}
use Rattle.must_node.proofs.Pushing.{push_nothing, push_one, ends_before, no_call}
use Rattle.must_node.proofs.needs.push_fact.Goals as goal

pub returns-then-place-ranks-clause-needs : goal.returns-then-place-ranks-clause-needs
returns-then-place-ranks-clause-needs c = λ all some size s shared e.
    let m = c.in-Need in
    let w : Waits = record { place = m.place; ways = m.ways } in
    let rows = c.args.sharing.now.rows.needs in
    subst (λ (f : Fact). rows ≡ ranks_from c.args.strict all (some ++ f ∷ []) 0 size) (sym m.is) (push_nothing c.args.strict all some (Need m.place m.ways) w rows size refl e (omega (arith, c.ranks.ensures, c.if-place-ranks.true)))

pub push_call-requires-clause-calls : goal.push_call-requires-clause-calls
push_call-requires-clause-calls c =
    let rows = c.args.sharing.now.rows.needs in
    let rank = c.in-Need.place.rank in
    let none : needs_of rows rank 2147483647 ≡ None = no_call c.needs.result (needs_of rows rank 2147483647) c.is_some.result c.needs.ensures c.is_some.ensures c.if-is_some.false in
    let ends = ends_before (calls_of rows rank) 2147483647 none in
    omega (arith, ends)

pub returns-in_ok-push_call-in-Need-clause-needs : goal.returns-in_ok-push_call-in-Need-clause-needs
returns-in_ok-push_call-in-Need-clause-needs c = λ all some size s shared e.
    let m = c.in-Need in
    let w : Waits = record { place = m.place; ways = m.ways } in
    let old = c.args.sharing.now.rows.needs in
    let new = c.push_call.new.self.rows.needs in
    subst (λ (f : Fact). new ≡ ranks_from c.args.strict all (some ++ f ∷ []) 0 size) (sym m.is)
    (push_one c.args.strict all some (Need m.place m.ways) w old new size (call_needs c.args.strict all c.items.result.now) refl e (omega (arith, c.ranks.ensures, c.if-place-ranks.false)) (ap (call_needs c.args.strict all) c.items.ensures)
    (c.in_ok-push_call-in-Need.ensures.needs all s shared))
