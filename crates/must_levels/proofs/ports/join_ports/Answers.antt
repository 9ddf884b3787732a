use Rattle.std.proofs.Common.{◌≡◌, ◌∷◌, ◌++◌, List, sym, ap, ◌∙◌}
use Rattle.std.specs.Vec.Iter.{into_iter_items}
use Rattle.must_inbox.specs.States.{PortState}
use Rattle.must_levels.proofs.PortLists.{inbox_of}
use Rattle.must_levels.proofs.ports.join_ports.Goals as goal

pub join-requires-clause-port : goal.join-requires-clause-port
join-requires-clause-port g c =
    let ys : List PortState = c.loop-port.yielded in
    let rest : List PortState = into_iter_items c.next.new.self in
    let whole : ys ++ c.in-Some.port ∷ rest ≡ c.args.ports.items = ap (λ (l : List PortState). ys ++ l) (sym c.in-Some.ensures.steps.0) ∙ c.loop-port.invariant.all in
    ap (λ (s : PortState). s.inbox) c.into_port.ensures ∙ inbox_of c.args.inbox.now ys c.in-Some.port rest c.args.ports.items whole c.requires.1
