use Rattle.std.proofs.Common.{◌++◌, ◌∷◌, [], sym, subst}
use Rattle.must_entry.specs.Lawful.{IsLawful}
use Rattle.must_node.proofs.Sort.{knows_own, takes_ok}
use Rattle.must_node.proofs.node.Node.take.Goals as goal

pub returns : goal.returns
returns c = λ range root taken handed stands lawful.
    let b = c.args.batch in
    let own = subst (λ r. IsLawful r (taken ++ b ∷ [])) (sym stands.range_is) lawful in
    takes_ok c.receive.result c.args.self.now c.receive.new.self range root taken handed b stands c.receive.ensures.range (c.receive.ensures.settled taken (knows_own c.args.self.now range root taken handed stands) own) c.receive.ensures.ready
