use Rattle.must_entry.specs.Entries.{entries_of}
use Rattle.must_node.specs.Inner.{inner}
use Rattle.must_node.proofs.Sort.{knows_batch}
use Rattle.must_node.proofs.node.Node.receive.Goals as goal

pub returns-then-self-clause-settled : goal.returns-then-self-clause-settled
returns-then-self-clause-settled c = λ h st lawful.
    let s = c.args.self.now in
    knows_batch c.sort_out.new.settled s.root s.range h c.args.batch c.into_vec.result.items c.into_vec.ensures (c.in_ok-left.ensures.inner (inner s.root s.range (entries_of h)) st) lawful

pub returns-clause-settled : goal.returns-clause-settled
returns-clause-settled c = λ h st lawful.
    let s = c.args.self.now in
    knows_batch c.sort_out.new.settled s.root s.range h c.args.batch c.into_vec.result.items c.into_vec.ensures (c.in_ok-left.ensures.inner (inner s.root s.range (entries_of h)) st) lawful
