use Rattle.must_group.proofs.Looked.{found}
use Rattle.must_group.proofs.lookup.Lookup.contains.Goals as goal

pub returns : goal.returns
returns c =
    let position = rw c.deref.ensures.value at c.binary_search.ensures.position in
    rw (c.is_ok.ensures.value, ← c.self.view_is) (found c.self.inside.rising.items c.args.rank c.binary_search.result position c.self.invariant)
