use Rattle.must_parts.proofs.Clashing.{no_items, last_items, begun_none, begun_last}
use Rattle.must_parts.proofs.begin.+begin_all.Goals as goal

pub returns-in_default : goal.returns-in_default
returns-in_default t c = λ ops ps held all.
    begun_none c.args.parts.items ps c.args.pending.now ops c.args.call c.args.request (no_items c.args.parts.items c.pop.new.self.items c.pop.result _ _ _ c.in_default.is c.pop.ensures.items c.pop.ensures.rest c.pop.ensures.cases) held all

pub returns : goal.returns
returns t c = λ ops ps held all.
    begun_last c.args.parts.items c.pop.new.self.items c.in-Some.last ps c.args.pending.now c.begin_all.new.pending c.begin.new.pending ops c.args.call c.args.request
    (last_items c.args.parts.items c.pop.new.self.items c.pop.result c.in-Some.last c.in-Some.is c.pop.ensures.items) held all c.in_ok-begin_all.ensures c.in_ok-begin.ensures
