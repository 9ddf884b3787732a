use Rattle.must_p2p.proofs.Rows.{none_in, one_in, both_ways}
use Rattle.must_p2p.proofs.channels.in_order.Goals as goal

pub loop-row-init : goal.loop-row-init
loop-row-init c = λ f. none_in c.new-found.result c.args.rows.items c.sort_unstable_by.new.self.items f c.new-found.ensures c.sort_unstable_by.ensures.permutation

pub loop-row-preserved : goal.loop-row-preserved
loop-row-preserved c = λ f.
    both_ways (one_in c.loop-row.found c.add.new.self c.loop-row.rest.items c.pop.new.self.items c.in-Some.row f c.in-Some.ensures.items (c.in_ok-add.ensures.ok f)) (c.loop-row.invariant f)
