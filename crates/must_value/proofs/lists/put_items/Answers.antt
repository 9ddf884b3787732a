use Rattle.std.proofs.lemmas.Result.{err_from_is_err_and}
use Rattle.must_value.proofs.Fronts.{items_front}
use Rattle.must_value.proofs.lists.put_items.Goals as goal

pub returns-in_err-put-clause-front : goal.returns-in_err-put-clause-front
returns-in_err-put-clause-front g c =
    let p = err_from_is_err_and c.from_residual.result c.from_residual.ensures.1 in
    rw p.1 (items_front g.T.Coded.text c.args.items.now c.loop-item.item-index c.item-item.result c.args.out.now.items c.loop-item.out.items c.put.new.out.items c.loop-item-test.true c.item-item.is c.loop-item.invariant c.in_err-put.ensures.front)
