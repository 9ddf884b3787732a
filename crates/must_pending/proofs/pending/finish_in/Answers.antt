use Rattle.std.proofs.Common.{◌<◌, arith, length}
use Rattle.must_pending.proofs.GroupLaws.{finishing_step, finishing_end, group_weight}
use Rattle.must_pending.proofs.pending.finish_in.Goals as goal

pub finish-done-requires : goal.finish-done-requires
finish-done-requires c =
    let was = c.args.groups.now.items in
    let i = c.loop-i.i in
    let within : i < length was = omega (arith, c.loop-i-test.true, c.len-i-end.ensures) in
    let w = group_weight was c.loop-i.groups.items c.args.request i c.loop-i.done c.index_mut.result.now c.loop-i.invariant within c.index_mut.ensures.value in
    omega (arith, w, c.requires)

pub overflow_add-done : goal.overflow_add-done
overflow_add-done c =
    let was = c.args.groups.now.items in
    let i = c.loop-i.i in
    let within : i < length was = omega (arith, c.loop-i-test.true, c.len-i-end.ensures) in
    let g = c.index_mut.result.now in
    let w = group_weight was c.loop-i.groups.items c.args.request i c.loop-i.done g c.loop-i.invariant within c.index_mut.ensures.value in
    omega (arith, w, c.loop-i.invariant.weight, c.finish-done.ensures.weight, c.requires)

pub loop-i-preserved : goal.loop-i-preserved
loop-i-preserved c =
    let was = c.args.groups.now.items in
    let i = c.loop-i.i in
    let within : i < length was = omega (arith, c.loop-i-test.true, c.len-i-end.ensures) in
    finishing_step was c.loop-i.groups.items c.args.request i c.loop-i.done c.finish-done.result c.index_mut.result.now c.finish-done.new.self c.loop-i.invariant within c.index_mut.ensures.value c.finish-done.ensures.left c.finish-done.ensures.weight

pub returns-clause-left : goal.returns-clause-left
returns-clause-left c = (finishing_end c.args.groups.now.items c.loop-i.groups.items c.args.request c.loop-i.i c.loop-i.done (omega (arith, c.loop-i-test.false, c.len-i-end.ensures, c.loop-i.invariant.number)) c.loop-i.invariant).0

pub returns-clause-weight : goal.returns-clause-weight
returns-clause-weight c = (finishing_end c.args.groups.now.items c.loop-i.groups.items c.args.request c.loop-i.i c.loop-i.done (omega (arith, c.loop-i-test.false, c.len-i-end.ensures, c.loop-i.invariant.number)) c.loop-i.invariant).1
