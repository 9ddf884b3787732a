use Rattle.std.proofs.Common.{sym, ◌∙◌, arith, ◌≡◌, ◌+◌, take, eq-eqb, true, false}
use Rattle.must_pending.specs.Clashes.{without, weight_of}
use Rattle.must_pending.proofs.FirstLaws.{weight_more, weight_room, other_request}
use Rattle.must_pending.proofs.group.request_weight.Goals as goal
use Rattle.must_pending.proofs.group.request_weight.Goals.{then-request, else-request}

pub overflow_add-done : goal.overflow_add-done
overflow_add-done c =
    let room = weight_room c.args.operations.now c.loop-placed.placed-index c.placed-item.result c.loop-placed-test.true c.placed-item.is in
    let told : c.loop-placed.done + weight_of (without c.args.request (take c.loop-placed.placed-index c.args.operations.now)) ≡ weight_of (take c.loop-placed.placed-index c.args.operations.now) = c.loop-placed.invariant in
    omega (arith, room, told, c.requires)

pub loop-placed-preserved : goal.loop-placed-preserved
loop-placed-preserved c =
    let hs = c.args.operations.now in
    let i = c.loop-placed.placed-index in
    let h = c.placed-item.result in
    let r = c.args.request in
    elim c.if-request.branch [
      | then-request w ↦ rw (w.done-is, w.weight-done.ensures) (weight_more hs i h r c.loop-placed.done true c.loop-placed-test.true c.placed-item.is (eq-eqb h.request r (sym c.request.ensures ∙ w.if-request.true)) c.loop-placed.invariant)
      | else-request w ↦
          let more = weight_more hs i h r c.loop-placed.done false c.loop-placed-test.true c.placed-item.is (other_request h.request r (λ e. w.if-request.false (c.request.ensures ∙ e))) c.loop-placed.invariant in
          rw w.done-is (omega (arith, more))
    ]
