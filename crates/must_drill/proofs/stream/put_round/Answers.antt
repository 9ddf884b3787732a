use Rattle.std.proofs.Common.{◌+◌, sym, subst, arith}
use Rattle.must_format.specs.Spelling.{IsSpellable}
use Rattle.must_drill.proofs.Fits.{receive_fits, send_fits, wait_fits, sum_fits}
use Rattle.must_drill.proofs.stream.put_round.Goals as goal

pub put_call-requires : goal.put_call-requires
put_call-requires c =
    let r = c.args.round in
    subst IsSpellable (sym c.receive.ensures) (receive_fits 65536 r.count r.left 1 r.first (omega arith) (omega arith) (omega arith) (omega arith) (omega (arith, c.requires)))

pub put_call-requires-2 : goal.put_call-requires-2
put_call-requires-2 c =
    let r = c.args.round in
    subst IsSpellable (sym c.receive-2.ensures) (receive_fits 131072 r.count r.right 2 (r.first + 1) (omega arith) (omega arith) (omega arith) (omega arith) (omega (arith, c.requires)))

pub put_call-requires-3 : goal.put_call-requires-3
put_call-requires-3 c =
    let r = c.args.round in
    subst IsSpellable (sym c.send.ensures) (send_fits 196608 r.count r.left 2 (r.first + 2) (omega arith) (omega arith) (omega arith) (omega arith) (omega (arith, c.requires)))

pub put_call-requires-4 : goal.put_call-requires-4
put_call-requires-4 c =
    let r = c.args.round in
    subst IsSpellable (sym c.send-2.ensures) (send_fits 262144 r.sent r.right 1 (r.first + 3) (omega arith) (omega arith) (omega arith) (omega arith) (omega (arith, c.requires)))

pub put_call-requires-5 : goal.put_call-requires-5
put_call-requires-5 c =
    let r = c.args.round in
    subst IsSpellable (sym c.in_ok-wait.ensures) (wait_fits r.first r.left r.right c.requires (omega arith) (omega arith))

pub put_call-requires-6 : goal.put_call-requires-6
put_call-requires-6 c = subst IsSpellable (sym c.sum.ensures) (sum_fits c.args.round.count (omega arith))
