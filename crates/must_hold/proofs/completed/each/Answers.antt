use Rattle.std.proofs.Common.{◌+◌, sym, ◌∙◌, arith}
use Rattle.must_hold.proofs.Recording.{each_next, no_status}
use Rattle.must_hold.proofs.completed.each.Goals as goal

pub returns-in_default-status_at : goal.returns-in_default-status_at
returns-in_default-status_at c = no_status c.args.requests.now c.args.statuses.now c.loop-i.i c.loop-i.told.items c.loop-i.invariant (sym c.status_at.ensures ∙ c.in_default-status_at.is)

pub loop-i-preserved : goal.loop-i-preserved
loop-i-preserved c =
    each_next c.args.requests.now c.args.statuses.now c.loop-i.i (c.loop-i.i + 1) c.loop-i.told.items c.push.new.self.items (record { index = c.in_ok-index.index; request = c.in-Some.request; status = c.in-Some-status_at.status })
    (sym c.request_at.ensures ∙ c.in-Some.is) (sym c.status_at.ensures ∙ c.in-Some-status_at.is) c.in_ok-index.ensures (omega arith) c.in_ok-push.ensures.items c.loop-i.invariant
