use Rattle.std.proofs.Common.{false, refl, Some, None}
use Rattle.must_handle.proofs.Standing.{fresh_by}
use Rattle.must_handle.proofs.lives.fresh_slot.Goals as goal

pub returns-in-None : goal.returns-in-None
returns-in-None c = λ e. fresh_by c.args.call.now c.args.k c.args.slots.now c.args.class None c.unless_persistent-start.result false c.makes_persistent-persistent.result c.in-None.ensures refl c.makes_persistent-persistent.ensures c.unless_persistent-start.ensures e

pub returns-in-Some : goal.returns-in-Some
returns-in-Some c = λ e. fresh_by c.args.call.now c.args.k c.args.slots.now c.args.class (Some c.in-Some.old) c.unless_persistent-start.result c.has_committed-committed.result c.makes_persistent-persistent.result c.in-Some.ensures c.has_committed-committed.ensures c.makes_persistent-persistent.ensures c.unless_persistent-start.ensures e
