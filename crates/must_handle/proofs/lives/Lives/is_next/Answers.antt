use Rattle.std.proofs.Common.{length, ap, arith}
use Rattle.must_handle.proofs.Standing.{next_seen}
use Rattle.must_handle.proofs.lives.Lives.is_next.Goals as goal

pub returns-clause-next : goal.returns-clause-next
returns-clause-next c = λ h. next_seen c.args.self.now c.args.call.now c.made.result _ c.has_number.result c.made.ensures (omega (arith, ap length c.self.view_is)) c.has_number.ensures h
