use Rattle.std.proofs.Common.{subst}
use Rattle.must_parts.specs.Rows.{IsPendingLimit}
use Rattle.must_local.proofs.Buffering.{pending_first}
use Rattle.must_local.proofs.buffers.fault_at.Goals as goal

pub returns-in-TooWide : goal.returns-in-TooWide
returns-in-TooWide c = λ pending other reached. pending_first pending other c.args.call (subst (IsPendingLimit pending) c.in-TooWide.is reached)
