use Rattle.must_base.proofs.Found.{shows_named}
use Rattle.must_base.proofs.trace.MemTraceTrace.bind.Goals as goal

pub returns-clause-parts : goal.returns-clause-parts
returns-clause-parts c = rw (c.in_ok-parts.ensures, c.deref.ensures.value, ← c.self.view_is) (shows_named _ c.args.wanted.now)
