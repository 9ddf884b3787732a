use Rattle.std.proofs.Common.{◌≡◌}
use Rattle.std.specs.List.{AllByRecursion}
use Rattle.must_inbox.specs.Rows.{HasRows}
use Rattle.must_inbox.proofs.tests.send_rows.Given as goal

abbrev pub invariant-loop-call : goal.invariant-loop-call
invariant-loop-call g l = record { port : l.port ≡ record l.fn.port { sent = l.port.sent }; rows : AllByRecursion (HasRows l.fn.rank) l.port.sent }
