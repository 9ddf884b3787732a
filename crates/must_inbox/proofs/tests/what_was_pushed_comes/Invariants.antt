use Rattle.std.proofs.Common.{◌≡◌, true}
use Rattle.std.specs.List.{AllByRecursion}
use Rattle.must_entry.specs.Lawful.{in_range}
use Rattle.must_inbox.specs.Rows.{HasRows}
use Rattle.must_inbox.proofs.tests.what_was_pushed_comes.Given as goal

abbrev pub invariant-pushes : goal.invariant-pushes
invariant-pushes g l = record { inbox : l.port.inbox ≡ l.inbox; range : in_range l.port.range 0 ≡ true; rows : AllByRecursion (HasRows 0) l.port.sent }

abbrev pub invariant-takes : goal.invariant-takes
invariant-takes g l = l.taker.inbox ≡ l.inbox
