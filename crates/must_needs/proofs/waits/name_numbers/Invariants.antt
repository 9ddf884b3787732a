use Rattle.std.proofs.Common.{◌≡◌, ◌+◌}
use Rattle.must_needs.specs.Stating.{numbers_from}
use Rattle.must_needs.proofs.waits.name_numbers.Given as goal

abbrev pub invariant-loop : goal.invariant-loop
invariant-loop l = (l.number ≡ l.first + l.counter) × (l.names.items ≡ numbers_from l.first l.counter)
