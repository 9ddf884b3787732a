use Rattle.std.proofs.Common.{◌≡◌, ◌++◌, map}
use Rattle.must_wait.specs.Ways.{number_of, places_of}
use Rattle.must_wait.proofs.shared.SharedRows.push.Given as goal

abbrev pub invariant-loop-way : goal.invariant-loop-way
invariant-loop-way l = record {
  needs : l.needs.items ≡ map (places_of l.self.lists) l.yielded;
  numbers : l.numbers.items ≡ map number_of l.yielded;
  left : l.fn.ways.items ≡ l.yielded ++ l.way-iterator.rest.items;
}
