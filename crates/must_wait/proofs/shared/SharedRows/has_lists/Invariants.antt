use Rattle.std.proofs.Common.{◌≡◌, ◌<◌, ℕ, Some, get_or}
use Rattle.must_wait.specs.declared.way.Way.{Way}
use Rattle.must_wait.specs.Ways.{number_of}
use Rattle.must_wait.proofs.shared.SharedRows.has_lists.Given as goal

abbrev pub invariant-loop-way : goal.invariant-loop-way
invariant-loop-way l = (k : ℕ) (d : Way) (number : ℕ) → k < l.way-index → number_of (get_or l.ways k d) ≡ Some number → number < l.count
