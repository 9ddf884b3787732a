use Rattle.std.proofs.Common.{◌≡◌, ◌≤◌, ◌+◌, ℕ, ◌<◌, length, slice_index}
use Rattle.must_wait.specs.Needs.{calls_of}
use Rattle.must_wait.specs.Shared.{coded}
use Rattle.must_wait.proofs.worklist.Worklist.start.Given as goal

abbrev pub invariant-loop-rank : goal.invariant-loop-rank
invariant-loop-rank l = record {
  firsts : length l.first.items ≡ l.rank;
  slots : (rank : ℕ) → rank < l.rank → slice_index l.first.items rank + length (calls_of (coded l.rows) rank) ≤ length l.watches.items;
}

abbrev pub invariant-loop-call : goal.invariant-loop-call
invariant-loop-call l = length l.watches.items ≡ length l.initial.watches.items + l._call
