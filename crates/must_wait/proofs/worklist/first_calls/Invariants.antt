use Rattle.std.proofs.Common.{◌≡◌, ℕ, ◌<◌, true}
use Rattle.std.specs.Option.{is_some}
use Rattle.must_wait.specs.Needs.{needs_of}
use Rattle.must_wait.specs.Watching.{HasPlace}
use Rattle.must_wait.specs.Shared.{coded}
use Rattle.must_wait.proofs.worklist.first_calls.Given as goal

abbrev pub invariant-loop-rank : goal.invariant-loop-rank
invariant-loop-rank l = record {
  all : (rank : ℕ) → rank < l.rank → is_some (needs_of (coded l.rows) rank 0) ≡ true → HasPlace l.calls.items rank 0;
  calls : (rank call : ℕ) → HasPlace l.calls.items rank call → (call ≡ 0) × (is_some (needs_of (coded l.rows) rank call) ≡ true);
}
