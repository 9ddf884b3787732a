use Rattle.std.proofs.Common.{◌+◌, length}
use Rattle.must_wait.specs.Dropping.{core_state, AllWaysHeld, HasWays, IsCoreReady}
use Rattle.must_wait.specs.Keeping.{IsKeptSome, kept_count}
use Rattle.must_wait.specs.Shared.{coded}
use Rattle.must_wait.proofs.dropping.kept_calls.Given as goal

abbrev pub invariant-loop-rank : goal.invariant-loop-rank
invariant-loop-rank l = record {
  ready : IsCoreReady (coded l.rows) (core_state l.list);
  held : AllWaysHeld (coded l.rows) (core_state l.list);
  ways : HasWays (coded l.rows) l.list.kept.items;
  kept : IsKeptSome (coded l.rows) l.blocked l.list.kept.items;
}

abbrev pub decreases-loop-rank : goal.decreases-loop-rank
decreases-loop-rank l = length l.list.dropped.items + kept_count l.list.kept.items
