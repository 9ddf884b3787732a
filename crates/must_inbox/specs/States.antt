-- What contracts see of a taker and of a port (docs/THREADS.md, "Who holds what").
use Rattle.std.specs.Prelude.{ℕ, List}
use Rattle.std.specs.declared.alloc.Global.{Global}
use Rattle.crossbeam_queue.specs.SegTies.{SegId}
use Rattle.must_entry.specs.declared.range.RankRange.{RankRange}
use Rattle.must_entry.specs.declared.batch.Batch.{Batch}

-- The inbox that it takes from; the ranges of the ports that were given, by their numbers; the number and the sent list of each
-- joined child; and what was taken, each with its child's number, in order.
pub record TakerState : Type 0 where
  pub inbox : SegId Global
  pub ranges : List RankRange
  pub joined : List (ℕ × List Batch)
  pub got : List (ℕ × Batch)

-- the inbox that it pushes into, the child's number and range, and all that the child sent, in order
pub record PortState : Type 0 where
  pub inbox : SegId Global
  pub number : ℕ
  pub range : RankRange
  pub sent : List Batch
