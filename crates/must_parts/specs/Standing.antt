-- What the buffers of a rank stand for.
use Rattle.std.specs.Prelude.{List}
use Rattle.must_call.specs.declared.call.Call.{Call}
use Rattle.must_rules.specs.Rank.{Rank}
use Rattle.must_rules.specs.PendingOperations.{pending}
use Rattle.must_parts.specs.Holding.{AreHeld}
use Rattle.must_parts.specs.Keeping.{AreKept}
use Rattle.must_parts.specs.declared.buffers.Buffers.{Buffers}

-- the operations that are pending after these calls, and the parts of the persistent requests that are live then
pub record Stands (r : Rank) (calls : List Call) (buffers : Buffers) : Type 0 where
  pub held : AreHeld buffers.pending (pending r calls)
  pub kept : AreKept buffers.kept r calls
