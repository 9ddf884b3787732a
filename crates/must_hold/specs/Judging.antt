-- How completions are judged by what a table holds.
use Rattle.std.specs.Prelude.{◌≡◌, ℕ, ℤ, List, Some}
use Rattle.must_call.specs.declared.call.Call.{Call}
use Rattle.must_rules.specs.Rank.{Rank}
use Rattle.must_rules.specs.Numbered.{AreNumbered}
use Rattle.must_rules.specs.Operations.{operations_of}
use Rattle.must_rules.specs.Fates.{Completed}
use Rattle.must_rules.specs.Statuses.{completed_wrongly}
use Rattle.must_hold.specs.declared.table.Table.{Table}
use Rattle.must_hold.specs.Queue.{Holds}
use Rattle.must_hold.specs.Told.{Wrong}

-- the table holds the operations of a rank, and this is what S1 says of completions behind its calls
pub record Judges (wrong : Wrong) (table : Table) (rank : ℕ) (tag_ub : ℤ) : Type 0 where
  pub r : Rank
  pub calls : List Call
  pub rank_is : r.rank ≡ rank
  pub tag_is : r.tag_ub ≡ tag_ub
  pub numbered : AreNumbered 64 calls
  pub holds : Holds r calls (operations_of r calls) table
  pub wrong_is : (c : Completed) → wrong c ≡ completed_wrongly r calls (Some c)
