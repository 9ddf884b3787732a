-- The rows of a run.
use Rattle.std.specs.Prelude.{◌⊎◌, List}
use Rattle.must_base.specs.Listing.{Lists}
use Rattle.must_find.specs.declared.finding.Finding.{Finding}
use Rattle.must_find.specs.Order.{by_place}
use Rattle.must_p2p.specs.Matching.{IsMessageRow}
use Rattle.must_coll.specs.Rows.{IsWaveRow}
use Rattle.must_node.specs.Waits.{IsWaitRow}
use Rattle.must_rules.specs.Run.{Run, Mode}
use Rattle.must_rules.specs.RunRows.{IsFinding}
use Rattle.must_run.specs.RunGiven.{Given, IsGivenBy}
use Rattle.must_run.specs.RunWaits.{waits_in}

-- a rule finds it by looking at one rank, at the messages, at the waves, or at the blocked calls
abbrev pub IsRunRow : Run → Mode → Given → Finding → Type 0
IsRunRow run mode given f = IsFinding run mode f ⊎ (IsMessageRow given.messages f ⊎ (IsWaveRow given.calls f ⊎ IsWaitRow (waits_in run mode given) f))

-- all rows of a run, each once, in order of rank, call, rule and part
pub record AreRunRows (run : Run) (mode : Mode) (rows : List Finding) : Type 0 where
  pub given : Given
  pub is_given : IsGivenBy run given
  pub lists : Lists by_place (IsRunRow run mode given) rows
