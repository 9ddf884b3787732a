-- What the ranks of a run give to the rules that look at all of them.
use Rattle.std.specs.Prelude.{List}
use Rattle.must_p2p.specs.declared.item.MsgItem.{MsgItem}
use Rattle.must_coll.specs.declared.item.WaveItem.{WaveItem}
use Rattle.must_rules.specs.Run.{Run}
use Rattle.must_run.specs.RunMessages.{AreRunMessages}
use Rattle.must_run.specs.RunWaves.{AreRunItems}

-- messages, and calls of waves
pub record Given : Type 0 where
  pub messages : List MsgItem
  pub calls : List WaveItem

pub record IsGivenBy (run : Run) (given : Given) : Type 0 where
  pub messages : AreRunMessages run given.messages
  pub calls : AreRunItems run given.calls
