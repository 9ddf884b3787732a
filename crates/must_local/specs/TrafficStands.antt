-- What a rank keeps of messages and of needs, the calls that it stands for, and what is given of it when they end.
use Rattle.std.specs.Prelude.{◌≡◌, List, [], ◌++◌, map}
use Rattle.must_call.specs.declared.call.Call.{Call}
use Rattle.must_entry.specs.declared.entry.Entry.{Entry}
use Rattle.must_entry.specs.Entries.{rows_of, messages, calls as wave_calls, needs}
use Rattle.must_rules.specs.Rank.{Rank}
use Rattle.must_messages.specs.MessageItems.{item_seen, items_of}
use Rattle.must_messages.specs.Holding.{items_given}
use Rattle.must_messages.specs.CallNeeds.{needs_of}
use Rattle.must_begin.specs.Keeping as begin
use Rattle.must_hold.specs.Keeping as hold
use Rattle.must_needs.specs.Naming.{Tells}
use Rattle.must_local.specs.declared.traffic.Traffic.{Traffic}

pub record TrafficStands (r : Rank) (calls : List Call) (t : Traffic) : Type 0 where
  pub requests : begin.Keeps r calls t.requests
  pub messages : hold.Keeps r calls t.messages
  pub needs : Tells r calls t.needs

-- these entries are given when the calls end: the messages that were held back, and what each call waits for
pub record EndGives (r : Rank) (calls : List Call) (more : List Entry) : Type 0 where
  pub rows : rows_of more ≡ []
  pub waves : wave_calls more ≡ []
  pub items : items_of r calls ≡ items_given r calls ++ map item_seen (messages more)
  pub needs_are : needs more ≡ needs_of r calls

pub record GivesEnd (r : Rank) (calls : List Call) (old new : List Entry) : Type 0 where
  pub more : List Entry
  pub entries : new ≡ old ++ more
  pub gives : EndGives r calls more
