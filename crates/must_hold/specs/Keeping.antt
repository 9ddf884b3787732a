-- What is kept of a rank's operations, and what is given of them.
use Rattle.std.specs.Prelude.{◌≡◌, List, [], ◌∷◌, ◌++◌, map, length, Some}
use Rattle.std.specs.Int.RustNames.{FitsSigned}
use Rattle.std.specs.Int.{w32}
use Rattle.must_call.specs.declared.call.Call.{Call}
use Rattle.must_find.specs.declared.rule.Rule.TheVariants.{N1}
use Rattle.must_find.specs.declared.finding.Finding.{Finding}
use Rattle.must_entry.specs.declared.entry.Entry.{Entry}
use Rattle.must_entry.specs.Entries.{rows_of, messages, calls as wave_calls, needs}
use Rattle.must_rules.specs.Rank.{Rank}
use Rattle.must_rules.specs.Operations.{operations_of}
use Rattle.must_rules.specs.Statuses.{open_wildcard}
use Rattle.must_messages.specs.MessageItems.{item_seen, items_of}
use Rattle.must_messages.specs.Holding.{given, items_given, needs_given}
use Rattle.must_hold.specs.declared.messages.Messages.{Messages}
use Rattle.must_hold.specs.Needing.{HaveNeeds}
use Rattle.must_hold.specs.Queue.{Holds}

pub record Keeps (r : Rank) (calls : List Call) (m : Messages) : Type 0 where
  pub rank_is : r.rank ≡ m.rank
  pub tag_is : r.tag_ub ≡ m.tag_ub
  pub tag_fits : FitsSigned w32 m.tag_ub
  pub number : length calls ≡ m.number
  pub given_is : m.table.given ≡ length (given r calls)
  pub holds : Holds r calls (operations_of r calls) m.table
  pub needs : HaveNeeds r calls (operations_of r calls) m.needs.items

-- these entries are what the later calls give behind what the earlier ones gave
pub record Gives (r : Rank) (before after : List Call) (more : List Entry) : Type 0 where
  pub rows : rows_of more ≡ []
  pub waves : wave_calls more ≡ []
  pub wants : needs more ≡ []
  pub items : items_given r after ≡ items_given r before ++ map item_seen (messages more)

pub record GivesMore (r : Rank) (before after : List Call) (old new : List Entry) : Type 0 where
  pub more : List Entry
  pub entries : new ≡ old ++ more
  pub gives : Gives r before after more

-- these entries are what is given when the calls end
pub record GivesRest (r : Rank) (calls : List Call) (more : List Entry) : Type 0 where
  pub rows : rows_of more ≡ []
  pub waves : wave_calls more ≡ []
  pub wants : needs more ≡ []
  pub items : items_of r calls ≡ items_given r calls ++ map item_seen (messages more)

pub record GivesLast (r : Rank) (calls : List Call) (old new : List Entry) : Type 0 where
  pub more : List Entry
  pub entries : new ≡ old ++ more
  pub gives : GivesRest r calls more

-- ---- rule N1

-- the finding is what N1 says of an operation of these calls
pub record IsOpenWildcard (r : Rank) (calls : List Call) (f : Finding) : Type 0 where
  pub rank_is : f.rank ≡ r.rank
  pub rule_is : f.rule ≡ N1
  pub gives : open_wildcard r calls f.call f.part ≡ Some (f.see, f.value)
