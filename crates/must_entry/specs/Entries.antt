-- What stands in a list of entries.
use Rattle.std.specs.Prelude.{List, [], ◌∷◌}
use Rattle.std.specs.List.{flat_map}
use Rattle.must_call.specs.declared.place.Place.{Place}
use Rattle.must_find.specs.declared.finding.Finding.{Finding}
use Rattle.must_p2p.specs.declared.item.MsgItem.{MsgItem}
use Rattle.must_coll.specs.declared.item.WaveItem.{WaveItem}
use Rattle.must_entry.specs.declared.want.Want.{Want}
use Rattle.must_entry.specs.declared.entry.Entry.{Entry}
use Rattle.must_entry.specs.declared.entry.Entry.TheVariants.{Row, Message, Wave, Need}
use Rattle.must_entry.specs.declared.batch.Batch.{Batch}

abbrev pub row_of : Entry → List Finding
row_of (Row finding) = finding ∷ []
row_of (Message item) = []
row_of (Wave item) = []
row_of (Need place ways) = []

abbrev pub message_of : Entry → List MsgItem
message_of (Row finding) = []
message_of (Message item) = item ∷ []
message_of (Wave item) = []
message_of (Need place ways) = []

abbrev pub call_of : Entry → List WaveItem
call_of (Row finding) = []
call_of (Message item) = []
call_of (Wave item) = item ∷ []
call_of (Need place ways) = []

-- a call and its alternatives
pub record Waits : Type 0 where
  pub place : Place
  pub ways : List (List Want)

abbrev pub need_of : Entry → List Waits
need_of (Row finding) = []
need_of (Message item) = []
need_of (Wave item) = []
need_of (Need place ways) = record { place = place; ways = ways } ∷ []

-- the local rows
abbrev pub rows_of : List Entry → List Finding
rows_of entries = flat_map row_of entries

-- the items of messages
abbrev pub messages : List Entry → List MsgItem
messages entries = flat_map message_of entries

-- the collective calls
abbrev pub calls : List Entry → List WaveItem
calls entries = flat_map call_of entries

-- the needs
abbrev pub needs : List Entry → List Waits
needs entries = flat_map need_of entries

-- the entries of batches
abbrev pub entries_of : List Batch → List Entry
entries_of batches = flat_map (λ b. b.entries) batches
