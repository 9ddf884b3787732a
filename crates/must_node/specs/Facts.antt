-- The facts of entries: what the replay asks of them (docs/NODES.md, "Rows and facts").
use Rattle.std.specs.Prelude.{ℕ, List, [], ◌∷◌}
use Rattle.std.specs.List.{flat_map}
use Rattle.must_p2p.specs.declared.item.MsgItem.{MsgItem}
use Rattle.must_p2p.specs.Items.{number}
use Rattle.must_coll.specs.declared.item.WaveItem.{WaveItem}
use Rattle.must_entry.specs.declared.entry.Entry.{Entry}
use Rattle.must_entry.specs.declared.entry.Entry.TheVariants.{Row, Message, Wave, Need}
use Rattle.must_entry.specs.Entries.{messages}
use Rattle.must_node.specs.declared.fact.Fact.{Fact}
use Rattle.must_node.specs.declared.fact.Fact.TheVariants as fact

-- an item with its number
abbrev pub message_fact : ℕ → MsgItem → Fact
message_fact n x = fact.Message x.side x.name x.comm x.source x.dest x.tag n x.place x.part x.wild

abbrev pub call_fact : WaveItem → Fact
call_fact x = fact.Wave x.name x.comm x.number x.place

-- the fact of an entry that stands among these items; a row gives none
abbrev pub fact_among : List MsgItem → Entry → List Fact
fact_among items (Row finding) = []
fact_among items (Message item) = message_fact (number items item) item ∷ []
fact_among items (Wave item) = call_fact item ∷ []
fact_among items (Need place ways) = fact.Need place ways ∷ []

abbrev pub facts_of : List Entry → List Fact
facts_of entries = flat_map (fact_among (messages entries)) entries
