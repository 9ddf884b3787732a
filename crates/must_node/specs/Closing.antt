-- What a node closes with (docs/NODES.md, "Nodes").
use Rattle.std.specs.Prelude.{◌≡◌, ◌↔◌, List}
use Rattle.must_base.specs.Listing.{Has}
use Rattle.must_find.specs.declared.finding.Finding.{Finding}
use Rattle.must_entry.specs.declared.entry.Entry.{Entry}
use Rattle.must_node.specs.declared.closed.Closed.{Closed}
use Rattle.must_node.specs.EntryRows.{IsRow}
use Rattle.must_node.specs.Facts.{facts_of}

-- exactly the rows of these entries, and their facts in the order of the entries
pub record Settles (closed : Closed) (entries : List Entry) : Type 0 where
  pub rows : (f : Finding) → Has closed.findings f ↔ IsRow entries f
  pub facts : closed.facts ≡ facts_of entries
