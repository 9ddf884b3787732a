-- What a node has settled of the inner entries that it was given.
use Rattle.std.specs.Prelude.{◌≡◌, ◌↔◌, List}
use Rattle.must_base.specs.Listing.{Has}
use Rattle.must_find.specs.declared.finding.Finding.{Finding}
use Rattle.must_p2p.specs.Standing.{StandsFor}
use Rattle.must_coll.specs.Progressing as waves
use Rattle.must_entry.specs.declared.entry.Entry.{Entry}
use Rattle.must_entry.specs.Entries.{messages, calls}
use Rattle.must_node.specs.declared.settled.Settled.{Settled}
use Rattle.must_node.specs.EntryRows.{IsKnownRow}
use Rattle.must_node.specs.Facts.{facts_of}

pub record Knows (settled : Settled) (entries : List Entry) : Type 0 where
  pub channels : StandsFor settled.channels (messages entries)
  pub waves : waves.StandsFor settled.waves (calls entries)
  pub findings : (f : Finding) → Has settled.findings f ↔ IsKnownRow entries f
  pub facts : settled.facts ≡ facts_of entries
