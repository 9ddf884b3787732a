-- The rows of entries, whatever order they come in (docs/NODES.md, "Rows and facts").
use Rattle.std.specs.Prelude.{◌⊎◌, List}
use Rattle.must_base.specs.Listing.{Has}
use Rattle.must_find.specs.declared.finding.Finding.{Finding}
use Rattle.must_p2p.specs.Matching.{IsMatchRow, IsMessageRow}
use Rattle.must_coll.specs.Rows.{IsWaveRow, IsWholeRow}
use Rattle.must_entry.specs.declared.entry.Entry.{Entry}
use Rattle.must_entry.specs.declared.entry.Entry.TheVariants.{Row}
use Rattle.must_entry.specs.Entries.{messages, calls}

-- the rows of ranks and those of messages
abbrev pub IsPlainRow : List Entry → Finding → Type 0
IsPlainRow entries f = Has entries (Row f) ⊎ IsMessageRow (messages entries) f

-- the rows of entries: those of ranks, of messages and of collective calls
abbrev pub IsRow : List Entry → Finding → Type 0
IsRow entries f = IsPlainRow entries f ⊎ IsWaveRow (calls entries) f

-- those of them that stand before the end: no row of a message without a partner
abbrev pub IsEarlyRow : List Entry → Finding → Type 0
IsEarlyRow entries f = Has entries (Row f) ⊎ IsMatchRow (messages entries) f

-- and none of a wave that lacks a call
abbrev pub IsKnownRow : List Entry → Finding → Type 0
IsKnownRow entries f = IsEarlyRow entries f ⊎ IsWholeRow (calls entries) f
