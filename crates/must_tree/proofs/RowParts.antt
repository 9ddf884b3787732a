-- The rows of what a root node was given: those of ranks, of messages, and of collective calls.
use Rattle.std.proofs.Common.{◌≡◌, List, [], ◌∷◌, ◌++◌, refl, sym, ap, subst, inl, inr}
use Rattle.std.specs.Prelude.{◌⊎◌}
use Rattle.must_base.specs.Listing.{Has}
use Rattle.must_find.specs.declared.finding.Finding.{Finding}
use Rattle.must_p2p.specs.declared.item.MsgItem.{MsgItem}
use Rattle.must_p2p.specs.Matching.{IsMessageRow}
use Rattle.must_coll.specs.declared.item.WaveItem.{WaveItem}
use Rattle.must_coll.specs.Rows.{IsWaveRow}
use Rattle.must_entry.specs.declared.entry.Entry.{Entry}
use Rattle.must_entry.specs.declared.entry.Entry.TheVariants.{Row, Message, Wave, Need}
use Rattle.must_entry.specs.declared.batch.Batch.{Batch}
use Rattle.must_entry.specs.Entries.{row_of, rows_of, messages, calls, entries_of}
use Rattle.must_node.specs.EntryRows.{IsRow}
use Rattle.must_local.specs.DistinctLaws.{has_behind}
use Rattle.must_local.specs.Walks.{all_rows, collectives, message_items}
use Rattle.must_tree.proofs.Lawful.{batch_rows, batch_messages, batch_calls}

has_row : (es : List Entry) (f : Finding) → Has es (Row f) → Has (rows_of es) f
has_row [] f h = absurd h
has_row (e ∷ es) f (inl is) = subst (λ (w : Entry). Has (row_of w ++ rows_of es) f) is (inl refl)
has_row (e ∷ es) f (inr h) = has_behind (row_of e) (rows_of es) f (has_row es f h)

row_in : (es : List Entry) (f : Finding) → Has (rows_of es) f → Has es (Row f)
row_in [] f h = absurd h
row_in (Row g ∷ es) f (inl e) = inl (ap Row e)
row_in (Row g ∷ es) f (inr h) = inr (row_in es f h)
row_in (Message x ∷ es) f h = inr (row_in es f h)
row_in (Wave x ∷ es) f h = inr (row_in es f h)
row_in (Need place ways ∷ es) f h = inr (row_in es f h)

-- a row of the ranks, of messages, or of waves
abbrev pub IsBatchRow : List Batch → Finding → Type 0
IsBatchRow bs f = (Has (all_rows bs) f ⊎ IsMessageRow (message_items bs) f) ⊎ IsWaveRow (collectives bs) f

pub row_parts : (bs : List Batch) (f : Finding) → IsRow (entries_of bs) f → IsBatchRow bs f
row_parts bs f (inl (inl h)) = inl (inl (subst (λ (l : List Finding). Has l f) (batch_rows bs) (has_row (entries_of bs) f h)))
row_parts bs f (inl (inr m)) = inl (inr (subst (λ (l : List MsgItem). IsMessageRow l f) (batch_messages bs) m))
row_parts bs f (inr wave) = inr (subst (λ (l : List WaveItem). IsWaveRow l f) (batch_calls bs) wave)

pub row_from : (bs : List Batch) (f : Finding) → IsBatchRow bs f → IsRow (entries_of bs) f
row_from bs f (inl (inl h)) = inl (inl (row_in (entries_of bs) f (subst (λ (l : List Finding). Has l f) (sym (batch_rows bs)) h)))
row_from bs f (inl (inr m)) = inl (inr (subst (λ (l : List MsgItem). IsMessageRow l f) (sym (batch_messages bs)) m))
row_from bs f (inr wave) = inr (subst (λ (l : List WaveItem). IsWaveRow l f) (sym (batch_calls bs)) wave)
