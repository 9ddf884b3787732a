-- The rows of two lists of entries one after the other.
use Rattle.std.proofs.Common.{◌≡◌, List, [], ◌∷◌, ◌++◌, refl, sym, ap, ◌∙◌, append_assoc}
use Rattle.must_find.specs.declared.finding.Finding.{Finding}
use Rattle.must_entry.specs.declared.entry.Entry.{Entry}
use Rattle.must_entry.specs.Entries.{row_of, rows_of}

pub rows_append : (xs ys : List Entry) → rows_of (xs ++ ys) ≡ rows_of xs ++ rows_of ys
rows_append [] ys = refl
rows_append (x ∷ xs) ys = ap (λ (fs : List Finding). row_of x ++ fs) (rows_append xs ys) ∙ sym (append_assoc (row_of x) (rows_of xs) (rows_of ys))
