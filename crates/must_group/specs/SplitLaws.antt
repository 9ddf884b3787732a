-- The order of a split in the words of the standard (MPI 3.1 section 6.4.2).
use Rattle.std.specs.Prelude.{◌≡◌, ◌↔◌, List, IsPermutation, IsSortedByKey}
use Rattle.std.specs.List.Sorted.{IsStableByKey}
use Rattle.std.specs.Ordering.{int_cmp}
use Rattle.must_group.specs.declared.splits.SplitRow.{SplitRow}
use Rattle.must_group.specs.Split.{by_key}

-- the same rows in the order of the key, ties in their old order
pub record IsByKey (rows ordered : List SplitRow) : Type 0 where
  pub same : IsPermutation rows ordered
  pub rising : IsSortedByKey (λ row. row.key) int_cmp ordered
  pub ties : IsStableByKey (λ row. row.key) int_cmp rows ordered

-- there is one such order
abbrev pub ByKeyLaw : Type 0
ByKeyLaw = (rows ordered : List SplitRow) → IsByKey rows ordered ↔ (ordered ≡ by_key rows)
