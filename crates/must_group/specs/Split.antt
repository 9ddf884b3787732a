-- The groups that a split of a communicator makes (MPI 3.1 section 6.4.2).
use Rattle.std.specs.Prelude.{ℕ, ℤ, negsuc, List, [], ◌∷◌, map, filter, Option, None, Some, if◌then◌else◌, int_lt, slice_get}
use Rattle.std.specs.Option.{option_flatten}
use Rattle.std.specs.Ordering.{int_eq}
use Rattle.must_group.specs.declared.splits.SplitRow.{SplitRow}

-- a row behind those of lower keys, and before all others
abbrev pub insert_by_key : SplitRow → List SplitRow → List SplitRow
insert_by_key row [] = row ∷ []
insert_by_key row (next ∷ rows) = if int_lt next.key row.key then next ∷ insert_by_key row rows else row ∷ next ∷ rows

-- rows ordered by key, and those of one key in their old order
abbrev pub by_key : List SplitRow → List SplitRow
by_key [] = []
by_key (row ∷ rows) = insert_by_key row (by_key rows)

-- the members of the rows of a color, by key and then by old position
abbrev pub members_of_color : List SplitRow → ℤ → List ℕ
members_of_color rows color = map (λ row. row.member) (by_key (filter (λ row. int_eq row.color color) rows))

-- the group of a color, and none for MPI_UNDEFINED, which is recorded as -1
abbrev pub group_of_color : List SplitRow → ℤ → Option (List ℕ)
group_of_color rows color = if int_eq color (negsuc 0) then None else Some (members_of_color rows color)

-- for each row in the old order the group that its process is in
abbrev pub split_groups : List SplitRow → List (Option (List ℕ))
split_groups rows = map (λ row. group_of_color rows row.color) rows

-- the group of the i-th row, where there is that row and it has one
abbrev pub group_at : List (Option (List ℕ)) → ℕ → Option (List ℕ)
group_at groups i = option_flatten (slice_get groups i)
