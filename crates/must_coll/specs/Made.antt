-- The members of communicators that a wave makes (MPI 3.1, 6.4.2; docs/RULES.md, C7), for a whole wave of one kind.
use Rattle.std.specs.Prelude.{◌+◌, ◌==◌, ◌&&◌, ℕ, pos, Bool, true, false, List, [], ◌∷◌, Option, Some, None, slice_get, position, nat_eq, unwrap_or, if◌then◌else◌}
use Rattle.std.specs.Option.{is_some}
use Rattle.must_call.specs.declared.kind.Kind.{Kind}
use Rattle.must_call.specs.declared.kind.Kind.TheVariants as kind
use Rattle.must_find.specs.declared.rule.Rule.TheVariants.{C7}
use Rattle.must_find.specs.declared.finding.Finding.{Finding}
use Rattle.must_group.specs.declared.splits.SplitRow.{SplitRow}
use Rattle.must_group.specs.Split.{split_groups, group_at}
use Rattle.must_coll.specs.declared.item.WaveItem.{WaveItem}
use Rattle.must_coll.specs.declared.item.ColorKey.{ColorKey}
use Rattle.must_coll.specs.declared.making.Making.{Making}
use Rattle.must_coll.specs.declared.making.Making.TheVariants.{Nothing, Duplicate, Split, Create}
use Rattle.must_coll.specs.Given.{GivenFrom}

-- what communicators the calls of a kind make
abbrev pub making_of : Kind → Making
making_of kind.CommDup = Duplicate
making_of kind.CommSplit = Split
making_of kind.CommCreate = Create
making_of _ = Nothing

-- ---- the defined members

-- what a member gave to a split
abbrev pub split_row : ℕ → ColorKey → SplitRow
split_row m s = record { member = m; color = s.color; key = s.key }

abbrev pub row_before : ℕ → Option ColorKey → Option (List SplitRow) → Option (List SplitRow)
row_before m (Some s) (Some rows) = Some (split_row m s ∷ rows)
row_before m _ _ = None

-- what the members gave to a split, in member order; none where a call tells no color
abbrev pub split_rows : List ℕ → List WaveItem → Option (List SplitRow)
split_rows (m ∷ ms) (x ∷ xs) = row_before m x.split (split_rows ms xs)
split_rows _ _ = Some []

-- the group where it has the rank, else nobody
abbrev pub group_with : ℕ → Option (List ℕ) → Option (List ℕ)
group_with r (Some g) = Some (if is_some (position (λ m. nat_eq m r) g) then g else [])
group_with r None = None

-- The members of the new communicator of the call x at i, nobody for a call that is in none: all members of the old one;
-- those of the own color by key, then by old position; those of the own group. None where a call tells too little.
abbrev pub defined : Making → List ℕ → Option (List SplitRow) → ℕ → WaveItem → Option (List ℕ)
defined Duplicate members rows i x = Some members
defined Split members (Some rows) i x = Some (unwrap_or (group_at (split_groups rows) i) [])
defined Split members None i x = None
defined Create members rows i x = group_with x.place.rank x.group
defined Nothing members rows i x = None

-- ---- C7

abbrev pub is_same : Option ℕ → Option ℕ → Bool
is_same (Some x) (Some y) = x == y
is_same None None = true
is_same _ _ = false

-- the first position where two lists differ, which begin at i; a proper prefix differs at its end
unfoldable pub unlike_from : ℕ → List ℕ → List ℕ → Option ℕ
unlike_from i [] [] = None
unlike_from i [] (y ∷ ys) = Some i
unlike_from i (x ∷ xs) [] = Some i
unlike_from i (x ∷ xs) (y ∷ ys) = if x == y then unlike_from (i + 1) xs ys else Some i

abbrev pub member_found : WaveItem → Option ℕ → Option Finding
member_found x (Some v) = Some (record { rank = x.place.rank; call = x.place.call; rule = C7; part = 0; see = None; value = pos v })
member_found x None = None

-- C7 at a call, where its recorded members aren't the defined ones
abbrev pub recorded_row : WaveItem → Option (List ℕ) → Option (List ℕ) → Option Finding
recorded_row x (Some recorded) (Some members) = member_found x (unlike_from 0 members recorded)
recorded_row x (Some recorded) None = None
recorded_row x None members = None

abbrev pub members_row : Making → List ℕ → Option (List SplitRow) → ℕ → WaveItem → Option Finding
members_row m members rows i x = recorded_row x x.members (defined m members rows i x)

abbrev pub all_count : List WaveItem → Bool
all_count [] = true
all_count (x ∷ xs) = x.counts && all_count xs

-- C7 in a wave with this first call, where all calls count
abbrev pub made_row : Option WaveItem → List WaveItem → ℕ → WaveItem → Option Finding
made_row (Some first) calls i x = if all_count calls then members_row (making_of first.kind) first.name.members (split_rows first.name.members calls) i x else None
made_row None calls i x = None

-- the rows C7 of a wave
abbrev pub IsMadeRow : List WaveItem → Finding → Type 0
IsMadeRow calls f = GivenFrom (made_row (slice_get calls 0) calls) 0 calls f
