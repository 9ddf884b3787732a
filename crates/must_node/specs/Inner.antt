-- What is inner to a range of ranks (docs/NODES.md, "Inner entries").
use Rattle.std.specs.Prelude.{ℕ, Bool, true, false, ◌&&◌, ◌||◌, not, List, [], ◌∷◌, filter}
use Rattle.must_entry.specs.declared.entry.Entry.{Entry}
use Rattle.must_entry.specs.declared.entry.Entry.TheVariants.{Row, Message, Wave, Need}
use Rattle.must_entry.specs.declared.range.RankRange.{RankRange}
use Rattle.must_entry.specs.Lawful.{in_range}

abbrev pub all_in : RankRange → List ℕ → Bool
all_in range [] = true
all_in range (rank ∷ ranks) = in_range range rank && all_in range ranks

-- a row whose rank is in the range, a message with both ends in it, and a collective call of members that all are
abbrev pub within : RankRange → Entry → Bool
within range (Row finding) = in_range range finding.rank
within range (Message item) = in_range range item.source && in_range range item.dest
within range (Wave item) = all_in range item.name.members
within range (Need place ways) = false

-- at the root every entry is inner
abbrev pub is_inner : Bool → RankRange → Entry → Bool
is_inner root range e = root || within range e

abbrev pub inner : Bool → RankRange → List Entry → List Entry
inner root range entries = filter (is_inner root range) entries

abbrev pub outer : Bool → RankRange → List Entry → List Entry
outer root range entries = filter (λ e. not (is_inner root range e)) entries
