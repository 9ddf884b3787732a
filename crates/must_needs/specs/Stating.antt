-- How the alternatives of a call are told by names, and the needs that are given of them.
use Rattle.std.specs.Prelude.{◌≡◌, ℕ, zero, suc, if◌then◌else◌, nat_lt, List, [], ◌∷◌, map, length, Option, Some, None}
use Rattle.std.specs.List.{AllByRecursion}
use Rattle.must_entry.specs.declared.want.Want.{Want}
use Rattle.must_entry.specs.declared.entry.Entry.{Entry}
use Rattle.must_entry.specs.declared.entry.Entry.TheVariants as entry
use Rattle.must_rules.specs.Rank.{Rank}
use Rattle.must_rules.specs.Operations.{Operation}
use Rattle.must_messages.specs.CallNeeds.{Need, Needing}
use Rattle.must_hold.specs.Ended.{place_at}
use Rattle.must_needs.specs.declared.names.Name.{Name}
use Rattle.must_needs.specs.declared.names.Name.TheVariants.{Nothing, Operation as Numbered}
use Rattle.must_needs.specs.declared.names.Ways.{Ways}
use Rattle.must_needs.specs.Naming.{name_need, ways_named, IsThere, AreThere}

-- an operation by its number, where it is one of so many
abbrev pub name_of : (number : Option ℕ) → (count : ℕ) → Name
name_of None count = Nothing
name_of (Some n) count = if nat_lt n count then Numbered n else Nothing

-- the names of so many operations, of which the first has this number
abbrev pub numbers_from : (first count : ℕ) → List Name
numbers_from first zero = []
numbers_from first (suc count) = Numbered first ∷ numbers_from (suc first) count

-- these names of a rank with these operations stand for these needs, whatever each operation needs
pub record AreNamed (r : Rank) (ops : List Operation) (needed : Needing → List Need) (names : List Name) : Type 0 where
  pub there : AllByRecursion (IsThere (length ops)) names
  pub needs_are : (need : Needing) → map (name_need r.rank (map need ops)) names ≡ needed need

-- the same of alternatives
pub record AreWays (r : Rank) (ops : List Operation) (ways : Needing → List (List Want)) (w : Ways) : Type 0 where
  pub there : AreThere (length ops) w
  pub ways_are : (need : Needing) → ways_named r.rank (map need ops) w ≡ ways need

-- the needs of the calls from this one on
abbrev pub entries_from : (rank call : ℕ) → List (List (List Want)) → List Entry
entries_from rank call [] = []
entries_from rank call (ways ∷ others) = entry.Need (place_at rank call) ways ∷ entries_from rank (suc call) others
