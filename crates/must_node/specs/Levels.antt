-- The nodes of one level of a tree, and of several levels: what is inner to each node, and what all hand up (docs/NODES.md,
-- "Trees").
use Rattle.std.specs.Prelude.{◌≡◌, ◌⊎◌, ℕ, true, false, List, [], ◌∷◌}
use Rattle.std.specs.List.{AllByRecursion, flat_map}
use Rattle.must_find.specs.declared.finding.Finding.{Finding}
use Rattle.must_find.specs.Rearranged.{Rearranges}
use Rattle.must_coll.specs.Waves as waves
use Rattle.must_entry.specs.declared.entry.Entry.{Entry}
use Rattle.must_entry.specs.declared.range.RankRange.{RankRange}
use Rattle.must_entry.specs.Entries.{calls}
use Rattle.must_entry.specs.Lawful.{in_range}
use Rattle.must_node.specs.declared.fact.Fact.{Fact}
use Rattle.must_node.specs.Inner.{within, inner, outer}
use Rattle.must_node.specs.EntryRows.{IsRow}
use Rattle.must_node.specs.Facts.{facts_of}

-- a node below the root: its range, and the entries that it was given
pub record Part : Type 0 where
  pub range : RankRange
  pub given : List Entry

-- what all of them were given
abbrev pub all_given : List Part → List Entry
all_given parts = flat_map (λ part. part.given) parts

-- what all of them hand up
abbrev pub all_left : List Part → List Entry
all_left parts = flat_map (λ part. outer false part.range part.given) parts

-- a row that one of them closes with
abbrev pub IsRowOfOne : List Part → Finding → Type 0
IsRowOfOne [] f = ⊥
IsRowOfOne (part ∷ parts) f = IsRow (inner false part.range part.given) f ⊎ IsRowOfOne parts f

-- the facts that they close with
abbrev pub all_facts : List Part → List Fact
all_facts parts = flat_map (λ part. facts_of (inner false part.range part.given)) parts

abbrev pub NoneWithin : RankRange → List Entry → Type 0
NoneWithin range entries = AllByRecursion (λ e. within range e ≡ false) entries

-- nothing that one was given is inner to another
abbrev pub AreApart : List Part → Type 0
AreApart [] = Unit {0}
AreApart (part ∷ parts) = AllByRecursion (λ other. NoneWithin other.range part.given × NoneWithin part.range other.given) parts × AreApart parts

-- each rank of the one range is in the other
abbrev pub IsInside : RankRange → RankRange → Type 0
IsInside part range = (n : ℕ) → in_range part n ≡ true → in_range range n ≡ true

-- the levels from the lowest up: the nodes of a level are given, in any order, what the level below hands up
abbrev pub AreLevels : (given : List Entry) → List (List Part) → (left : List Entry) → Type 0
AreLevels given [] left = Rearranges given left × waves.Orderly (calls left)
AreLevels given (parts ∷ levels) left = Rearranges given (all_given parts) × (waves.Orderly (calls (all_given parts)) × (AreApart parts × AreLevels (all_left parts) levels left))

-- a row that a node of some level closes with
abbrev pub IsRowOfLevels : List (List Part) → Finding → Type 0
IsRowOfLevels [] f = ⊥
IsRowOfLevels (parts ∷ levels) f = IsRowOfOne parts f ⊎ IsRowOfLevels levels f

-- the facts that the nodes of all levels close with
abbrev pub facts_of_levels : List (List Part) → List Fact
facts_of_levels levels = flat_map all_facts levels
