-- What children hand up, and what nodes close with.
use Rattle.std.specs.Prelude.{◌≡◌, ◌⊎◌, ◌↔◌, ℕ, zero, suc, ◌+◌, false, List, [], ◌∷◌, ◌++◌, length, Option, Some, None, Result, Ok, Err}
use Rattle.must_base.specs.Listing.{Has}
use Rattle.must_find.specs.declared.finding.Finding.{Finding}
use Rattle.must_find.specs.Rearranged.{Rearranges}
use Rattle.must_entry.specs.declared.entry.Entry.{Entry}
use Rattle.must_entry.specs.declared.range.RankRange.{RankRange}
use Rattle.must_entry.specs.declared.batch.Batch.{Batch}
use Rattle.must_entry.specs.Entries.{entries_of}
use Rattle.must_inbox.specs.States.{PortState}
use Rattle.must_node.specs.declared.closed.Closed.{Closed}
use Rattle.must_node.specs.declared.fact.Fact.{Fact}
use Rattle.must_node.specs.Inner.{outer}
use Rattle.must_node.specs.EntryRows.{IsRow}
use Rattle.must_node.specs.Facts.{facts_of}
use Rattle.must_node.specs.Levels.{Part, IsRowOfOne, all_facts}
use Rattle.must_node.specs.TreeLaws.{Child, parts_of}
use Rattle.must_levels.specs.declared.fault.RunFault.{RunFault}
use Rattle.must_levels.specs.declared.fault.RunFault.TheVariants as fault
use Rattle.must_levels.specs.Readers.{batches_in, AreRankLists}

-- ---- results of nodes, where there may be none

abbrev pub HasRow : Option Closed → Finding → Type 0
HasRow None f = ⊥
HasRow (Some closed) f = Has closed.findings f

abbrev pub facts_in : Option Closed → List Fact
facts_in None = []
facts_in (Some closed) = closed.facts

-- the rows and the facts of both
pub record AreBoth (a b c : Option Closed) : Type 0 where
  pub rows : (f : Finding) → HasRow c f ↔ (HasRow a f ⊎ HasRow b f)
  pub facts : facts_in c ≡ facts_in a ++ facts_in b

-- the rows and the facts of one, and of these entries
pub record Adds (below : Option Closed) (entries : List Entry) (all : Option Closed) : Type 0 where
  pub rows : (f : Finding) → HasRow all f ↔ (HasRow below f ⊎ IsRow entries f)
  pub facts : facts_in all ≡ facts_in below ++ facts_of entries

abbrev pub IsNoMemory : {X : Type 0} → Result X RunFault → Type 0
IsNoMemory (Ok x) = Unit {0}
IsNoMemory (Err e) = e ≡ fault.NoMemory

-- the answer of a node, as that of a child
abbrev pub as_child : Result Closed RunFault → Result (Option Closed) RunFault
as_child (Ok closed) = Ok (Some closed)
as_child (Err e) = Err e

-- the answer of two that ran beside each other: the first fault decides
abbrev pub Together : (first second all : Result (Option Closed) RunFault) → Type 0
Together (Err e) second all = all ≡ Err e
Together (Ok a) (Err e) all = all ≡ Err e
Together (Ok a) (Ok b) (Ok c) = AreBoth a b c
Together (Ok a) (Ok b) (Err e) = e ≡ fault.NoMemory

-- ---- children

-- what a child hands up of entries: at level 0 all, else what isn't inner to its range
abbrev pub left_at : ℕ → RankRange → List Entry → List Entry
left_at zero range entries = entries
left_at (suc level) range entries = outer false range entries

-- a child that had all batches of these ranks handed up what it sent
pub record HandsUp (level : ℕ) (range : RankRange) (lists : List (List Batch)) (sent : List Batch) : Type 0 where
  pub count : range.to ≡ range.from + length lists
  pub lawful : AreRankLists range.from lists
  pub left : Rearranges (entries_of sent) (left_at level range (entries_of (batches_in lists)))

abbrev pub AllHandUp : ℕ → List PortState → List (List (List Batch)) → Type 0
AllHandUp level [] [] = Unit {0}
AllHandUp level [] (g ∷ gs) = ⊥
AllHandUp level (q ∷ qs) [] = ⊥
AllHandUp level (q ∷ qs) (g ∷ gs) = HandsUp level q.range g q.sent × AllHandUp level qs gs

abbrev pub part_with : RankRange → List (List Batch) → Part
part_with range lists = record { range = range; given = entries_of (batches_in lists) }

-- the children, each with all batches of its ranks
abbrev pub children_with : List PortState → List (List (List Batch)) → List Child
children_with [] gs = []
children_with (q ∷ qs) [] = []
children_with (q ∷ qs) (g ∷ gs) = record { range = q.range; batches = batches_in g } ∷ children_with qs gs

abbrev pub parts_with : List PortState → List (List (List Batch)) → List Part
parts_with qs gs = parts_of (children_with qs gs)

-- the nodes among children: at level 0 there are none
abbrev pub nodes_at : ℕ → List Part → List Part
nodes_at zero parts = []
nodes_at (suc level) parts = parts

-- exactly the rows and the facts that these nodes close with
pub record Tells (closed : Option Closed) (parts : List Part) : Type 0 where
  pub rows : (f : Finding) → HasRow closed f ↔ IsRowOfOne parts f
  pub facts : Rearranges (facts_in closed) (all_facts parts)
