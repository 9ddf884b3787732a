-- What a node stands for, and what it hands up (docs/NODES.md, "Nodes").
use Rattle.std.specs.Prelude.{◌≡◌, Bool, true, false, ◌&&◌, ◌||◌, not, List, [], ◌∷◌, ◌++◌, Option, Some, None, if◌then◌else◌}
use Rattle.std.specs.List.{flat_map}
use Rattle.must_entry.specs.declared.entry.Entry.{Entry}
use Rattle.must_entry.specs.declared.range.RankRange.{RankRange}
use Rattle.must_entry.specs.declared.batch.Batch.{Batch}
use Rattle.must_entry.specs.Entries.{entries_of}
use Rattle.must_node.specs.declared.node.Node.{Node}
use Rattle.must_node.specs.Inner.{inner, outer}
use Rattle.must_node.specs.Settling.{Knows}

abbrev pub is_empty : List Entry → Bool
is_empty [] = true
is_empty (e ∷ es) = false

-- what is handed up of a batch: the entries that aren't inner, in order, and whether it is the last; nothing where none is left
-- and it isn't the last. A root hands up nothing.
abbrev pub up : Bool → RankRange → Batch → List Batch
up root range b = if root || (not b.last && is_empty (outer root range b.entries)) then [] else record { rank = b.rank; entries = outer root range b.entries; last = b.last } ∷ []

-- what is handed up of batches
abbrev pub all_up : Bool → RankRange → List Batch → List Batch
all_up root range batches = flat_map (up root range) batches

-- the node of this range was given `taken` and has handed up `handed`, each in this order; what stands ready is the rest
pub record StandsFor (node : Node) (range : RankRange) (root : Bool) (taken handed : List Batch) : Type 0 where
  pub range_is : node.range ≡ range
  pub root_is : node.root ≡ root
  pub knows : Knows node.settled (inner root range (entries_of taken))
  pub hands : handed ++ node.ready.items ≡ all_up root range taken

-- a batch was handed up, or all were before
abbrev pub Hands : Node → RankRange → Bool → (taken handed : List Batch) → Option Batch → Type 0
Hands node range root taken handed None = StandsFor node range root taken handed × (handed ≡ all_up root range taken)
Hands node range root taken handed (Some b) = StandsFor node range root taken (handed ++ b ∷ [])
