-- What reading the stream of one rank says.
use Rattle.std.specs.Prelude.{◌≡◌, ◌<◌, ◌+◌, ◌++◌, ℕ, true, List, [], Option, Some}
use Rattle.std.specs.List.{AllByRecursion}
use Rattle.must_call.specs.declared.call.Call.{Call}
use Rattle.must_format.specs.declared.fault.StreamFault.{StreamFault}
use Rattle.must_format.specs.declared.fault.StreamFault.TheVariants as fault
use Rattle.must_format.specs.declared.cause.Limit.{Limit}
use Rattle.must_rules.specs.Rank.{Rank}
use Rattle.must_rules.specs.Run.{Run, Mode, size_of}
use Rattle.must_rules.specs.Streams.{Accepted, Refused, Records, recorded_of}
use Rattle.must_rules.specs.RunRows.{rank_in, HasRanksBelow}
use Rattle.must_entry.specs.declared.range.RankRange.{RankRange}
use Rattle.must_entry.specs.declared.batch.Batch.{Batch}
use Rattle.must_entry.specs.Lawful.{IsLawful}
use Rattle.must_coll.specs.OneRowLaws.{HaveDistinctMembers}
use Rattle.must_node.specs.declared.node.Node.{Node}
use Rattle.must_node.specs.Nodes.{StandsFor}
use Rattle.must_run.specs.RunWaves.{AreItemsBelow}
use Rattle.must_run.specs.RunMessages.{AreMessagesBelow, needs_below}
use Rattle.must_local.specs.Walks.{RankTold, WalkState, Walks, GivesAll, all_rows, collectives, message_items, call_needs}
use Rattle.must_tree.specs.declared.fault.RunFault.{RunFault}
use Rattle.must_tree.specs.declared.fault.RunFault.TheVariants as run_fault
use Rattle.must_tree.specs.Told.{ShowsNoRefusal}

-- a root node has all ranks of a run
abbrev pub all_ranks : (size : ℕ) → RankRange
all_ranks size = record { from = 0; to = size }

-- batches of lower ranks than this one, which the root node may be given
pub record AreLower (size rank : ℕ) (batches : List Batch) : Type 0 where
  pub lawful : IsLawful (all_ranks size) batches
  pub lower : AllByRecursion (λ (b : Batch). b.rank < rank) batches

-- the root node was given these batches of lower ranks, and nothing else
pub record Holds (size rank : ℕ) (node : Node) (batches : List Batch) : Type 0 where
  pub lower : AreLower size rank batches
  pub stands : StandsFor node (all_ranks size) true batches []

-- a walk of this rank took these calls, and the node was given its batches, behind those of lower ranks
pub record Gathers (told : RankTold) (w : WalkState) (calls : List Call) (old new : Node) : Type 0 where
  pub within : told.rank < told.size
  pub given : List Batch
  pub walks : (version : ℕ) → Walks version w calls given
  pub takes : (before : List Batch) → Holds told.size told.rank old before → StandsFor new (all_ranks told.size) true (before ++ given) []
  pub rank_is : w.rank ≡ told

-- all that the calls of a rank give was given to a node, behind the batches of lower ranks
pub record GivesRank (r : Rank) (calls : List Call) (old new : Node) : Type 0 where
  pub given : List Batch
  pub gives : GivesAll r calls given
  pub distinct : HaveDistinctMembers (collectives given)
  pub takes : (before : List Batch) → Holds r.size r.rank old before → Holds r.size (r.rank + 1) new (before ++ given)

-- the stream of a rank of n is accepted, and what its calls give was given to a node
pub record ReadsRank (rank n : ℕ) (bytes : List ℕ) (old new : Node) : Type 0 where
  pub calls : List Call
  pub accepted : Accepted rank n bytes calls
  pub gives : GivesRank (rank_in n rank (recorded_of bytes calls)) calls old new

-- A fault that the bytes show is the stream's refusal; where a read failed, what was taken shows none.
abbrev pub IsFaultOf : ℕ → ℕ → List ℕ → Option (List ℕ) → StreamFault → Type 0
IsFaultOf rank n bytes left (fault.Malformed at cause) = Refused rank n bytes (fault.Malformed at cause)
IsFaultOf rank n bytes left (fault.Bound at limit) = Refused rank n bytes (fault.Bound at limit)
IsFaultOf rank n bytes left fault.Read = ShowsNoRefusal rank n bytes left
IsFaultOf rank n bytes left fault.NoMemory = Unit {0}

-- what stops a walk at the call whose record stands at this offset: the limit that it reaches, or want of memory
abbrev pub IsLimitFault : Option Limit → ℕ → StreamFault → Type 0
IsLimitFault reached offset (fault.Malformed at cause) = ⊥
IsLimitFault reached offset (fault.Bound at limit) = (at ≡ offset) × (reached ≡ Some limit)
IsLimitFault reached offset fault.Read = ⊥
IsLimitFault reached offset fault.NoMemory = Unit {0}

-- what a root node holds of the ranks below this one: their own rows, their messages, the items of their collective calls, and
-- what their calls wait for
pub record HoldsRanks (run : Run) (mode : Mode) (rank : ℕ) (node : Node) : Type 0 where
  pub batches : List Batch
  pub holds : Holds (size_of run) rank node batches
  pub rows : HasRanksBelow run mode rank (all_rows batches)
  pub messages : AreMessagesBelow run rank (message_items batches)
  pub items : AreItemsBelow run rank (collectives batches)
  pub needs : call_needs batches ≡ needs_below run rank
  pub distinct : HaveDistinctMembers (collectives batches)

-- that of each run that the streams record
abbrev pub HoldsBelow : List (List ℕ) → ℕ → Node → Type 0
HoldsBelow streams rank node = (run : Run) (mode : Mode) → Records streams run → HoldsRanks run mode rank node

-- the fault of a run, by the fault of a rank's stream
abbrev pub fault_at : ℕ → StreamFault → RunFault
fault_at rank (fault.Malformed at cause) = run_fault.Stream rank (fault.Malformed at cause)
fault_at rank (fault.Bound at limit) = run_fault.Stream rank (fault.Bound at limit)
fault_at rank fault.Read = run_fault.Stream rank fault.Read
fault_at rank fault.NoMemory = run_fault.NoMemory
