-- What a child and the children of a node may be run on, and what they answer and leave.
use Rattle.std.specs.Prelude.{◌≡◌, ℕ, ◌+◌, ◌^◌, ◌<◌, ◌≤◌, ◌↔◌, Bool, List, [], ◌∷◌, length, map, Option, Some, Result, Ok, Err}
use Rattle.std.specs.List.{AllByRecursion, flat_map}
use Rattle.std.specs.declared.alloc.Global.{Global}
use Rattle.crossbeam_queue.specs.SegTies.{SegId}
use Rattle.must_format.specs.declared.fault.StreamFault.{StreamFault}
use Rattle.must_entry.specs.declared.range.RankRange.{RankRange}
use Rattle.must_entry.specs.declared.batch.Batch.{Batch}
use Rattle.must_entry.specs.Entries.{entries_of}
use Rattle.must_entry.specs.Lawful.{IsLawful, Rise}
use Rattle.must_inbox.specs.States.{TakerState, PortState}
use Rattle.must_inbox.specs.Children.{batches_of, AreCovered, IsOrderly, HasAll}
use Rattle.must_node.specs.declared.node.Node.{Node}
use Rattle.must_node.specs.declared.closed.Closed.{Closed}
use Rattle.must_node.specs.Nodes.{StandsFor, all_up}
use Rattle.must_base.specs.Listing.{Has}
use Rattle.must_find.specs.declared.finding.Finding.{Finding}
use Rattle.must_find.specs.Rearranged.{Rearranges}
use Rattle.must_node.specs.EntryRows.{IsRow}
use Rattle.must_node.specs.Facts.{facts_of}
use Rattle.must_node.specs.Inner.{inner, outer}
use Rattle.must_node.specs.Partners.{needs, needs_of_rank}
use Rattle.must_levels.specs.declared.fault.RunFault.{RunFault}
use Rattle.must_levels.specs.declared.fault.RunFault.TheVariants as fault
use Rattle.must_levels.specs.Readers.{AreSince, AreWhole, IsLowestFault, AreRankLists, batches_in}
use Rattle.must_levels.specs.Sending.{ArePorts, IsMoved, AreMoved}
use Rattle.must_levels.specs.Telling.{HasRow, facts_in, Tells, Adds, HandsUp, AllHandUp, part_with, parts_with, nodes_at}

-- the shape of what is run: so many ranks of `size` from this one on, at most `fan_in ^ level`
pub record IsShape (size from count level fan_in : ℕ) : Type 0 where
  pub some : 0 < count
  pub fits : count ≤ fan_in ^ level
  pub small : from + count ≤ size
  pub limit : size ≤ 1024
  pub power : fan_in ^ level ≤ 65536
  pub least : 2 ≤ fan_in
  pub most : fan_in ≤ 64

-- a child of these ranks, whose port is new
pub record CanRun {S : Type 0} (ready : S → Type 0) (size : ℕ) (inbox : SegId Global) (from : ℕ) (parts : List S) (level fan_in : ℕ) (p : PortState) : Type 0 where
  pub shape : IsShape size from (length parts) level fan_in
  pub unread : AllByRecursion ready parts
  pub inbox_is : p.inbox ≡ inbox
  pub fresh : p.sent ≡ []
  pub range : p.range ≡ record { from = from; to = from + length parts }

-- the children of a node, whose ports are new
pub record CanRunAll {S : Type 0} (ready : S → Type 0) (size : ℕ) (inbox : SegId Global) (from : ℕ) (parts : List S) (width level fan_in : ℕ) (ps : List PortState) : Type 0 where
  pub unread : AllByRecursion ready parts
  pub ports : ArePorts inbox width (from + length parts) (from + length parts) from ps
  pub width_is : width ≡ fan_in ^ level
  pub power : width ≤ 65536
  pub some_width : 0 < width
  pub small : from + length parts ≤ size
  pub limit : size ≤ 1024
  pub least : 2 ≤ fan_in
  pub most : fan_in ≤ 64
  pub few : length ps ≤ 64

-- all batches of a child's ranks: what it handed up, and what it closed with
pub record Settled {S : Type 0} (whole : ℕ → S → S → List Batch → Type 0) (level from : ℕ) (olds news : List S) (q : PortState) (closed : Option Closed) : Type 0 where
  pub lists : List (List Batch)
  pub all : AreWhole whole from olds news lists
  pub hands : HandsUp level q.range lists q.sent
  pub tells : Tells closed (nodes_at level (part_with q.range lists ∷ []))

abbrev pub IsAnswer : {S : Type 0} → (whole : ℕ → S → S → List Batch → Type 0) → (failed : ℕ → S → S → StreamFault → Type 0) → (level from : ℕ) → (olds news : List S) → PortState → Result (Option Closed) RunFault → Type 0
IsAnswer whole failed level from olds news q (Ok closed) = Settled whole level from olds news q closed
IsAnswer whole failed level from olds news q (Err (fault.Stream rank f)) = IsLowestFault whole failed from olds news rank f
IsAnswer whole failed level from olds news q (Err fault.NoMemory) = Unit {0}

-- `olds` and `news` are the parts at the start and at the end, `p` and `q` the port
pub record Ran {S : Type 0} (whole : ℕ → S → S → List Batch → Type 0) (failed : ℕ → S → S → StreamFault → Type 0) (since : S → S → Type 0) (level from : ℕ) (olds news : List S) (p q : PortState) (result : Result (Option Closed) RunFault) : Type 0 where
  pub answer : IsAnswer whole failed level from olds news q result
  pub parts : AreSince since olds news
  pub port : IsMoved p q

-- a node over these ranks, which may be a root: what it and all below closed with
pub record NodeSettled {S : Type 0} (root : Bool) (whole : ℕ → S → S → List Batch → Type 0) (from : ℕ) (olds news : List S) (q : PortState) (closed : Option Closed) : Type 0 where
  pub lists : List (List Batch)
  pub all : AreWhole whole from olds news lists
  pub count : q.range.to ≡ q.range.from + length lists
  pub lawful : AreRankLists q.range.from lists
  pub left : Rearranges (entries_of q.sent) (outer root q.range (entries_of (batches_in lists)))
  pub rows : (f : Finding) → HasRow closed f ↔ IsRow (inner root q.range (entries_of (batches_in lists))) f
  pub facts : Rearranges (facts_in closed) (facts_of (inner root q.range (entries_of (batches_in lists))))
  pub needs : Rise (map (λ n. n.place) (needs (facts_in closed)))

abbrev pub IsNodeAnswer : {S : Type 0} → (root : Bool) → (whole : ℕ → S → S → List Batch → Type 0) → (failed : ℕ → S → S → StreamFault → Type 0) → (from : ℕ) → (olds news : List S) → PortState → Result Closed RunFault → Type 0
IsNodeAnswer root whole failed from olds news q (Ok closed) = NodeSettled root whole from olds news q (Some closed)
IsNodeAnswer root whole failed from olds news q (Err (fault.Stream rank f)) = IsLowestFault whole failed from olds news rank f
IsNodeAnswer root whole failed from olds news q (Err fault.NoMemory) = Unit {0}

pub record RanNode {S : Type 0} (root : Bool) (whole : ℕ → S → S → List Batch → Type 0) (failed : ℕ → S → S → StreamFault → Type 0) (since : S → S → Type 0) (from : ℕ) (olds news : List S) (p q : PortState) (result : Result Closed RunFault) : Type 0 where
  pub answer : IsNodeAnswer root whole failed from olds news q result
  pub parts : AreSince since olds news
  pub port : IsMoved p q

-- all batches of the ranks of all children
pub record AllSettled {S : Type 0} (whole : ℕ → S → S → List Batch → Type 0) (level from : ℕ) (olds news : List S) (qs : List PortState) (closed : Option Closed) : Type 0 where
  pub groups : List (List (List Batch))
  pub all : AreWhole whole from olds news (flat_map (λ g. g) groups)
  pub hand : AllHandUp level qs groups
  pub tells : Tells closed (nodes_at level (parts_with qs groups))

abbrev pub IsAnswerOfAll : {S : Type 0} → (whole : ℕ → S → S → List Batch → Type 0) → (failed : ℕ → S → S → StreamFault → Type 0) → (level from : ℕ) → (olds news : List S) → List PortState → Result (Option Closed) RunFault → Type 0
IsAnswerOfAll whole failed level from olds news qs (Ok closed) = AllSettled whole level from olds news qs closed
IsAnswerOfAll whole failed level from olds news qs (Err (fault.Stream rank f)) = IsLowestFault whole failed from olds news rank f
IsAnswerOfAll whole failed level from olds news qs (Err fault.NoMemory) = Unit {0}

pub record RanAll {S : Type 0} (whole : ℕ → S → S → List Batch → Type 0) (failed : ℕ → S → S → StreamFault → Type 0) (since : S → S → Type 0) (level from : ℕ) (olds news : List S) (ps qs : List PortState) (result : Result (Option Closed) RunFault) : Type 0 where
  pub answer : IsAnswerOfAll whole failed level from olds news qs result
  pub parts : AreSince since olds news
  pub ports : AreMoved ps qs

-- ---- a node and what it takes

-- what the node has ready may be pushed by this port
pub record CanPass (root : Bool) (node : Node) (port : PortState) : Type 0 where
  pub taken : List Batch
  pub stands : StandsFor node port.range root taken port.sent
  pub lawful : IsLawful port.range taken

-- the node handed up all that it should of what was taken
pub record Passed (root : Bool) (taker : TakerState) (node : Node) (port : PortState) : Type 0 where
  pub stands : StandsFor node port.range root (batches_of taker.got) port.sent
  pub all : port.sent ≡ all_up root port.range (batches_of taker.got)
  pub lawful : IsLawful port.range (batches_of taker.got)

-- the node may take by this taker, and hand up by this port
pub record CanTake (root : Bool) (inbox upper : SegId Global) (taker : TakerState) (node : Node) (port : PortState) : Type 0 where
  pub taker_is : taker.inbox ≡ inbox
  pub port_is : port.inbox ≡ upper
  pub covered : AreCovered taker.ranges port.range
  pub passed : Passed root taker node port

-- what taking leaves
pub record HasTaken (taker new_taker : TakerState) (port new_port : PortState) : Type 0 where
  pub taker_is : new_taker ≡ record taker { got = new_taker.got }
  pub port_is : IsMoved port new_port

-- the node took all that its children sent, handed it up, and closed
pub record Finished (root : Bool) (ranges : List RankRange) (joined : List (ℕ × List Batch)) (below : Option Closed) (port : PortState) (closed : Option Closed) : Type 0 where
  pub got : List (ℕ × Batch)
  pub orderly : IsOrderly ranges got
  pub all : HasAll joined got
  pub sent : port.sent ≡ all_up root port.range (batches_of got)
  pub adds : Adds below (inner root port.range (entries_of (batches_of got))) closed

-- ---- the whole tree

-- Each rank gave all of its batches. They are lawful one behind the other, rank 0 first, and the result has exactly their rows and their
-- facts; the needs of each rank stand in the order of its calls.
pub record TreeSettled {S : Type 0} (whole : ℕ → S → S → List Batch → Type 0) (olds news : List S) (closed : Closed) : Type 0 where
  pub lists : List (List Batch)
  pub all : AreWhole whole 0 olds news lists
  pub lawful : IsLawful (record { from = 0; to = length olds }) (batches_in lists)
  pub rows : (f : Finding) → Has closed.findings f ↔ IsRow (entries_of (batches_in lists)) f
  pub facts : Rearranges closed.facts (facts_of (entries_of (batches_in lists)))
  pub needs : (rank : ℕ) → needs_of_rank closed.facts rank ≡ needs_of_rank (facts_of (entries_of (batches_in lists))) rank

-- what a tree over all ranks answers
abbrev pub IsTreeAnswer : {S : Type 0} → (whole : ℕ → S → S → List Batch → Type 0) → (failed : ℕ → S → S → StreamFault → Type 0) → (olds news : List S) → Result Closed RunFault → Type 0
IsTreeAnswer whole failed olds news (Ok closed) = TreeSettled whole olds news closed
IsTreeAnswer whole failed olds news (Err (fault.Stream rank f)) = IsLowestFault whole failed 0 olds news rank f
IsTreeAnswer whole failed olds news (Err fault.NoMemory) = Unit {0}
