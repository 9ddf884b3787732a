-- How far the stream of a rank was read and walked over.
use Rattle.std.specs.Prelude.{◌≡◌, ℕ, List, [], ◌∷◌, ◌++◌, Option, Some, None}
use Rattle.must_call.specs.declared.call.Call.{Call}
use Rattle.must_format.specs.Payload.{offset_behind}
use Rattle.must_format.specs.Stream.{tag_ub_of}
use Rattle.must_rules.specs.Streams.{Accepted}
use Rattle.must_codec.specs.Reader.{ReaderState, StandsFor}
use Rattle.must_node.specs.declared.node.Node.{Node}
use Rattle.must_local.specs.Walks.{RankTold, WalkState}
use Rattle.must_tree.specs.Ranks.{Gathers}

-- the reader gave these calls of the stream
pub record Stood (bytes : List ℕ) (left : Option (List ℕ)) (reader : ReaderState) (calls : List Call) : Type 0 where
  pub taken : List ℕ
  pub rest : List ℕ
  pub left_is : left ≡ Some rest
  pub parts : taken ++ rest ≡ bytes
  pub stands : StandsFor reader taken calls

-- and then this one, whose record stands behind theirs, or the end
abbrev pub Reached : List ℕ → Option (List ℕ) → ReaderState → List Call → Option Call → Type 0
Reached bytes left reader calls (Some call) = Stood bytes left reader (calls ++ call ∷ []) × (reader.at ≡ offset_behind calls)
Reached bytes left reader calls None = Stood bytes left reader calls × (left ≡ Some [])

-- what a walk is told of a rank of n whose stream has these bytes
abbrev pub told_by : ℕ → ℕ → List ℕ → RankTold
told_by rank n bytes = record { rank = rank; size = n; tag_ub = tag_ub_of bytes }

-- the walk took the calls that the reader gave
pub record Beside (rank n : ℕ) (bytes : List ℕ) (left : Option (List ℕ)) (reader : ReaderState) (w : WalkState) (old new : Node) : Type 0 where
  pub calls : List Call
  pub stood : Stood bytes left reader calls
  pub gathers : Gathers (told_by rank n bytes) w calls old new

-- the walk took the calls that the reader gave before its last answer
pub record Walked (rank n : ℕ) (bytes : List ℕ) (left : Option (List ℕ)) (reader : ReaderState) (next : Option Call) (w : WalkState) (old new : Node) : Type 0 where
  pub calls : List Call
  pub reached : Reached bytes left reader calls next
  pub gathers : Gathers (told_by rank n bytes) w calls old new

-- the stream is accepted, and the walk took all its calls
pub record AllTaken (rank n : ℕ) (bytes : List ℕ) (left : Option (List ℕ)) (w : WalkState) (old new : Node) : Type 0 where
  pub calls : List Call
  pub accepted : Accepted rank n bytes calls
  pub left_is : left ≡ Some []
  pub gathers : Gathers (told_by rank n bytes) w calls old new
