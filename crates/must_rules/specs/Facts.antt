-- What a rank knows of its handles at a call: what its earlier calls made of them. The rules that say which calls are clear
-- ask no more than this.
use Rattle.std.specs.Prelude.{ℕ, ℤ, Bool, List, length, Option}
use Rattle.must_call.specs.declared.class.Class.{Class}
use Rattle.must_call.specs.declared.life.Life.{Life}

-- a communicator: the world ranks of its members, and the position of this rank among them
pub record Comm : Type 0 where
  pub members : List ℕ
  pub position : ℕ

abbrev pub members_of : Comm → List ℕ
members_of comm = comm.members

abbrev pub position_of : Comm → ℕ
position_of comm = comm.position

abbrev pub size_of_comm : Comm → ℕ
size_of_comm comm = length comm.members

pub record Facts : Type 0 where
  -- the greatest tag (MPI 3.1 section 8.1.2: MPI_TAG_UB)
  pub tag_ub : ℤ
  pub life : Class → ℕ → Life
  -- of datatypes
  pub committed : ℕ → Bool
  -- none where the communicator isn't live and sound
  pub comm : ℕ → Option Comm
  -- the world ranks of a group; none where it isn't live and sound
  pub group : ℕ → Option (List ℕ)
