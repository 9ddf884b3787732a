-- A replay under way: how many calls of each rank are passed so far.
use Rattle.std.specs.Prelude.{◌≡◌, ℕ, ◌≤◌, true, false, List, length, slice_index, nat_lt, sum, is_some}
use Rattle.must_call.specs.declared.place.Place.{Place}
use Rattle.must_wait.specs.Needs.{Rows, needs_of, calls_of}
use Rattle.must_wait.specs.Replay.{Marks, some_way, passed_in}

-- the first calls of each rank, as many as the list tells
abbrev pub counted : List ℕ → Marks
counted done rank call = nat_lt call (slice_index done rank)

-- what m marks, n marks too
abbrev pub Within : Marks → Marks → Type 0
Within m n = (rank call : ℕ) → m rank call ≡ true → n rank call ≡ true

-- so many calls are passed, in as many rounds as there are such calls
pub record IsSound (rows : Rows) (done : List ℕ) : Type 0 where
  pub ranks : length done ≡ length rows
  pub calls : (rank : ℕ) → slice_index done rank ≤ length (calls_of rows rank)
  pub sound : Within (counted done) (passed_in rows (sum done))

-- no rank's next call can pass
abbrev pub IsClosed : Rows → List ℕ → Type 0
IsClosed rows done = (rank : ℕ) → some_way rows (counted done) (needs_of rows rank (slice_index done rank)) ≡ false

-- the next call of a rank, where it has one
pub record IsNext (rows : Rows) (done : List ℕ) (place : Place) : Type 0 where
  pub next : place.call ≡ slice_index done place.rank
  pub is_call : is_some (needs_of rows place.rank place.call) ≡ true
