-- The core as a worklist: each alternative of a kept rank is watched at a place that holds it.
use Rattle.std.specs.Prelude.{◌≡◌, ◌==◌, ℕ, ◌+◌, ◌≤◌, ◌<◌, ◌⊎◌, ◌++◌, ◌∷◌, [], Bool, true, false, List, Option, Some, None, length, slice_set}
use Rattle.std.specs.List.{slice_index_or}
use Rattle.must_call.specs.declared.place.Place.{Place}
use Rattle.must_base.specs.Listing.{Has}
use Rattle.must_wait.specs.declared.dropping.Dropping.{Dropping}
use Rattle.must_wait.specs.declared.worklist.Watch.{Watch}
use Rattle.must_wait.specs.Keeping.{kept_call, holds_yet, kept_count, IsKeptSome}
use Rattle.must_wait.specs.Needs.{Rows, needs_of}
use Rattle.must_wait.specs.Replay.{IsBlockedList}
use Rattle.must_wait.specs.Watching.{HasWatch, way_at, ways_in}

-- the blocked calls of the kept ranks, the watches at each rank, and the dropped ranks whose watches weren't looked at yet
pub record CoreState : Type 0 where
  pub kept : List (Option ℕ)
  pub watches : List (List Watch)
  pub dropped : List ℕ

abbrev pub core_state : Dropping → CoreState
core_state d = record { kept = d.kept.items; watches = d.watches.items; dropped = d.dropped.items }

abbrev pub is_call_at : Option ℕ → ℕ → Bool
is_call_at None call = false
is_call_at (Some kept) call = kept == call

-- a place that holds an alternative, or was dropped and not looked at since, with its watch
pub record HeldAt (s : CoreState) (rank call way : ℕ) (places : List Place) (at : Place) : Type 0 where
  pub among : Has places at
  pub holds : (holds_yet s.kept at ≡ true) ⊎ Has s.dropped at.rank
  pub watch : HasWatch (slice_index_or s.watches at.rank []) rank call way

-- an alternative of a rank's blocked call, if that is kept
abbrev pub IsHeldWay : Rows → CoreState → ℕ → ℕ → Type 0
IsHeldWay rows s rank way = (call : ℕ) (places : List Place) → kept_call s.kept rank ≡ Some call → way_at rows rank call way ≡ Some places → (at : Place) × HeldAt s rank call way places at

abbrev pub AllWaysHeld : Rows → CoreState → Type 0
AllWaysHeld rows s = (rank way : ℕ) → IsHeldWay rows s rank way

-- looked at
abbrev pub WasLooked : Rows → CoreState → ℕ → ℕ → ℕ → Type 0
WasLooked rows s rank call way = kept_call s.kept rank ≡ Some call → IsHeldWay rows s rank way

-- a kept rank has an alternative
abbrev pub HasWays : Rows → List (Option ℕ) → Type 0
HasWays rows kept = (rank call : ℕ) → kept_call kept rank ≡ Some call → 0 < length (ways_in (needs_of rows rank call))

pub record IsCoreReady (rows : Rows) (s : CoreState) : Type 0 where
  pub kept : length s.kept ≡ length rows
  pub watches : length s.watches ≡ length rows
  pub dropped : (rank : ℕ) → Has s.dropped rank → rank < length rows

-- a step
pub record CoreSteps (rows : Rows) (s t : CoreState) : Type 0 where
  pub ready : IsCoreReady rows t
  pub keeps : (rank way : ℕ) → IsHeldWay rows t rank way ⊎ ((kept_call t.kept rank ≡ kept_call s.kept rank) × (IsHeldWay rows s rank way → IsHeldWay rows t rank way))
  pub less : (rank call : ℕ) → kept_call t.kept rank ≡ Some call → kept_call s.kept rank ≡ Some call
  pub rounds : (blocked : List Place) → IsBlockedList rows blocked → IsKeptSome rows blocked s.kept → IsKeptSome rows blocked t.kept
  pub count : length t.dropped + kept_count t.kept ≤ length s.dropped + kept_count s.kept

-- with one more dropped rank to look at
abbrev pub with_dropped : CoreState → ℕ → CoreState
with_dropped s rank = record { kept = s.kept; watches = s.watches; dropped = s.dropped ++ rank ∷ [] }

-- after the watches at a rank were taken
abbrev pub core_taken : CoreState → ℕ → CoreState
core_taken s rank = record { kept = s.kept; watches = slice_set s.watches rank []; dropped = s.dropped }
