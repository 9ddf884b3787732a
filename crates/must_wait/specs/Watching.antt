-- The replay as a worklist: each alternative of a rank's next call is watched at one of its places.
use Rattle.std.specs.Prelude.{◌≡◌, ℕ, ◌+◌, ◌≤◌, ◌<◌, ◌⊎◌, ◌^◌, ◌++◌, ◌∷◌, [], true, false, List, Option, Some, None, length, slice_index, slice_get, slice_set, is_some, sum}
use Rattle.std.specs.List.{slice_index_or}
use Rattle.must_call.specs.declared.place.Place.{Place}
use Rattle.must_base.specs.Listing.{Has}
use Rattle.must_wait.specs.declared.worklist.Watch.{Watch}
use Rattle.must_wait.specs.declared.worklist.Worklist.{Worklist}
use Rattle.must_wait.specs.Counted.{counted, IsSound}
use Rattle.must_wait.specs.Needs.{Needs, Rows, needs_of, calls_of}
use Rattle.must_wait.specs.Replay.{reached}

-- the passed calls of each rank, the slot of each rank's first call, the watches of each slot, and the reached calls that weren't looked at yet
pub record State : Type 0 where
  pub done : List ℕ
  pub first : List ℕ
  pub watches : List (List Watch)
  pub fresh : List Place

abbrev pub state_of : Worklist → State
state_of w = record { done = w.done.items; first = w.first.items; watches = w.watches.items; fresh = w.fresh.items }

abbrev pub ways_in : Option Needs → Needs
ways_in None = []
ways_in (Some ways) = ways

-- an alternative of a call
abbrev pub way_at : Rows → ℕ → ℕ → ℕ → Option (List Place)
way_at rows rank call way = slice_get (ways_in (needs_of rows rank call)) way

abbrev pub HasPlace : List Place → ℕ → ℕ → Type 0
HasPlace [] rank call = ⊥
HasPlace (p ∷ ps) rank call = ((p.rank ≡ rank) × (p.call ≡ call)) ⊎ HasPlace ps rank call

abbrev pub HasWatch : List Watch → ℕ → ℕ → ℕ → Type 0
HasWatch [] rank call way = ⊥
HasWatch (w ∷ ws) rank call way = ((w.rank ≡ rank) × (w.call ≡ call) × (w.way ≡ way)) ⊎ HasWatch ws rank call way

abbrev pub slot : State → ℕ → ℕ → ℕ
slot s rank call = slice_index s.first rank + call

abbrev pub watches_at : State → ℕ → List Watch
watches_at s at = slice_index_or s.watches at []

-- a place that isn't reached, or was not looked at since
abbrev pub Pends : Rows → State → ℕ → ℕ → Type 0
Pends rows s rank call = (reached rows (counted s.done) rank call ≡ false) ⊎ HasPlace s.fresh rank call

-- a place of an alternative at which that waits: a call has the watch; what is no call is never reached
pub record WaitsAt (rows : Rows) (s : State) (rank way : ℕ) (places : List Place) (at : Place) : Type 0 where
  pub among : Has places at
  pub pends : Pends rows s at.rank at.call
  pub watch : is_some (needs_of rows at.rank at.call) ≡ true → HasWatch (watches_at s (slot s at.rank at.call)) rank (slice_index s.done rank) way

-- an alternative of a rank's next call is watched, unless that call is still to be looked at
abbrev pub IsWatched : Rows → State → ℕ → ℕ → Type 0
IsWatched rows s rank way = (places : List Place) → way_at rows rank (slice_index s.done rank) way ≡ Some places
    → HasPlace s.fresh rank (slice_index s.done rank) ⊎ ((at : Place) × WaitsAt rows s rank way places at)

abbrev pub AllWatched : Rows → State → Type 0
AllWatched rows s = (rank way : ℕ) → IsWatched rows s rank way

-- looked at: the call is passed since, or its alternative is watched
abbrev pub IsSettled : Rows → State → ℕ → ℕ → ℕ → Type 0
IsSettled rows s rank call way = call ≡ slice_index s.done rank → IsWatched rows s rank way

-- each alternative stays watched, or is one of a new next call, and watched
abbrev pub Keeps : Rows → State → State → Type 0
Keeps rows s t = (rank way : ℕ) → IsWatched rows t rank way ⊎ ((slice_index t.done rank ≡ slice_index s.done rank) × (IsWatched rows s rank way → IsWatched rows t rank way))

pub record IsReady (rows : Rows) (s : State) : Type 0 where
  pub sound : IsSound rows s.done
  pub firsts : length s.first ≡ length rows
  pub slots : (rank call : ℕ) → is_some (needs_of rows rank call) ≡ true → slot s rank call < length s.watches
  pub few : (rank : ℕ) → length (calls_of rows rank) ≤ 2 ^ 31
  pub calls : (rank call : ℕ) → HasPlace s.fresh rank call → is_some (needs_of rows rank call) ≡ true

-- a step: calls that are reached anew are as many as those passed, at most
pub record Steps (rows : Rows) (s t : State) : Type 0 where
  pub ready : IsReady rows t
  pub keeps : Keeps rows s t
  pub fresh : length t.fresh + sum s.done ≤ length s.fresh + sum t.done

-- with one more call to look at
abbrev pub with_fresh : State → Place → State
with_fresh s p = record { done = s.done; first = s.first; watches = s.watches; fresh = s.fresh ++ p ∷ [] }

-- after the watches of a slot were taken
abbrev pub taken : State → ℕ → State
taken s at = record { done = s.done; first = s.first; watches = slice_set s.watches at []; fresh = s.fresh }
