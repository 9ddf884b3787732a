-- The replay: which calls are reached and passed, round by round (docs/WAITING.md, "Replay").
use Rattle.std.specs.Prelude.{◌≡◌, ℕ, zero, suc, Bool, true, false, ◌&&◌, List, Option, Some, None, is_some}
use Rattle.std.specs.List.{list_all, list_any}
use Rattle.must_call.specs.declared.place.Place.{Place}
use Rattle.must_base.specs.Listing.{Lists}
use Rattle.must_find.specs.Order.{by_spot}
use Rattle.must_wait.specs.Needs.{Needs, Rows, needs_of, call_count}

-- for each rank and call whether something holds
abbrev pub Marks : Type 0
Marks = ℕ → ℕ → Bool

-- the call before is passed, or there is none
abbrev pub follows : Marks → ℕ → ℕ → Bool
follows passed rank zero = true
follows passed rank (suc call) = passed rank call

-- a call is reached where it is the first of its rank or its predecessor is passed; a place that is no call never is
abbrev pub reached : Rows → Marks → Marks
reached rows passed rank call = is_some (needs_of rows rank call) && follows passed rank call

-- all places of some alternative are reached
abbrev pub some_way : Rows → Marks → Option Needs → Bool
some_way rows passed None = false
some_way rows passed (Some ways) = list_any (list_all (λ (p : Place). reached rows passed p.rank p.call)) ways

-- in the next round a call is passed where it was reached, and all places of some alternative were
abbrev pub next_round : Rows → Marks → Marks
next_round rows passed rank call = reached rows passed rank call && some_way rows passed (needs_of rows rank call)

-- after so many rounds; in round 0 no call is passed
abbrev pub passed_in : Rows → ℕ → Marks
passed_in rows zero rank call = false
passed_in rows (suc round) rank call = next_round rows (passed_in rows round) rank call

-- after as many rounds as calls
abbrev pub passed : Rows → Marks
passed rows = passed_in rows (call_count rows)

-- a rank is blocked at its reached call that isn't passed
pub record IsBlocked (rows : Rows) (place : Place) : Type 0 where
  pub is_reached : reached rows (passed rows) place.rank place.call ≡ true
  pub not_passed : passed rows place.rank place.call ≡ false

-- the blocked calls by rank
abbrev pub IsBlockedList : Rows → List Place → Type 0
IsBlockedList rows places = Lists by_spot (IsBlocked rows) places
