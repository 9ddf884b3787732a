-- The deadlock core (docs/WAITING.md, "Core").
use Rattle.std.specs.Prelude.{◌≡◌, ◌==◌, ℕ, zero, suc, Bool, true, false, not, ◌&&◌, List, length, find, Option, Some, None, is_some}
use Rattle.std.specs.List.{list_all, list_any}
use Rattle.std.specs.Ordering.{nat_cmp}
use Rattle.must_call.specs.declared.place.Place.{Place}
use Rattle.must_base.specs.Listing.{Lists}
use Rattle.must_wait.specs.Needs.{Needs, Rows, needs_of}
use Rattle.must_wait.specs.Replay.{reached, passed}

-- the blocked call of a rank
abbrev pub blocked_at : List Place → ℕ → Option Place
blocked_at blocked rank = find (λ (p : Place). p.rank == rank) blocked

-- a place that isn't reached, on a kept rank
abbrev pub holds : Rows → (ℕ → Bool) → Place → Bool
holds rows kept place = not (reached rows (passed rows) place.rank place.call) && kept place.rank

-- a call is held where it has an alternative, and each of them has a place that holds it
abbrev pub is_held : (Place → Bool) → Option Needs → Bool
is_held held None = false
is_held held (Some ways) = not (length ways == 0) && list_all (list_any held) ways

abbrev pub needs_at : Rows → Option Place → Option Needs
needs_at rows None = None
needs_at rows (Some place) = needs_of rows place.rank place.call

-- after so many rounds; at first all blocked ranks are kept
abbrev pub kept_in : Rows → List Place → ℕ → ℕ → Bool
kept_in rows blocked zero rank = is_some (blocked_at blocked rank)
kept_in rows blocked (suc round) rank = kept_in rows blocked round rank && is_held (holds rows (kept_in rows blocked round)) (needs_at rows (blocked_at blocked rank))

-- the core: the ranks that are kept after as many rounds as ranks
abbrev pub IsCore : Rows → List Place → List ℕ → Type 0
IsCore rows blocked ranks = Lists nat_cmp (λ rank. kept_in rows blocked (length rows) rank ≡ true) ranks
