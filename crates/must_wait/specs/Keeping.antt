-- A core under way: the blocked calls of the ranks that are kept so far.
use Rattle.std.specs.Prelude.{◌≡◌, ℕ, ◌+◌, ◌≤◌, Bool, true, false, List, length, nat_lt, Option, Some, None, is_some, sum_by, cond}
use Rattle.std.specs.List.{slice_index_or}
use Rattle.must_call.specs.declared.place.Place.{Place}
use Rattle.must_wait.specs.Core.{is_held, kept_in}
use Rattle.must_wait.specs.Needs.{Rows, needs_of}
use Rattle.must_wait.specs.Replay.{IsBlocked}

-- the blocked call of a rank that is kept
abbrev pub kept_call : List (Option ℕ) → ℕ → Option ℕ
kept_call kept rank = slice_index_or kept rank None

abbrev pub behind : Option ℕ → ℕ → Bool
behind None call = false
behind (Some blocked) call = nat_lt blocked call

-- a place behind the blocked call of a kept rank
abbrev pub holds_yet : List (Option ℕ) → Place → Bool
holds_yet kept place = behind (kept_call kept place.rank) place.call

abbrev pub kept_count : List (Option ℕ) → ℕ
kept_count kept = sum_by (λ call. cond (is_some call) 1 0) kept

-- the calls are blocked ones, and so many rounds keep no other rank
pub record IsKept (rows : Rows) (blocked : List Place) (rounds : ℕ) (kept : List (Option ℕ)) : Type 0 where
  pub ranks : length kept ≡ length rows
  pub calls : (rank call : ℕ) → kept_call kept rank ≡ Some call → IsBlocked rows (record { rank = rank; call = call })
  pub all : (rank : ℕ) → kept_in rows blocked rounds rank ≡ true → is_some (kept_call kept rank) ≡ true
  pub count : rounds + kept_count kept ≤ length rows

-- each kept rank is held
abbrev pub AllHeld : Rows → List (Option ℕ) → Type 0
AllHeld rows kept = (rank call : ℕ) → kept_call kept rank ≡ Some call → is_held (holds_yet kept) (needs_of rows rank call) ≡ true

-- after some rounds
abbrev pub IsKeptSome : Rows → List Place → List (Option ℕ) → Type 0
IsKeptSome rows blocked kept = (rounds : ℕ) × IsKept rows blocked rounds kept

-- these are the blocked calls of a run, each at its rank
pub record AreBlocked (rows : Rows) (calls : List (Option ℕ)) : Type 0 where
  pub are : (rank call : ℕ) → kept_call calls rank ≡ Some call → IsBlocked rows (record { rank = rank; call = call })
  pub all : (rank call : ℕ) → IsBlocked rows (record { rank = rank; call = call }) → is_some (kept_call calls rank) ≡ true
