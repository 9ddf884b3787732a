-- Sets of ranks that hold themselves.
use Rattle.std.specs.Prelude.{◌≡◌, ℕ, Bool, true, List, length, is_some}
use Rattle.must_call.specs.declared.place.Place.{Place}
use Rattle.must_wait.specs.Core.{blocked_at, holds, is_held, needs_at, kept_in}
use Rattle.must_wait.specs.Needs.{Rows}

-- of each rank whether it is in the core
abbrev pub in_core : Rows → List Place → ℕ → Bool
in_core rows blocked = kept_in rows blocked (length rows)

-- a rank is blocked, and the set holds its blocked call
pub record IsHeldBy (rows : Rows) (blocked : List Place) (set : ℕ → Bool) (rank : ℕ) : Type 0 where
  pub is_blocked : is_some (blocked_at blocked rank) ≡ true
  pub is_held : is_held (holds rows set) (needs_at rows (blocked_at blocked rank)) ≡ true

-- each rank of the set is held by the set
abbrev pub HoldsItself : Rows → List Place → (ℕ → Bool) → Type 0
HoldsItself rows blocked set = (rank : ℕ) → set rank ≡ true → IsHeldBy rows blocked set rank
