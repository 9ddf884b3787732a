-- What is known of a rank beside its calls.
use Rattle.std.specs.Prelude.{ℕ, ℤ, Option, Some}
use Rattle.must_call.specs.declared.place.Place.{Place}

-- its number, the number of ranks, the version of its stream, and its greatest tag
pub record Rank : Type 0 where
  pub rank : ℕ
  pub size : ℕ
  pub version : ℕ
  pub tag_ub : ℤ

-- the finding sees this call of a rank
abbrev pub seen : ℕ → ℕ → Option Place
seen rank call = Some (record { rank = rank; call = call })
