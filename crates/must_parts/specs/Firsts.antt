-- The least address with a property.
use Rattle.std.specs.Prelude.{ℤ, ◌≤ℤ◌, Option, Some, None}

pub record IsLeast (P : ℤ → Type 0) (x : ℤ) : Type 0 where
  pub holds : P x
  pub least : (y : ℤ) → P y → x ≤ℤ y

-- none where no address has it
abbrev pub IsFirstOf : (ℤ → Type 0) → Option ℤ → Type 0
IsFirstOf P None = (x : ℤ) → P x → ⊥
IsFirstOf P (Some x) = IsLeast P x
