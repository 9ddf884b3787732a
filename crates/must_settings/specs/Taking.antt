-- What was taken of a rules file.
use Rattle.std.specs.Prelude.{◌≡◌, ℕ, ◌++◌, List, Option, Some}

-- what was taken of these bytes and what is left are together these bytes
abbrev pub IsLeftOf : List ℕ → Option (List ℕ) → Type 0
IsLeftOf bytes left = (taken rest : List ℕ) × (left ≡ Some rest) × (bytes ≡ taken ++ rest)
