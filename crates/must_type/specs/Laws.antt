-- What the laws of type maps say.
use Rattle.std.specs.Prelude.{◌≡◌, ℕ, ◌<◌, ℤ, pos, ◌+ℤ◌, ◌*ℤ◌, ◌≤ℤ◌, ◌<ℤ◌, List}
use Rattle.std.specs.List.{AllByRecursion}
use Rattle.must_call.specs.declared.items.Dim.{Dim}
use Rattle.must_type.specs.Constructs.{cells_in}

-- a padding from 0 to below the alignment that makes the length a multiple of it; there is just one such number
pub record IsLeastPadding (length : ℤ) (alignment : ℕ) (padding : ℤ) : Type 0 where
  pub some : pos 0 ≤ℤ padding
  pub below : padding <ℤ pos alignment
  pub multiple : (k : ℤ) × (length +ℤ padding ≡ k *ℤ pos alignment)

-- each cell is one of the array
abbrev pub AreCellsOf : List Dim → List ℕ → Type 0
AreCellsOf dims cells = AllByRecursion (λ c. c < cells_in dims) cells
