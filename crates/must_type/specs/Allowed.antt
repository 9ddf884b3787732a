-- The numbers of a making call that are allowed (docs/TYPES.md): no count and no block length is negative, and a part
-- lies within its array.
use Rattle.std.specs.Prelude.{length, ℕ, ◌≤◌, ℤ, pos, ◌+ℤ◌, ◌≤ℤ◌, List}
use Rattle.std.specs.List.{AllByRecursion}
use Rattle.must_call.specs.declared.items.Dim.{Dim}
use Rattle.must_type.specs.declared.construct.Construct.{Construct}
use Rattle.must_type.specs.declared.construct.Construct.TheVariants.{Contiguous, Vector, Hvector, Indexed, Hindexed, IndexedBlock, HindexedBlock, Struct, Dup, Resized, Subarray}

abbrev pub IsCount : ℤ → Type 0
IsCount n = pos 0 ≤ℤ n

pub record IsPart (d : Dim) : Type 0 where
  pub size : pos 1 ≤ℤ d.size
  pub subsize : pos 1 ≤ℤ d.subsize
  pub start : pos 0 ≤ℤ d.start
  pub within : (d.start +ℤ d.subsize) ≤ℤ d.size

pub record IsArrayPart (order : ℕ) (dims : List Dim) : Type 0 where
  pub order_known : order ≤ 1
  pub dimension : 1 ≤ length dims
  pub parts : AllByRecursion IsPart dims

abbrev pub IsAllowed : Construct → Type 0
IsAllowed (Contiguous count old) = IsCount count
IsAllowed (Vector count blocklength stride old) = IsCount count × IsCount blocklength
IsAllowed (Hvector count blocklength stride old) = IsCount count × IsCount blocklength
IsAllowed (Indexed blocks old) = AllByRecursion (λ it. IsCount it.block) blocks
IsAllowed (Hindexed blocks old) = AllByRecursion (λ it. IsCount it.block) blocks
IsAllowed (IndexedBlock blocklength disps old) = IsCount blocklength
IsAllowed (HindexedBlock blocklength disps old) = IsCount blocklength
IsAllowed (Struct blocks) = AllByRecursion (λ it. IsCount it.block) blocks
IsAllowed (Dup old) = Unit {0}
IsAllowed (Resized lb extent old) = Unit {0}
IsAllowed (Subarray order dims old) = IsArrayPart order dims
