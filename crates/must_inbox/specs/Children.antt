-- What one taker has of several children, whose batches come in any order (docs/THREADS.md, "Lawful lists"). A child goes by its
-- number; what was taken is a list of numbers with batches.
use Rattle.std.specs.Prelude.{◌≡◌, ◌<◌, ◌==◌, ℕ, true, cond, List, [], ◌∷◌, ◌++◌, filter, length, Some, slice_get}
use Rattle.std.specs.List.{AllByRecursion}
use Rattle.must_entry.specs.declared.range.RankRange.{RankRange}
use Rattle.must_entry.specs.declared.batch.Batch.{Batch}
use Rattle.must_entry.specs.Lawful.{in_range, IsLawful}

-- the batches of one child, in the order in which they were taken
abbrev pub of_child : ℕ → List (ℕ × Batch) → List Batch
of_child k [] = []
of_child k (m ∷ ms) = cond (m.0 == k) (m.1 ∷ of_child k ms) (of_child k ms)

-- the batches of all children, in that order
abbrev pub batches_of : List (ℕ × Batch) → List Batch
batches_of [] = []
batches_of (m ∷ ms) = m.1 ∷ batches_of ms

-- the batches of one rank
abbrev pub of_rank : ℕ → List Batch → List Batch
of_rank rank batches = filter (λ b. b.rank == rank) batches

-- no rank of the range is in one of these
abbrev pub IsApartFrom : List RankRange → RankRange → Type 0
IsApartFrom ranges range = (k rank : ℕ) (other : RankRange) → slice_get ranges k ≡ Some other → in_range other rank ≡ true → in_range range rank ≡ true → ⊥

-- no rank is in two of the ranges
abbrev pub AreApart : List RankRange → Type 0
AreApart ranges = (j k rank : ℕ) (a b : RankRange) → slice_get ranges j ≡ Some a → slice_get ranges k ≡ Some b → in_range a rank ≡ true → in_range b rank ≡ true → j ≡ k

-- each rank of one of the ranges is in the whole
abbrev pub AreCovered : List RankRange → RankRange → Type 0
AreCovered ranges whole = (k rank : ℕ) (range : RankRange) → slice_get ranges k ≡ Some range → in_range range rank ≡ true → in_range whole rank ≡ true

-- all come from children with numbers below the count
abbrev pub AreNumbered : ℕ → List (ℕ × Batch) → Type 0
AreNumbered count ms = AllByRecursion (λ m. m.0 < count) ms

-- the batches of each child are lawful for its range
abbrev pub AreLawful : List RankRange → List (ℕ × Batch) → Type 0
AreLawful ranges ms = (k : ℕ) (range : RankRange) → slice_get ranges k ≡ Some range → IsLawful range (of_child k ms)

-- what was taken of children that have these ranges by their numbers: no two share a rank, and each sent what is lawful for its range
pub record IsOrderly (ranges : List RankRange) (ms : List (ℕ × Batch)) : Type 0 where
  pub numbered : AreNumbered (length ranges) ms
  pub apart : AreApart ranges
  pub lawful : AreLawful ranges ms

-- joined children are numbers with what each sent in all: what was taken of each begins what it sent
abbrev pub HasFronts : List (ℕ × List Batch) → List (ℕ × Batch) → Type 0
HasFronts joined got = AllByRecursion (λ (j : ℕ × List Batch). (rest : List Batch) × (j.1 ≡ of_child j.0 got ++ rest)) joined

-- all that each of them sent was taken, in order
abbrev pub HasAll : List (ℕ × List Batch) → List (ℕ × Batch) → Type 0
HasAll joined got = AllByRecursion (λ (j : ℕ × List Batch). of_child j.0 got ≡ j.1) joined
