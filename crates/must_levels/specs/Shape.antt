-- The shape of a tree (docs/THREADS.md, "The tree").
use Rattle.std.specs.Prelude.{ℕ, ◌+◌, ◌*◌, ◌^◌, ◌≤◌, min}
use Rattle.must_entry.specs.declared.range.RankRange.{RankRange}

-- what a tree may be of: so many ranks, and so many children of a node
abbrev pub IsTree : (n fan_in : ℕ) → Type 0
IsTree n fan_in = (1 ≤ n) × (n ≤ 1024) × (2 ≤ fan_in) × (fan_in ≤ 64)

-- the least number of levels, of at least 1, whose root has all ranks
pub record IsLevels (n fan_in levels : ℕ) : Type 0 where
  pub some : 1 ≤ levels
  pub covers : n ≤ fan_in ^ levels
  pub least : (k : ℕ) → 1 ≤ k → n ≤ fan_in ^ k → levels ≤ k

-- the ranks of the i-th node of a level; level 0 is one rank
abbrev pub range_at : (n fan_in level i : ℕ) → RankRange
range_at n fan_in level i = record { from = i * fan_in ^ level; to = min ((i + 1) * fan_in ^ level) n }
