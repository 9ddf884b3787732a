-- Lanes of calls, one for each member.
use Rattle.std.specs.Prelude.{ℕ, List, [], ◌∷◌, ◌++◌, map, drop, slice_get, slice_set, Option, if◌then◌else◌}
use Rattle.std.specs.List.{slice_index_or}
use Rattle.must_coll.specs.declared.item.WaveItem.{WaveItem}
use Rattle.must_coll.specs.Waves.{has_gap}

-- the first call of each lane
abbrev pub fronts : List (List WaveItem) → List (Option WaveItem)
fronts lanes = map (λ (l : List WaveItem). slice_get l 0) lanes

-- a call goes behind the others of its lane
abbrev pub joined_at : List (List WaveItem) → ℕ → WaveItem → List (List WaveItem)
joined_at lanes position x = slice_set lanes position (slice_index_or lanes position [] ++ x ∷ [])

-- the lanes without their first calls
abbrev pub popped : List (List WaveItem) → List (List WaveItem)
popped lanes = map (λ (l : List WaveItem). drop 1 l) lanes

-- the lanes without the calls of a whole wave
abbrev pub without_whole : List (List WaveItem) → List (List WaveItem)
without_whole lanes = if has_gap (fronts lanes) then lanes else popped lanes

-- how many lanes a call fills that comes into this one
abbrev pub fills : List WaveItem → ℕ
fills [] = 1
fills (y ∷ ys) = 0
