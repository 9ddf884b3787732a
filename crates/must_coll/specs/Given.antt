-- Findings that a list of calls gives.
use Rattle.std.specs.Prelude.{◌≡◌, ◌⊎◌, ◌+◌, ℕ, List, [], ◌∷◌, Option, Some, None}
use Rattle.must_find.specs.declared.finding.Finding.{Finding}
use Rattle.must_coll.specs.declared.item.WaveItem.{WaveItem}

-- a finding that one of some calls gives
abbrev pub GivenBy : (WaveItem → Option Finding) → List WaveItem → Finding → Type 0
GivenBy row [] f = ⊥
GivenBy row (x ∷ xs) f = (row x ≡ Some f) ⊎ GivenBy row xs f

-- a finding that one of some calls gives at its place; the first of these calls is at i
abbrev pub GivenFrom : (ℕ → WaveItem → Option Finding) → ℕ → List WaveItem → Finding → Type 0
GivenFrom row i [] f = ⊥
GivenFrom row i (x ∷ xs) f = (row i x ≡ Some f) ⊎ GivenFrom row (i + 1) xs f

-- the first finding that there is
abbrev pub or_else : Option Finding → Option Finding → Option Finding
or_else (Some f) rest = Some f
or_else None rest = rest
