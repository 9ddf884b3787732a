-- What an append that ran out of memory leaves.
use Rattle.std.specs.Prelude.{◌≡◌, ℕ, List, ◌++◌, take}

-- what stood still stands, and behind it the first n bytes of the text: none, some or all
abbrev pub IsFrontBehind : List ℕ → List ℕ → List ℕ → Type 0
IsFrontBehind old text new = (n : ℕ) × (new ≡ old ++ take n text)
