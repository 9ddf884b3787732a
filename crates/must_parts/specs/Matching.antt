-- Lists of which each item stands for one of the other.
use Rattle.std.specs.Prelude.{List, [], ◌∷◌, Option, Some, None}

abbrev pub Matched : {X Y : Type 0} → (X → Y → Type 0) → List X → List Y → Type 0
Matched R [] [] = Unit {0}
Matched R (x ∷ xs) (y ∷ ys) = R x y × Matched R xs ys
Matched R _ _ = ⊥

-- one is there exactly where the other is
abbrev pub MatchedOption : {X Y : Type 0} → (X → Y → Type 0) → Option X → Option Y → Type 0
MatchedOption R None None = Unit {0}
MatchedOption R (Some x) (Some y) = R x y
MatchedOption R _ _ = ⊥
