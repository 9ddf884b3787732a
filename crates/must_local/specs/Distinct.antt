-- Lists in which nothing stands twice.
use Rattle.std.specs.Prelude.{List, [], ◌∷◌}
use Rattle.must_base.specs.Listing.{Has}

abbrev pub AreDistinct : {X : Type 0} → List X → Type 0
AreDistinct [] = Unit {0}
AreDistinct (x ∷ xs) = (Has xs x → ⊥) × AreDistinct xs
