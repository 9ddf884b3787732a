-- Types by their numbers, as a table grows.
use Rattle.std.proofs.Common.{◌≡◌, refl, arith, ℕ, zero, suc, ◌≤◌, ◌<◌, List, [], ◌∷◌, ◌++◌, length, Option, Some, None}
use Rattle.must_call.specs.declared.basic.Basic.{Basic}
use Rattle.must_call.specs.declared.basic.Basic.TheVariants.{Char}
use Rattle.must_call.specs.Basics.{number_of_basic}
use Rattle.must_type.specs.Tree.{TypeTree, Elementary}
use Rattle.must_type.specs.Table.{tree_at, predefined}

-- a basic type stands at its number
pub basic_tree : (b : Basic) → tree_at predefined (number_of_basic b) ≡ Some (Elementary b)
basic_tree Char = refl
basic_tree _ = refl

-- what stands in front stays as more types are made
pub tree_in_front : (slots more : List (Option TypeTree)) (n : ℕ) → n < length slots → tree_at (slots ++ more) n ≡ tree_at slots n
tree_in_front [] more n h = absurd (omega arith)
tree_in_front (t ∷ slots) more zero h = refl
tree_in_front (t ∷ slots) more (suc n) h = tree_in_front slots more n (omega arith)

-- the next number is that of the type made last
pub tree_made : (slots : List (Option TypeTree)) (t : TypeTree) → tree_at (slots ++ Some t ∷ []) (length slots) ≡ Some t
tree_made [] t = refl
tree_made (s ∷ slots) t = tree_made slots t

-- no type stands past the last
pub tree_past : (slots : List (Option TypeTree)) (n : ℕ) → length slots ≤ n → tree_at slots n ≡ None
tree_past [] n h = refl
tree_past (t ∷ slots) zero h = absurd (omega arith)
tree_past (t ∷ slots) (suc n) h = tree_past slots n (omega arith)
