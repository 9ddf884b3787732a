-- A table of types: which types have which numbers, and the limit of their weights (docs/TYPES.md).
use Rattle.std.specs.Prelude.{ℕ, zero, suc, ◌+◌, ℤ, pos, List, [], ◌∷◌, ◌++◌, map, Option, Some, None}
use Rattle.std.specs.Option.{IsSome}
use Rattle.std.specs.List.{AllByRecursion}
use Rattle.must_call.specs.declared.basic.Basic.{Basic}
use Rattle.must_call.specs.declared.basic.Basic.TheVariants.{Short, Int, Long, Float, Double}
use Rattle.must_call.specs.Basics.{basics}
use Rattle.must_type.specs.declared.construct.Construct.{Construct}
use Rattle.must_type.specs.declared.construct.Construct.TheVariants.{Contiguous, Struct}
use Rattle.must_type.specs.declared.tree.Origin.TheVariants.{Predefined, Derived}
use Rattle.must_type.specs.Weights.{weigh}
use Rattle.must_type.specs.Olds.{old_numbers}
use Rattle.must_type.specs.Tree.{TypeTree, Trees, Elementary, Made, none, more, weight, as_old}

-- the limit, and the types by their numbers; a number that is free has none
pub record Types : Type 0 where
  pub weight_limit : ℕ
  pub slots : List (Option TypeTree)

-- the type of a number, where it is live
abbrev pub tree_at : List (Option TypeTree) → ℕ → Option TypeTree
tree_at [] n = None
tree_at (t ∷ slots) zero = t
tree_at (t ∷ slots) (suc n) = tree_at slots n

abbrev pub push : Option TypeTree → Trees → Trees
push None ts = ts
push (Some t) ts = more t ts

-- the types of some numbers
abbrev pub trees_at : List (Option TypeTree) → List ℕ → Trees
trees_at slots [] = none
trees_at slots (n ∷ ns) = push (tree_at slots n) (trees_at slots ns)

-- what a call makes of the types that it names
abbrev pub made_of : List (Option TypeTree) → Construct → TypeTree
made_of slots call = Made Derived call (trees_at slots (old_numbers call))

abbrev pub AreLive : List (Option TypeTree) → List ℕ → Type 0
AreLive slots numbers = AllByRecursion (λ n. IsSome (tree_at slots n)) numbers

-- the weight that counts for the limit: that of a live derived type
abbrev pub slot_weight : Option TypeTree → ℕ
slot_weight None = 0
slot_weight (Some (Elementary b)) = 0
slot_weight (Some (Made Predefined call olds)) = 0
slot_weight (Some (Made Derived call olds)) = weight (Made Derived call olds)

abbrev pub live_weight : List (Option TypeTree) → ℕ
live_weight [] = 0
live_weight (t ∷ slots) = slot_weight t + live_weight slots

abbrev pub IsDerived : Option TypeTree → Type 0
IsDerived None = ⊥
IsDerived (Some (Elementary b)) = ⊥
IsDerived (Some (Made Predefined call olds)) = ⊥
IsDerived (Some (Made Derived call olds)) = Unit {0}

-- the weight of `count` elements of a type
abbrev pub message_weight : ℕ → TypeTree → ℕ
message_weight count t = weigh count (as_old t)

-- a value of the first type, and an int behind it
abbrev pub pair_call : ℕ → ℤ → Construct
pair_call first at = Struct (record { block = pos 1; disp = pos 0; old = record { number = first } } ∷ record { block = pos 1; disp = at; old = record { number = 7 } } ∷ [])

abbrev pub pair : Basic → ℕ → ℤ → TypeTree
pair first number at = Made Predefined (pair_call number at) (more (Elementary first) (more (Elementary Int) none))

abbrev pub two_ints : TypeTree
two_ints = Made Predefined (Contiguous (pos 2) (record { number = 7 })) (more (Elementary Int) none)

-- the types with the numbers 26 to 30 (MPI 3.1, 5.9.4), with displacements after 64-bit Linux C
abbrev pub pairs : List TypeTree
pairs = pair Float 13 (pos 4) ∷ pair Double 14 (pos 8) ∷ pair Long 9 (pos 8) ∷ pair Short 5 (pos 4) ∷ two_ints ∷ []

-- the numbers up to 25; none has the number 0
abbrev pub basic_types : List (Option TypeTree)
basic_types = None ∷ map (λ b. Some (Elementary b)) basics

-- the types that are there from the start
abbrev pub predefined : List (Option TypeTree)
predefined = basic_types ++ map (λ t. Some t) pairs
