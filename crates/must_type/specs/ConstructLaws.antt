-- Laws of making calls: how many old types one names, and that what it makes doesn't depend on their numbers.
use Rattle.std.proofs.Common.{◌≡◌, refl, sym, ◌∙◌, ap, subst, ℕ, ◌+◌, List, [], ◌∷◌, ◌++◌, map, length}
use Rattle.std.specs.Prelude.{◌↔◌}
use Rattle.std.specs.List.{AllByRecursion, zip}
use Rattle.must_type.specs.declared.construct.StructItem.{StructItem}
use Rattle.must_type.specs.declared.construct.Construct.{Construct}
use Rattle.must_type.specs.declared.construct.Construct.TheVariants.{Contiguous, Vector, Hvector, Indexed, Hindexed, IndexedBlock, HindexedBlock, Struct, Dup, Resized, Subarray}
use Rattle.must_type.specs.declared.construct.TypeNo.{TypeNo}
use Rattle.must_type.specs.Maps.{Entry, block}
use Rattle.must_type.specs.Constructs.{natural, map_of, struct_map}
use Rattle.must_type.specs.Weights.{Old, weigh, weight_of, struct_weight}
use Rattle.must_type.specs.Allowed.{IsAllowed, IsCount}
use Rattle.must_type.specs.Olds.{old_numbers, HasOneOld}

-- a call with one old type names one
pub one_number : (c : Construct) → HasOneOld c → length (old_numbers c) ≡ 1
one_number (Struct blocks) h = absurd h
one_number _ h = refl

-- the call with 0 in place of each number of an old type
abbrev nothing : TypeNo
nothing = record { number = 0 }

abbrev pub without_old : StructItem → StructItem
without_old it = record { block = it.block; disp = it.disp; old = nothing }

abbrev pub without_numbers : Construct → Construct
without_numbers (Contiguous count old) = Contiguous count nothing
without_numbers (Vector count blocklength stride old) = Vector count blocklength stride nothing
without_numbers (Hvector count blocklength stride old) = Hvector count blocklength stride nothing
without_numbers (Indexed blocks old) = Indexed blocks nothing
without_numbers (Hindexed blocks old) = Hindexed blocks nothing
without_numbers (IndexedBlock blocklength disps old) = IndexedBlock blocklength disps nothing
without_numbers (HindexedBlock blocklength disps old) = HindexedBlock blocklength disps nothing
without_numbers (Struct blocks) = Struct (map without_old blocks)
without_numbers (Dup old) = Dup nothing
without_numbers (Resized lb extent old) = Resized lb extent nothing
without_numbers (Subarray order dims old) = Subarray order dims nothing

struct_map_is : (blocks : List StructItem) (olds : List (List Entry)) → struct_map (map without_old blocks) olds ≡ struct_map blocks olds
struct_map_is [] olds = refl
struct_map_is (it ∷ blocks) [] = refl
struct_map_is (it ∷ blocks) (T ∷ olds) = ap (λ l. block (natural it.block) T it.disp ++ l) (struct_map_is blocks olds)

map_is : (c : Construct) (olds : List (List Entry)) → map_of (without_numbers c) olds ≡ map_of c olds
map_is (Struct blocks) olds = struct_map_is blocks olds
map_is _ olds = refl

struct_weight_is : (blocks : List StructItem) (olds : List Old) → struct_weight (map without_old blocks) olds ≡ struct_weight blocks olds
struct_weight_is [] olds = refl
struct_weight_is (it ∷ blocks) [] = refl
struct_weight_is (it ∷ blocks) (T ∷ olds) = ap (λ (n : ℕ). weigh (natural it.block) T + n) (struct_weight_is blocks olds)

weight_is : (c : Construct) (olds : List Old) → weight_of (without_numbers c) olds ≡ weight_of c olds
weight_is (Struct blocks) olds = struct_weight_is blocks olds
weight_is _ olds = refl

counts_in : (blocks : List StructItem) → AllByRecursion (λ it. IsCount it.block) (map without_old blocks) → AllByRecursion (λ it. IsCount it.block) blocks
counts_in [] h = h
counts_in (it ∷ blocks) h = (h.0, counts_in blocks h.1)

counts_out : (blocks : List StructItem) → AllByRecursion (λ it. IsCount it.block) blocks → AllByRecursion (λ it. IsCount it.block) (map without_old blocks)
counts_out [] h = h
counts_out (it ∷ blocks) h = (h.0, counts_out blocks h.1)

allowed_in : (c : Construct) → IsAllowed (without_numbers c) → IsAllowed c
allowed_in (Struct blocks) h = counts_in blocks h
allowed_in _ h = h

allowed_out : (c : Construct) → IsAllowed c → IsAllowed (without_numbers c)
allowed_out (Struct blocks) h = counts_out blocks h
allowed_out _ h = h

-- Two calls that differ only in the numbers of their old types make the same map of the same maps, weigh the same, and
-- are allowed alike.
pub record MakeTheSame (c d : Construct) : Type 0 where
  pub map_is : (olds : List (List Entry)) → map_of c olds ≡ map_of d olds
  pub weight_is : (olds : List Old) → weight_of c olds ≡ weight_of d olds
  pub allowed : IsAllowed c ↔ IsAllowed d

pub numbers_dont_matter : (c d : Construct) → without_numbers c ≡ without_numbers d → MakeTheSame c d
numbers_dont_matter c d e =
    record {
      map_is = λ olds. sym (map_is c olds) ∙ ap (λ x. map_of x olds) e ∙ map_is d olds;
      weight_is = λ olds. sym (weight_is c olds) ∙ ap (λ x. weight_of x olds) e ∙ weight_is d olds;
      allowed = (λ h. allowed_in d (subst IsAllowed e (allowed_out c h)), λ h. allowed_in c (subst IsAllowed (sym e) (allowed_out d h)));
    }
