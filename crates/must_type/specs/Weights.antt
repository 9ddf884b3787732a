-- The weight of a derived type, from its making call and the weights of its old types (docs/TYPES.md).
use Rattle.std.specs.Prelude.{Bool, sum_by, ℕ, ◌+◌, ◌*◌, ◌==◌, ◌&&◌, if◌then◌else◌, ℤ, pos, List, [], ◌∷◌}
use Rattle.std.specs.Ordering.{int_eq}
use Rattle.must_call.specs.declared.items.Dim.{Dim}
use Rattle.must_type.specs.declared.construct.StructItem.{StructItem}
use Rattle.must_type.specs.declared.construct.Construct.{Construct}
use Rattle.must_type.specs.declared.construct.Construct.TheVariants.{Contiguous, Vector, Hvector, Indexed, Hindexed, IndexedBlock, HindexedBlock, Struct, Dup, Resized, Subarray}
use Rattle.must_type.specs.Constructs.{natural, slow_first}

-- What the weight of a call takes from an old type: its weight, size and extent.
pub record Old : Type 0 where
  pub weight : ℕ
  pub size : ℕ
  pub extent : ℤ

abbrev pub is_dense : Old → Bool
is_dense T = (T.weight == 1) && int_eq (pos T.size) T.extent

-- The weight of `count` elements: the byte ranges that they take at most. Elements of one range that lie side by
-- side are one range.
abbrev pub weigh : ℕ → Old → ℕ
weigh count T = if count == 0 then 0 else if is_dense T then 1 else count * T.weight

-- all subsizes but the fastest dimension's, times the weight of the fastest
abbrev pub part_weight : List Dim → Old → ℕ
part_weight [] T = 0
part_weight (d ∷ []) T = weigh (natural d.subsize) T
part_weight (d ∷ e ∷ ds) T = natural d.subsize * part_weight (e ∷ ds) T

-- the weights of the blocks of a Struct, each with the old type in its place
abbrev pub struct_weight : List StructItem → List Old → ℕ
struct_weight [] olds = 0
struct_weight (it ∷ blocks) [] = 0
struct_weight (it ∷ blocks) (T ∷ olds) = weigh (natural it.block) T + struct_weight blocks olds

abbrev pub old_of : List Old → Old
old_of [] = record { weight = 0; size = 0; extent = pos 0 }
old_of (T ∷ olds) = T

abbrev pub weight_of : Construct → List Old → ℕ
weight_of (Contiguous count old) olds = weigh (natural count) (old_of olds)
weight_of (Vector count blocklength stride old) olds = natural count * weigh (natural blocklength) (old_of olds)
weight_of (Hvector count blocklength stride old) olds = natural count * weigh (natural blocklength) (old_of olds)
weight_of (Indexed blocks old) olds = sum_by (λ it. weigh (natural it.block) (old_of olds)) blocks
weight_of (Hindexed blocks old) olds = sum_by (λ it. weigh (natural it.block) (old_of olds)) blocks
weight_of (IndexedBlock blocklength disps old) olds = sum_by (λ d. weigh (natural blocklength) (old_of olds)) disps
weight_of (HindexedBlock blocklength disps old) olds = sum_by (λ d. weigh (natural blocklength) (old_of olds)) disps
weight_of (Struct blocks) olds = struct_weight blocks olds
weight_of (Dup old) olds = (old_of olds).weight
weight_of (Resized lb extent old) olds = (old_of olds).weight
weight_of (Subarray order dims old) olds = part_weight (slow_first order dims) (old_of olds)
