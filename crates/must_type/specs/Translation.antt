-- From a recorded call on datatypes to the call of this crate: handles stand for types by some table of the caller's.
use Rattle.std.specs.Prelude.{ℕ, List, [], ◌∷◌, Option, Some, None}
use Rattle.std.specs.Option.{option_map}
use Rattle.must_call.specs.declared.items.StructBlock.{StructBlock}
use Rattle.must_call.specs.declared.derive.Derive.{Derive}
use Rattle.must_call.specs.declared.derive.Derive.TheVariants.{TypeContiguous, TypeVector, TypeHvector, TypeIndexed, TypeHindexed, TypeIndexedBlock, TypeHindexedBlock, TypeStruct, TypeDup, TypeResized, TypeSubarray, TypeCommit, TypeFree}
use Rattle.must_type.specs.declared.construct.TypeNo.{TypeNo}
use Rattle.must_type.specs.declared.construct.StructItem.{StructItem}
use Rattle.must_type.specs.declared.construct.Construct.{Construct}
use Rattle.must_type.specs.declared.construct.Construct.TheVariants.{Contiguous, Vector, Hvector, Indexed, Hindexed, IndexedBlock, HindexedBlock, Struct, Dup, Resized, Subarray}

-- the block with its type
abbrev pub item_of : StructBlock → TypeNo → StructItem
item_of b old = record { block = b.block; disp = b.disp; old = old }

abbrev pub item_first : StructBlock → Option TypeNo → Option (List StructItem) → Option (List StructItem)
item_first b None items = None
item_first b (Some old) None = None
item_first b (Some old) (Some items) = Some (item_of b old ∷ items)

-- the blocks with their types, where each has one
abbrev pub items_of : (ℕ → Option TypeNo) → List StructBlock → Option (List StructItem)
items_of types [] = Some []
items_of types (b ∷ bs) = item_first b (types b.old) (items_of types bs)

-- The call that makes a type, where each old handle of the recorded call stands for one; none where some handle doesn't,
-- and none of a commit or a free.
abbrev pub construct_of : (ℕ → Option TypeNo) → Derive → Option Construct
construct_of types (TypeContiguous count old made) = option_map (λ t. Contiguous count t) (types old)
construct_of types (TypeVector count block stride old made) = option_map (λ t. Vector count block stride t) (types old)
construct_of types (TypeHvector count block stride old made) = option_map (λ t. Hvector count block stride t) (types old)
construct_of types (TypeIndexed blocks old made) = option_map (λ t. Indexed blocks t) (types old)
construct_of types (TypeHindexed blocks old made) = option_map (λ t. Hindexed blocks t) (types old)
construct_of types (TypeIndexedBlock block disps old made) = option_map (λ t. IndexedBlock block disps t) (types old)
construct_of types (TypeHindexedBlock block disps old made) = option_map (λ t. HindexedBlock block disps t) (types old)
construct_of types (TypeStruct blocks made) = option_map (λ items. Struct items) (items_of types blocks)
construct_of types (TypeDup old made) = option_map (λ t. Dup t) (types old)
construct_of types (TypeResized lb extent old made) = option_map (λ t. Resized lb extent t) (types old)
construct_of types (TypeSubarray order dims old made) = option_map (λ t. Subarray order dims t) (types old)
construct_of types (TypeCommit dtype) = None
construct_of types (TypeFree dtype) = None

-- any call but a struct
abbrev pub IsWithoutBlocks : Derive → Type 0
IsWithoutBlocks (TypeStruct blocks made) = ⊥
IsWithoutBlocks _ = Unit {0}
