-- What is true of each type that a table of handles tells is true of the old types of the calls that come of it.
use Rattle.std.proofs.Common.{◌≡◌, refl, ap, subst, ℕ, List, [], ◌∷◌, Option, Some, None, map}
use Rattle.std.specs.Option.{option_map}
use Rattle.std.specs.List.{AllByRecursion}
use Rattle.must_call.specs.declared.items.StructBlock.{StructBlock}
use Rattle.must_call.specs.declared.derive.Derive.{Derive}
use Rattle.must_call.specs.declared.derive.Derive.TheVariants.{TypeContiguous, TypeVector, TypeHvector, TypeIndexed, TypeHindexed, TypeIndexedBlock, TypeHindexedBlock, TypeStruct, TypeDup, TypeResized, TypeSubarray, TypeCommit, TypeFree}
use Rattle.must_type.specs.declared.construct.TypeNo.{TypeNo}
use Rattle.must_type.specs.declared.construct.StructItem.{StructItem}
use Rattle.must_type.specs.declared.construct.Construct.{Construct}
use Rattle.must_type.specs.declared.construct.Construct.TheVariants.{Contiguous, Vector, Hvector, Indexed, Hindexed, IndexedBlock, HindexedBlock, Struct, Dup, Resized, Subarray}
use Rattle.must_type.specs.Olds.{old_numbers}
use Rattle.must_type.specs.Translation.{item_of, item_first, items_of, construct_of}

-- P holds for the numbers of the call's old types
abbrev HoldsFor : (ℕ → Type 0) → Option Construct → Type 0
HoldsFor P None = Unit {0}
HoldsFor P (Some c) = AllByRecursion P (old_numbers c)

abbrev HoldsForItems : (ℕ → Type 0) → Option (List StructItem) → Type 0
HoldsForItems P None = Unit {0}
HoldsForItems P (Some items) = AllByRecursion P (map (λ it. it.old.number) items)

abbrev HoldsForType : (ℕ → Type 0) → Option TypeNo → Type 0
HoldsForType P None = Unit {0}
HoldsForType P (Some t) = P t.number

first_holds : (P : ℕ → Type 0) (b : StructBlock) (o : Option TypeNo) (items : Option (List StructItem)) → HoldsForType P o → HoldsForItems P items → HoldsForItems P (item_first b o items)
first_holds P b None items h hs = tt
first_holds P b (Some t) None h hs = tt
first_holds P b (Some t) (Some items) h hs = (h, hs)

items_hold : (P : ℕ → Type 0) (types : ℕ → Option TypeNo) → ((h : ℕ) → HoldsForType P (types h)) → (blocks : List StructBlock) → HoldsForItems P (items_of types blocks)
items_hold P types each [] = tt
items_hold P types each (b ∷ blocks) = first_holds P b (types b.old) (items_of types blocks) (each b.old) (items_hold P types each blocks)

struct_holds : (P : ℕ → Type 0) (items : Option (List StructItem)) → HoldsForItems P items → HoldsFor P (option_map (λ t. Struct t) items)
struct_holds P None h = tt
struct_holds P (Some items) h = h

-- a call with one old type
one_holds : (P : ℕ → Type 0) (f : TypeNo → Construct) (o : Option TypeNo) → ((t : TypeNo) → old_numbers (f t) ≡ t.number ∷ []) → HoldsForType P o → HoldsFor P (option_map f o)
one_holds P f None one h = tt
one_holds P f (Some t) one h = rw (one t) (h, tt)

holds : (P : ℕ → Type 0) (types : ℕ → Option TypeNo) → ((h : ℕ) → HoldsForType P (types h)) → (call : Derive) → HoldsFor P (construct_of types call)
holds P types each (TypeContiguous count old made) = one_holds P (λ t. Contiguous count t) (types old) (λ t. refl) (each old)
holds P types each (TypeVector count block stride old made) = one_holds P (λ t. Vector count block stride t) (types old) (λ t. refl) (each old)
holds P types each (TypeHvector count block stride old made) = one_holds P (λ t. Hvector count block stride t) (types old) (λ t. refl) (each old)
holds P types each (TypeIndexed blocks old made) = one_holds P (λ t. Indexed blocks t) (types old) (λ t. refl) (each old)
holds P types each (TypeHindexed blocks old made) = one_holds P (λ t. Hindexed blocks t) (types old) (λ t. refl) (each old)
holds P types each (TypeIndexedBlock block disps old made) = one_holds P (λ t. IndexedBlock block disps t) (types old) (λ t. refl) (each old)
holds P types each (TypeHindexedBlock block disps old made) = one_holds P (λ t. HindexedBlock block disps t) (types old) (λ t. refl) (each old)
holds P types each (TypeStruct blocks made) = struct_holds P (items_of types blocks) (items_hold P types each blocks)
holds P types each (TypeDup old made) = one_holds P (λ t. Dup t) (types old) (λ t. refl) (each old)
holds P types each (TypeResized lb extent old made) = one_holds P (λ t. Resized lb extent t) (types old) (λ t. refl) (each old)
holds P types each (TypeSubarray order dims old made) = one_holds P (λ t. Subarray order dims t) (types old) (λ t. refl) (each old)
holds P types each (TypeCommit dtype) = tt
holds P types each (TypeFree dtype) = tt

type_holds : (P : ℕ → Type 0) (o : Option TypeNo) → ((t : TypeNo) → o ≡ Some t → P t.number) → HoldsForType P o
type_holds P None h = tt
type_holds P (Some t) h = h t refl

pub translated_all : (P : ℕ → Type 0) (types : ℕ → Option TypeNo) → ((h : ℕ) (t : TypeNo) → types h ≡ Some t → P t.number) → (call : Derive) (c : Construct) → construct_of types call ≡ Some c → AllByRecursion P (old_numbers c)
translated_all P types each call c e = subst (HoldsFor P) e (holds P types (λ h. type_holds P (types h) (each h)) call)
