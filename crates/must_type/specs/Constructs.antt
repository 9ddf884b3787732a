-- The map of a derived type, from its making call and the maps of its old types (MPI 3.1, 4.1.2, 4.1.3 and 4.1.7;
-- docs/TYPES.md). A making call has one old type, but Struct, which has one a block.
use Rattle.std.specs.Prelude.{ℕ, zero, suc, ◌+◌, ◌*◌, ℤ, pos, negsuc, ◌+ℤ◌, ◌*ℤ◌, List, [], ◌∷◌, ◌++◌, map, flat_map, reverse}
use Rattle.std.specs.List.{zip}
use Rattle.must_call.specs.declared.items.IndexItem.{IndexItem}
use Rattle.must_call.specs.declared.items.HindexItem.{HindexItem}
use Rattle.must_call.specs.declared.items.Dim.{Dim}
use Rattle.must_type.specs.declared.construct.StructItem.{StructItem}
use Rattle.must_type.specs.declared.construct.Construct.{Construct}
use Rattle.must_type.specs.declared.construct.Construct.TheVariants.{Contiguous, Vector, Hvector, Indexed, Hindexed, IndexedBlock, HindexedBlock, Struct, Dup, Resized, Subarray}
use Rattle.must_type.specs.Maps.{Entry, LowerMarker, UpperMarker, extent, moved, without_markers, each_below, block}

-- a count that a call gives; no count is negative where the call is allowed
abbrev pub natural : ℤ → ℕ
natural (pos n) = n
natural (negsuc n) = 0

-- The types of one call that begin with the old type's map T.

unfoldable pub vector_map : ℕ → ℕ → ℤ → List Entry → List Entry
vector_map count blocklength stride T = each_below count (λ i. block blocklength T (pos i *ℤ (stride *ℤ extent T)))

unfoldable pub hvector_map : ℕ → ℕ → ℤ → List Entry → List Entry
hvector_map count blocklength stride T = each_below count (λ i. block blocklength T (pos i *ℤ stride))

unfoldable pub resized_map : ℤ → ℤ → List Entry → List Entry
resized_map lb extent T = without_markers T ++ LowerMarker lb ∷ UpperMarker (lb +ℤ extent) ∷ []

-- how many cells an array has
abbrev pub cells_in : List Dim → ℕ
cells_in [] = 1
cells_in (d ∷ ds) = natural d.size * cells_in ds

-- The numbers of the cells of a part, in rising order; the dimensions stand with the slowest first. A step in one
-- dimension goes over all cells of the faster ones.
abbrev pub part_cells : List Dim → List ℕ
part_cells [] = 0 ∷ []
part_cells (d ∷ ds) = each_below (natural d.subsize) (λ i. map (λ c. (natural d.start + i) * cells_in ds + c) (part_cells ds))

-- the dimensions with the slowest first: in C (0) the last is the fastest, in Fortran (1) the first
abbrev pub slow_first : ℕ → List Dim → List Dim
slow_first zero dims = dims
slow_first (suc order) dims = reverse dims

-- the basics of T at each of some cells, which are as large as its extent
abbrev pub at_cells : List Entry → List ℕ → List Entry
at_cells T cells = flat_map (λ c. moved (pos c *ℤ extent T) (without_markers T)) cells

unfoldable pub subarray_map : ℕ → List Dim → List Entry → List Entry
subarray_map order dims T = at_cells T (part_cells (slow_first order dims)) ++ LowerMarker (pos 0) ∷ UpperMarker (pos (cells_in dims) *ℤ extent T) ∷ []

unfoldable pub indexed_map : List IndexItem → List Entry → List Entry
indexed_map blocks T = flat_map (λ it. block (natural it.block) T (it.disp *ℤ extent T)) blocks

unfoldable pub hindexed_map : List HindexItem → List Entry → List Entry
hindexed_map blocks T = flat_map (λ it. block (natural it.block) T it.disp) blocks

unfoldable pub indexed_block_map : ℕ → List ℤ → List Entry → List Entry
indexed_block_map blocklength disps T = flat_map (λ disp. block blocklength T (disp *ℤ extent T)) disps

unfoldable pub hindexed_block_map : ℕ → List ℤ → List Entry → List Entry
hindexed_block_map blocklength disps T = flat_map (λ disp. block blocklength T disp) disps

-- each block with the old type in its place
abbrev pub struct_map : List StructItem → List (List Entry) → List Entry
struct_map blocks olds = flat_map (λ p. block (natural p.0.block) p.1 p.0.disp) (zip blocks olds)

abbrev pub the_old : List (List Entry) → List Entry
the_old [] = []
the_old (T ∷ olds) = T

-- the map of what a call makes of the maps of its old types
abbrev pub map_of : Construct → List (List Entry) → List Entry
map_of (Contiguous count old) olds = block (natural count) (the_old olds) (pos 0)
map_of (Vector count blocklength stride old) olds = vector_map (natural count) (natural blocklength) stride (the_old olds)
map_of (Hvector count blocklength stride old) olds = hvector_map (natural count) (natural blocklength) stride (the_old olds)
map_of (Indexed blocks old) olds = indexed_map blocks (the_old olds)
map_of (Hindexed blocks old) olds = hindexed_map blocks (the_old olds)
map_of (IndexedBlock blocklength disps old) olds = indexed_block_map (natural blocklength) disps (the_old olds)
map_of (HindexedBlock blocklength disps old) olds = hindexed_block_map (natural blocklength) disps (the_old olds)
map_of (Struct blocks) olds = struct_map blocks olds
map_of (Dup old) olds = the_old olds
map_of (Resized lb extent old) olds = resized_map lb extent (the_old olds)
map_of (Subarray order dims old) olds = subarray_map order dims (the_old olds)
