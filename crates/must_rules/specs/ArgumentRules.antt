-- Rules A1 to A7: arguments that are wrong. Each is asked of the significant fields of a call.
use Rattle.std.specs.Prelude.{ℕ, ℤ, pos, ◌-ℤ◌, Bool, not, ◌&&◌, ◌||◌, List, [], ◌∷◌, map, length, take, Option, Some, None, option_map, position, find, int_lt, int_le, nat_eq, if◌then◌else◌}
use Rattle.std.specs.Ordering.{int_eq}
use Rattle.std.specs.Set.{is_member}
use Rattle.must_call.specs.declared.constants.TheConstants.{PROC_NULL, ANY_SOURCE, ANY_TAG, UNDEFINED}
use Rattle.must_call.specs.declared.items.Amount.{Amount}
use Rattle.must_call.specs.declared.items.Dim.{Dim}
use Rattle.must_call.specs.declared.items.IndexItem.{IndexItem}
use Rattle.must_call.specs.declared.items.HindexItem.{HindexItem}
use Rattle.must_call.specs.declared.items.StructBlock.{StructBlock}
use Rattle.must_call.specs.declared.field.Side.TheVariants.{Receive}
use Rattle.must_call.specs.declared.field.Int.TheVariants as int
use Rattle.must_call.specs.declared.field.Ints.TheVariants as ints
use Rattle.must_call.specs.declared.field.Item.TheVariants as item
use Rattle.must_call.specs.declared.field.Field.{Field}
use Rattle.must_call.specs.declared.field.Field.TheVariants.{I32, Items}
use Rattle.must_call.specs.declared.body.Body.{Body}
use Rattle.must_call.specs.declared.body.Body.TheVariants.{Object}
use Rattle.must_call.specs.declared.object.Object.TheVariants.{GroupIncl, GroupExcl, CommCreate}
use Rattle.must_call.specs.Values.{Value}
use Rattle.must_find.specs.declared.rule.Rule.TheVariants.{A6}
use Rattle.must_group.specs.Groups.{first_bad}
use Rattle.must_rules.specs.Facts.{Facts, members_of}
use Rattle.must_rules.specs.Significant.{is_position}
use Rattle.must_rules.specs.Breaches.{Breach, told}

abbrev pub is_negative : ℤ → Bool
is_negative z = int_lt z (pos 0)

abbrev pub unless : Bool → ℤ → Option ℤ
unless fine z = if fine then None else Some z

abbrev pub index_told : Option ℕ → Option ℤ
index_told i = option_map pos i

-- ---- A1, negative count (MPI 3.1 sections 3.2.2, 4.1.2 and 5.5 to 5.11: counts are non-negative)

-- the items of a list by member: what stands past the last member is ignored
abbrev pub for_members : {X : Type 0} → Option ℕ → List X → List X
for_members (Some n) xs = take n xs
for_members None xs = xs

abbrev pub amount_count : Amount → ℤ
amount_count a = a.count

-- a count below zero, the first one of a list; given how many members a live and sound communicator has
abbrev pub negative_count : Option ℕ → (f : Field) → Value f → Option ℤ
negative_count n (I32 (int.Count s)) z = unless (not (is_negative z)) z
negative_count n (I32 int.Copies) z = unless (not (is_negative z)) z
negative_count n (Items (item.Amount s)) amounts = find is_negative (map amount_count (for_members n amounts))
negative_count n (Items (item.Int ints.Counts)) zs = find is_negative (for_members n zs)
negative_count n _ _ = None

-- ---- A2, peer out of range (sections 3.2.3, 3.2.4 and 3.11)

abbrev pub is_peer : ℕ → ℤ → Bool
is_peer n z = int_eq z PROC_NULL || is_position n z

-- a destination that is neither a position nor MPI_PROC_NULL
abbrev pub wrong_dest : Option ℕ → ℤ → Option ℤ
wrong_dest (Some n) z = unless (is_peer n z) z
wrong_dest None z = None

-- a source that is neither of these nor MPI_ANY_SOURCE
abbrev pub wrong_source : Option ℕ → ℤ → Option ℤ
wrong_source (Some n) z = unless (int_eq z ANY_SOURCE || is_peer n z) z
wrong_source None z = None

-- on a live and sound communicator of n members
abbrev pub peer_outside : Option ℕ → (f : Field) → Value f → Option ℤ
peer_outside n (I32 int.Dest) z = wrong_dest n z
peer_outside n (I32 int.Source) z = wrong_source n z
peer_outside n _ _ = None

-- ---- A3, tag out of range (sections 3.2.3 and 3.2.4)

abbrev pub is_tag : ℤ → ℤ → Bool
is_tag tag_ub z = int_le (pos 0) z && int_le z tag_ub

-- a tag that isn't from 0 to the greatest, nor MPI_ANY_TAG where a message is received or probed
abbrev pub tag_outside : ℤ → (f : Field) → Value f → Option ℤ
tag_outside tag_ub (I32 (int.Tag Receive)) z = unless (int_eq z ANY_TAG || is_tag tag_ub z) z
tag_outside tag_ub (I32 (int.Tag _)) z = unless (is_tag tag_ub z) z
tag_outside tag_ub _ _ = None

-- ---- A4, root out of range (section 5.2.2)

-- a root that is no position
abbrev pub wrong_root : Option ℕ → ℤ → Option ℤ
wrong_root (Some n) z = unless (is_position n z) z
wrong_root None z = None

-- on a live and sound communicator of n members
abbrev pub root_outside : Option ℕ → (f : Field) → Value f → Option ℤ
root_outside n (I32 int.Root) z = wrong_root n z
root_outside n _ _ = None

-- ---- A5, block length or subarray invalid (sections 4.1.2 and 4.1.3)

-- no size and no part below 1, and the part within its dimension
abbrev pub is_wrong_dim : Dim → Bool
is_wrong_dim d = int_lt d.size (pos 1) || int_lt d.subsize (pos 1) || int_lt d.size d.subsize || int_lt d.start (pos 0) || int_lt (d.size -ℤ d.subsize) d.start

-- the index of the first dimension that is wrong, 0 where there is none at all
abbrev pub wrong_dim : List Dim → Option ℕ
wrong_dim [] = Some 0
wrong_dim (d ∷ ds) = position is_wrong_dim (d ∷ ds)

abbrev pub has_negative_block : IndexItem → Bool
has_negative_block b = is_negative b.block

abbrev pub has_negative_byte_block : HindexItem → Bool
has_negative_byte_block b = is_negative b.block

abbrev pub has_negative_struct_block : StructBlock → Bool
has_negative_struct_block b = is_negative b.block

-- the index of the first block length below zero, 0 for a single length, or of the first dimension that is wrong
abbrev pub wrong_block : (f : Field) → Value f → Option ℤ
wrong_block (I32 int.Block) z = unless (not (is_negative z)) (pos 0)
wrong_block (Items item.Block) blocks = index_told (position has_negative_block blocks)
wrong_block (Items item.ByteBlock) blocks = index_told (position has_negative_byte_block blocks)
wrong_block (Items item.StructBlock) blocks = index_told (position has_negative_struct_block blocks)
wrong_block (Items item.Dim) dims = index_told (wrong_dim dims)
wrong_block _ _ = None

-- ---- A7, color invalid (section 6.4.2: a non-negative integer or MPI_UNDEFINED)

abbrev pub wrong_color : (f : Field) → Value f → Option ℤ
wrong_color (I32 int.Color) z = unless (int_le UNDEFINED z) z
wrong_color _ _ = None

-- ---- A6, rank list invalid (sections 6.3.2 and 6.4.2)

-- the first rank that is out of range or that stands in the list before
abbrev pub wrong_rank : Option (List ℕ) → List ℤ → Option ℕ
wrong_rank (Some members) ranks = first_bad (length members) ranks
wrong_rank None ranks = None

-- the first member of a group that isn't in the communicator
abbrev pub outsider : Option (List ℕ) → Option (List ℕ) → Option ℕ
outsider (Some members) (Some group) = position (λ member. not (is_member nat_eq members member)) group
outsider _ _ = None

abbrev pub wrong_member : Facts → Body → Option ℕ
wrong_member facts (Object (GroupIncl group ranks made)) = wrong_rank (facts.group group) ranks
wrong_member facts (Object (GroupExcl group ranks made)) = wrong_rank (facts.group group) ranks
wrong_member facts (Object (CommCreate comm group made)) = outsider (option_map members_of (facts.comm comm)) (facts.group group)
wrong_member facts _ = None

-- the index in the list of ranks, or in the group
abbrev pub wrong_ranks : Facts → Body → List Breach
wrong_ranks facts b = told A6 0 (index_told (wrong_member facts b))
