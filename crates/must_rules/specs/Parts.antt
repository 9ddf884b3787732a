-- The parts of a call: the buffers that it reads or writes, and where their elements lie (MPI 3.1 sections 3.2.2, 3.10 and 5.4 to
-- 5.11; docs/RULES.md, "Parts"). A part is told by what the fields of the call are for.
use Rattle.std.specs.Prelude.{ℕ, ◌*◌, nat_eq, ℤ, pos, ◌+ℤ◌, ◌*ℤ◌, Bool, true, false, ◌||◌, if◌then◌else◌, List, [], ◌∷◌, map, length, take, find, filter_map, flat_map, sum_by, Option, Some, None, option_map, is_some, slice_get}
use Rattle.std.specs.Ordering.{int_eq}
use Rattle.must_call.specs.declared.kind.Kind.{Kind}
use Rattle.must_call.specs.declared.kind.Kind.TheVariants as kind
use Rattle.must_call.specs.declared.items.Amount.{Amount}
use Rattle.must_call.specs.declared.field.Side.{Side}
use Rattle.must_call.specs.declared.field.Side.TheVariants.{Send, Receive, Both}
use Rattle.must_call.specs.declared.field.Int.TheVariants as int
use Rattle.must_call.specs.declared.field.Ints.TheVariants as ints
use Rattle.must_call.specs.declared.field.Item.TheVariants as item
use Rattle.must_call.specs.declared.field.Field.{Field}
use Rattle.must_call.specs.declared.field.Field.TheVariants.{Buffer, I32, Items}
use Rattle.must_call.specs.declared.body.Body.{Body}
use Rattle.must_call.specs.Values.{Value, Typed}
use Rattle.must_call.specs.Kinds.{kind_of}
use Rattle.must_call.specs.Bodies.{inputs_of}
use Rattle.must_type.specs.Maps.{Entry, extent}
use Rattle.must_type.specs.Constructs.{natural}
use Rattle.must_type.specs.Tree.{TypeTree, type_map}
use Rattle.must_type.specs.Table.{message_weight}
use Rattle.must_span.specs.Bytes.{message_map}
use Rattle.must_pending.specs.declared.access.Access.{Access}
use Rattle.must_pending.specs.declared.access.Access.TheVariants.{Reads, Writes}
use Rattle.must_rules.specs.Facts.{Facts, Comm, size_of_comm}
use Rattle.must_rules.specs.Significant.{first_told, root_in, comm_of, in_place, is_send, is_receive}
use Rattle.must_rules.specs.Breaches.{part_in}
use Rattle.must_rules.specs.UsableParts.{serves, type_in, is_usable}

-- so many elements, one extent apart, from an address on
pub record Block : Type 0 where
  pub address : ℤ
  pub count : ℕ

-- a buffer of a call: what the call does with it, and the elements of a datatype that it has there
pub record Part : Type 0 where
  pub number : ℕ
  pub access : Access
  pub datatype : TypeTree
  pub blocks : List Block

-- ---- access

-- this rank is the root of the call
abbrev pub is_root : Option ℤ → Option Comm → Bool
is_root (Some root) (Some comm) = int_eq (pos comm.position) root
is_root _ _ = false

abbrev pub is_at_root : Facts → Body → Bool
is_at_root facts b = is_root (first_told root_in (inputs_of b)) (comm_of facts b)

-- one buffer for both sides is read at the root and written elsewhere (section 5.4)
abbrev pub access_at : (is_root : Bool) → Side → Access
access_at is_root Send = Reads
access_at is_root Receive = Writes
access_at true Both = Reads
access_at false Both = Writes

-- ---- blocks

-- the count is that of each member, and the buffer has so many for each (sections 5.5 to 5.8 and 5.10); in place, a reduction to
-- all parts leaves its input where the result goes (section 5.10)
abbrev pub is_for_each : Kind → (in_place : Bool) → Side → Bool
is_for_each kind.Gather in_place s = is_receive s
is_for_each kind.Igather in_place s = is_receive s
is_for_each kind.Allgather in_place s = is_receive s
is_for_each kind.Iallgather in_place s = is_receive s
is_for_each kind.Scatter in_place s = is_send s
is_for_each kind.Alltoall in_place s = true
is_for_each kind.Ialltoall in_place s = true
is_for_each kind.ReduceScatter in_place s = is_send s || in_place
is_for_each kind.ReduceScatterBlock in_place s = is_send s || in_place
is_for_each _ in_place s = false

-- what says where the elements of a buffer lie beside its counts: its address, the extent of its datatype, how many members the
-- communicator has, the own position among them, and whether there are elements for each
pub record Layout : Type 0 where
  pub address : ℤ
  pub extent : ℤ
  pub members : ℕ
  pub position : ℕ
  pub for_each : Bool

abbrev pub counted : ℤ → ℕ → Block
counted address count = record { address = address; count = count }

abbrev pub natural_at : Option ℤ → ℕ
natural_at (Some count) = natural count
natural_at None = 0

-- the elements that a list of counts by member gives: those of all members, or one's own
abbrev pub listed : Layout → List ℤ → ℕ
listed l counts = if l.for_each then sum_by natural (take l.members counts) else natural_at (slice_get counts l.position)

-- the elements of a member, at a displacement in extents
abbrev pub block_of : Layout → Amount → Block
block_of l amount = counted (l.address +ℤ amount.disp *ℤ l.extent) (natural amount.count)

-- The blocks that a field tells of a side's buffer. In a list by member what stands past the last member is ignored, and an entry
-- that is lacking has no elements.
abbrev pub blocks_in : Layout → Side → (f : Field) → Value f → Option (List Block)
blocks_in l s (I32 (int.Count t)) count = if serves t s then Some (counted l.address (if l.for_each then l.members * natural count else natural count) ∷ []) else None
blocks_in l s (Items (item.Int ints.Counts)) counts = Some (counted l.address (listed l counts) ∷ [])
blocks_in l s (Items (item.Amount t)) amounts = if serves t s then Some (map (block_of l) (take l.members amounts)) else None
blocks_in l s _ _ = None

abbrev pub or_none : Option (List Block) → List Block
or_none (Some blocks) = blocks
or_none None = []

abbrev pub blocks_at : Layout → Side → List Typed → List Block
blocks_at l s ts = or_none (first_told (blocks_in l s) ts)

-- ---- parts

abbrev pub layout : Comm → Body → Side → (address : ℕ) → TypeTree → Layout
layout comm b s address t = record {
  address = pos address;
  extent = extent (type_map t);
  members = size_of_comm comm;
  position = comm.position;
  for_each = is_for_each (kind_of b) (in_place b) s;
}

-- the part of a side's buffer at an address, by the call's communicator and the buffer's datatype
abbrev pub part_at : Facts → Body → Side → (address : ℕ) → Comm → TypeTree → Part
part_at facts b s address comm t = record {
  number = part_in b (Buffer s);
  access = access_at (is_at_root facts b) s;
  datatype = t;
  blocks = blocks_at (layout comm b s address t) s (inputs_of b);
}

-- what two tell where both are there
abbrev pub with_both : {X Y Z : Type 0} → (X → Y → Z) → Option X → Option Y → Option Z
with_both f (Some x) (Some y) = Some (f x y)
with_both f _ _ = None

abbrev pub type_named : (ℕ → Option TypeTree) → Option ℕ → Option TypeTree
type_named types (Some handle) = types handle
type_named types None = None

-- the datatype of a side's buffer
abbrev pub datatype_of : (ℕ → Option TypeTree) → Body → Side → Option TypeTree
datatype_of types b s = type_named types (first_told (type_in s) (inputs_of b))

-- the part of a buffer, where it is usable; `types` says which types handles stand for
abbrev pub part_told : Facts → (types : ℕ → Option TypeTree) → Body → (f : Field) → Value f → Option Part
part_told facts types b (Buffer s) address =
    if is_usable facts (λ h. is_some (types h)) b (part_in b (Buffer s)) then with_both (part_at facts b s address) (comm_of facts b) (datatype_of types b s) else None
part_told facts types b _ _ = None

-- the usable parts of a call, in the order of their numbers
unfoldable pub parts_of : Facts → (types : ℕ → Option TypeTree) → Body → List Part
parts_of facts types b = filter_map (λ t. part_told facts types b t.0 t.1) (inputs_of b)

-- the part with this number
abbrev pub numbered : ℕ → List Part → Option Part
numbered number parts = find (λ p. nat_eq p.number number) parts

-- ---- what is known of a part

abbrev pub block_map : TypeTree → Block → List Entry
block_map t b = message_map b.address b.count t

-- the entries of all its blocks
abbrev pub entries_of : Part → List Entry
entries_of p = flat_map (block_map p.datatype) p.blocks

-- the ranges that its bytes take at most (docs/TYPES.md)
abbrev pub part_weight : Part → ℕ
part_weight p = sum_by (λ b. message_weight b.count p.datatype) p.blocks
