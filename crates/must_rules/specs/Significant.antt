-- Which arguments of a call are significant: those that the standard gives a meaning at this rank (MPI 3.1 sections 5.2.2, 5.5 to
-- 5.9 and 5.11, where arguments are "significant only at root", and where MPI_IN_PLACE makes arguments ignored).
use Rattle.std.specs.Prelude.{ℕ, ℤ, pos, Bool, true, false, not, ◌&&◌, List, [], ◌∷◌, length, Option, Some, None, int_le, int_lt, nat_eq, if◌then◌else◌}
use Rattle.std.specs.Ordering.{int_eq}
use Rattle.must_call.specs.declared.kind.Kind.{Kind}
use Rattle.must_call.specs.declared.kind.Kind.TheVariants as kind
use Rattle.must_call.specs.declared.field.Side.{Side}
use Rattle.must_call.specs.declared.field.Side.TheVariants.{Send, Receive, Both}
use Rattle.must_call.specs.declared.field.Handle.TheVariants as handle
use Rattle.must_call.specs.declared.field.Int.TheVariants as int
use Rattle.must_call.specs.declared.field.Flag.TheVariants as flag
use Rattle.must_call.specs.declared.field.Item.TheVariants as item
use Rattle.must_call.specs.declared.field.Field.{Field}
use Rattle.must_call.specs.declared.field.Field.TheVariants.{Handle, Buffer, I32, Bit, Items}
use Rattle.must_call.specs.declared.body.Body.{Body}
use Rattle.must_call.specs.Values.{Value, Typed}
use Rattle.must_call.specs.Kinds.{kind_of}
use Rattle.must_call.specs.Bodies.{inputs_of}
use Rattle.must_rules.specs.Facts.{Facts, Comm}

-- ---- asking the fields of a call by role

abbrev pub or_else : {X : Type 0} → Option X → Option X → Option X
or_else (Some x) o = Some x
or_else None o = o

-- what the first field says that answers
abbrev pub first_told : {X : Type 0} → ((f : Field) → Value f → Option X) → List Typed → Option X
first_told ask [] = None
first_told ask (t ∷ ts) = or_else (ask t.0 t.1) (first_told ask ts)

abbrev pub comm_in : (f : Field) → Value f → Option ℕ
comm_in (Handle handle.Comm) h = Some h
comm_in _ _ = None

abbrev pub root_in : (f : Field) → Value f → Option ℤ
root_in (I32 int.Root) z = Some z
root_in _ _ = None

abbrev pub in_place_in : (f : Field) → Value f → Option Bool
in_place_in (Bit flag.InPlace) b = Some b
in_place_in _ _ = None

abbrev pub is_true : Option Bool → Bool
is_true (Some b) = b
is_true None = false

-- the call says MPI_IN_PLACE
abbrev pub in_place : Body → Bool
in_place b = is_true (first_told in_place_in (inputs_of b))

abbrev pub comm_by : Facts → Option ℕ → Option Comm
comm_by facts (Some h) = facts.comm h
comm_by facts None = None

-- the call's communicator, where it is live and sound
abbrev pub comm_of : Facts → Body → Option Comm
comm_of facts b = comm_by facts (first_told comm_in (inputs_of b))

-- ---- sides

-- the side of a transfer that a field speaks of
abbrev pub side : Field → Side
side (Buffer s) = s
side (Handle (handle.Datatype s)) = s
side (I32 (int.Count s)) = s
side (I32 (int.Tag s)) = s
side (I32 int.Dest) = Send
side (I32 int.Source) = Receive
side (Items (item.Amount s)) = s
side _ = Both

abbrev pub is_send : Side → Bool
is_send Send = true
is_send _ = false

abbrev pub is_receive : Side → Bool
is_receive Receive = true
is_receive _ = false

-- the side that MPI_IN_PLACE leaves out
abbrev pub is_own : Kind → Side → Bool
is_own kind.Scatter s = is_receive s
is_own kind.Scatterv s = is_receive s
is_own _ s = is_send s

-- the side that the root alone has
abbrev pub is_roots : Kind → Side → Bool
is_roots kind.Scatter s = is_send s
is_roots kind.Scatterv s = is_send s
is_roots _ s = is_receive s

-- ---- where a rank stands in a call

pub data Seat : Type 0 where
  -- the kind has no root
  Equal : Seat
  -- at the first position of MPI_Exscan, which receives nothing (section 5.11.2)
  First : Seat
  AtRoot : Seat
  BesideRoot : Seat
  -- there is a root, but the communicator isn't live and sound, or the root is out of range
  NoSeat : Seat

-- a position among n members
abbrev pub is_position : ℕ → ℤ → Bool
is_position n z = int_le (pos 0) z && int_lt z (pos n)

abbrev pub exscan_seat : Option Comm → Seat
exscan_seat (Some comm) = if nat_eq comm.position 0 then First else Equal
exscan_seat None = Equal

abbrev pub root_seat : ℤ → Option Comm → Seat
root_seat root (Some comm) = if is_position (length comm.members) root then if int_eq (pos comm.position) root then AtRoot else BesideRoot else NoSeat
root_seat root None = NoSeat

abbrev pub seat_by : Kind → Option ℤ → Option Comm → Seat
seat_by kind.Exscan _ comm = exscan_seat comm
seat_by _ None _ = Equal
seat_by _ (Some root) comm = root_seat root comm

abbrev pub seat_of : Facts → Body → Seat
seat_of facts b = seat_by (kind_of b) (first_told root_in (inputs_of b)) (comm_of facts b)

-- ---- significant

abbrev pub names_root : Field → Bool
names_root (Handle handle.Comm) = true
names_root (I32 int.Root) = true
names_root _ = false

abbrev pub is_significant : Kind → (in_place : Bool) → Seat → Field → Bool
is_significant k in_place NoSeat f = names_root f
is_significant k in_place AtRoot f = not (in_place && is_own k (side f))
is_significant k in_place BesideRoot f = not (is_roots k (side f))
is_significant k in_place First f = not (in_place && is_own k (side f)) && not (is_receive (side f))
is_significant k in_place Equal f = not (in_place && is_own k (side f))

-- a field is significant in this call
abbrev pub significant_in : Facts → Body → Field → Bool
significant_in facts b f = is_significant (kind_of b) (in_place b) (seat_of facts b) f
