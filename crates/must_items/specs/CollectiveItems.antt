-- What a rank gives of a collective call (docs/RULES.md, "Waves").
use Rattle.std.specs.Prelude.{◌≡◌, ℕ, ℤ, pos, Bool, true, not, ◌&&◌, ◌||◌, if◌then◌else◌, List, [], ◌∷◌, map, Option, Some, None, is_some, unwrap_or, option_map}
use Rattle.must_call.specs.declared.items.MadeComm.{MadeComm}
use Rattle.must_call.specs.declared.field.Side.TheVariants.{Send, Receive}
use Rattle.must_call.specs.declared.field.Handle.TheVariants as handle
use Rattle.must_call.specs.declared.field.Field.{Field}
use Rattle.must_call.specs.declared.field.Field.TheVariants.{Handle}
use Rattle.must_call.specs.declared.object.Object.TheVariants.{OpCreate, CommDup, CommSplit, CommCreate}
use Rattle.must_call.specs.declared.body.Body.{Body}
use Rattle.must_call.specs.declared.body.Body.TheVariants.{Object}
use Rattle.must_call.specs.Values.{Value, Typed}
use Rattle.must_call.specs.Kinds.{kind_of}
use Rattle.must_call.specs.Bodies.{inputs_of}
use Rattle.must_type.specs.Tree.{TypeTree}
use Rattle.must_sig.specs.Signatures.{expansion}
use Rattle.must_coll.specs.declared.item.WaveItem.{WaveItem}
use Rattle.must_coll.specs.declared.item.Oper.{Oper}
use Rattle.must_coll.specs.declared.item.ColorKey.{ColorKey}
use Rattle.must_rules.specs.Facts.{Facts}
use Rattle.must_rules.specs.Significant.{first_told, in_place, root_in, significant_in}
use Rattle.must_rules.specs.Clear.{is_clear}
use Rattle.must_items.specs.Moved.{signatures_moved}

-- ---- duties

-- a datatype is sound, and so is a group
abbrev pub is_sound_in : Facts → (ℕ → Option TypeTree) → (f : Field) → Value f → Bool
is_sound_in facts types (Handle (handle.Datatype side)) h = is_some (types h)
is_sound_in facts types (Handle handle.Group) h = is_some (facts.group h)
is_sound_in facts types _ _ = true

-- what a field names is, where it is significant
abbrev pub is_sound_here : Facts → (ℕ → Option TypeTree) → (Field → Bool) → Typed → Bool
is_sound_here facts types is_significant t = not (is_significant t.0) || is_sound_in facts types t.0 t.1

abbrev pub all_sound : Facts → (ℕ → Option TypeTree) → (Field → Bool) → List Typed → Bool
all_sound facts types is_significant [] = true
all_sound facts types is_significant (t ∷ ts) = is_sound_here facts types is_significant t && all_sound facts types is_significant ts

-- a call counts in the duties of its wave where it is clear, and its types and groups are sound
abbrev pub has_duties : Facts → (ℕ → Option TypeTree) → Body → Bool
has_duties facts types b = is_clear facts b && all_sound facts types (significant_in facts b) (inputs_of b)

-- ---- what it names

-- the root, 0 where the kind has none
abbrev pub root_named : Body → ℤ
root_named b = unwrap_or (first_told root_in (inputs_of b)) (pos 0)

abbrev pub operation_in : (f : Field) → Value f → Option ℕ
operation_in (Handle handle.Operation) h = Some h
operation_in _ _ = None

-- whether the operation that a call makes commutes
abbrev pub commute_made : Body → Option Bool
commute_made (Object (OpCreate commute made)) = Some commute
commute_made _ = None

abbrev pub oper_by : (ℕ → Option Bool) → Option ℕ → Option Oper
oper_by commutes None = None
oper_by commutes (Some op) = Some (record { number = op; commute = commutes op })

abbrev pub operation_named : (ℕ → Option Bool) → Body → Option Oper
operation_named commutes b = oper_by commutes (first_told operation_in (inputs_of b))

-- color and key of a split
abbrev pub split_named : Body → Option ColorKey
split_named (Object (CommSplit comm color key made)) = Some (record { color = color; key = key })
split_named _ = None

-- the group of MPI_Comm_create, where it is live and sound
abbrev pub group_named : Facts → Body → Option (List ℕ)
group_named facts (Object (CommCreate comm group made)) = facts.group group
group_named facts _ = None

-- ---- what it recorded

-- the communicator that a collective call answered, 0 and nobody where the rank is in none
abbrev pub comm_answered : Body → Option MadeComm
comm_answered (Object (CommDup comm made)) = made
comm_answered (Object (CommSplit comm color key made)) = made
comm_answered (Object (CommCreate comm group made)) = made
comm_answered _ = None

abbrev pub members_in : MadeComm → List ℕ
members_in made = made.members

-- the members of the communicator that was made; none where the call didn't return
abbrev pub members_made : Body → Option (List ℕ)
members_made b = option_map members_in (comm_answered b)

-- ---- the item

-- the item tells this of a call: `types` are the types that handles stand for, and `commutes` whether a created operation does
pub record Tells (facts : Facts) (types : ℕ → Option TypeTree) (commutes : ℕ → Option Bool) (b : Body) (x : WaveItem) : Type 0 where
  pub kind_is : x.kind ≡ kind_of b
  pub counts_is : x.counts ≡ has_duties facts types b
  pub in_place_is : x.in_place ≡ in_place b
  pub root_is : x.root ≡ root_named b
  pub operation_is : x.operation ≡ operation_named commutes b
  pub sends_are : map expansion x.sends ≡ (if has_duties facts types b then signatures_moved facts types Send b else [])
  pub recvs_are : map expansion x.recvs ≡ (if has_duties facts types b then signatures_moved facts types Receive b else [])
  pub split_is : x.split ≡ split_named b
  pub group_is : x.group ≡ group_named facts b
  pub members_are : x.members ≡ members_made b

-- this is whether the operation of a call commutes
abbrev pub IsCommute : (ℕ → Option Bool) → Body → Option Bool → Type 0
IsCommute commutes b commute = (op : ℕ) → first_told operation_in (inputs_of b) ≡ Some op → commute ≡ commutes op
