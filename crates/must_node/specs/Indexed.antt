-- What an index tells of the facts that it was made of.
use Rattle.std.specs.Prelude.{◌≡◌, ℕ, Bool, true, false, List, [], ◌∷◌, length, Option, Some, None}
use Rattle.std.specs.declared.cmp.Ordering.{Ordering}
use Rattle.std.specs.Ordering.{is_eq, nat_cmp}
use Rattle.std.specs.BTreeMap as tree
use Rattle.must_p2p.specs.declared.side.Side.TheVariants as side
use Rattle.must_node.specs.declared.fact.Fact.{Fact}
use Rattle.must_node.specs.declared.keys.Spot.{Spot}
use Rattle.must_node.specs.declared.keys.Meeting.{Meeting}
use Rattle.must_node.specs.declared.keys.Member.{Member}
use Rattle.must_node.specs.declared.index.Index.{Index}
use Rattle.must_node.specs.Partners.{spot_cmp, meeting_cmp, member_cmp, item_at, place_of, call_at, member_call, needs_of_rank}

abbrev pub first_of : {V : Type 0} → Option V → V → Option V
first_of (Some v) w = Some v
first_of None w = Some w

-- a value goes under a key, unless the key has one
pub record Keeps {K V : Type 0} (cmp : K → K → Ordering) (old new : K → Option V) (key : K) (value : V) : Type 0 where
  pub here : new key ≡ first_of (old key) value
  pub others : (other : K) → is_eq (cmp key other) ≡ false → new other ≡ old other

-- the same, or nothing
abbrev pub KeepsIf : {K V : Type 0} → Bool → (K → K → Ordering) → (old new : K → Option V) → K → V → Type 0
KeepsIf true cmp old new key value = Keeps cmp old new key value
KeepsIf {K} false cmp old new key value = (other : K) → new other ≡ old other

abbrev pub count_in : Option ℕ → ℕ
count_in None = 0
count_in (Some n) = n

abbrev pub listed : {V : Type 0} → Option V → List V
listed None = []
listed (Some v) = v ∷ []

pub record Stands (index : Index) (facts : List Fact) : Type 0 where
  pub items : (spot : Spot) → tree.get spot_cmp index.items spot ≡ item_at facts spot
  pub sends : (meeting : Meeting) → tree.get meeting_cmp index.sends meeting ≡ place_of side.Send facts meeting
  pub receives : (meeting : Meeting) → tree.get meeting_cmp index.receives meeting ≡ place_of side.Receive facts meeting
  pub calls : (spot : Spot) → tree.get spot_cmp index.calls spot ≡ call_at facts spot
  pub members : (member : Member) → tree.get member_cmp index.members member ≡ member_call facts member
  pub counts : (rank : ℕ) → count_in (tree.get nat_cmp index.counts rank) ≡ length (needs_of_rank facts rank)
