-- Items of messages: their classes, their order at a rank, and their numbers (docs/MATCHING.md; MPI 3.1, 3.5).
use Rattle.std.specs.Prelude.{◌≡◌, ℕ, ℤ, Bool, true, false, ◌&&◌, List, [], ◌∷◌, filter, length}
use Rattle.std.specs.declared.cmp.Ordering.{Ordering}
use Rattle.std.specs.declared.cmp.Ordering.TheVariants.{Less}
use Rattle.std.specs.Ordering.{nat_cmp, int_cmp, ordering_then, is_eq, is_lt}
use Rattle.std.specs.List.{AllByRecursion}
use Rattle.must_base.specs.Listing.{Has}
use Rattle.must_group.specs.Names.{Name, name_cmp}
use Rattle.must_p2p.specs.declared.side.Side.{Side}
use Rattle.must_p2p.specs.declared.side.Side.TheVariants.{Send, Receive, Probe}
use Rattle.must_p2p.specs.declared.item.MsgItem.{MsgItem}

-- what items share that may match
pub record Class : Type 0 where
  pub source : ℕ
  pub dest : ℕ
  pub tag : ℤ
  pub name : Name

abbrev pub class_of : MsgItem → Class
class_of x = record { source = x.source; dest = x.dest; tag = x.tag; name = x.name }

-- by source, destination, tag and name
abbrev pub class_cmp : Class → Class → Ordering
class_cmp a b = ordering_then (nat_cmp a.source b.source) (ordering_then (nat_cmp a.dest b.dest) (ordering_then (int_cmp a.tag b.tag) (name_cmp a.name b.name)))

-- by call and part, at one rank
abbrev pub spot_cmp : MsgItem → MsgItem → Ordering
spot_cmp x y = ordering_then (nat_cmp x.place.call y.place.call) (nat_cmp x.part y.part)

abbrev pub is_earlier : MsgItem → MsgItem → Bool
is_earlier x y = is_lt (spot_cmp x y)

-- the side that a number counts: for a send the sends, for a receive and for a probe the receives
abbrev pub counted : Side → Side
counted Send = Send
counted Receive = Receive
counted Probe = Receive

abbrev pub same_side : Side → Side → Bool
same_side Send Send = true
same_side Receive Receive = true
same_side Probe Probe = true
same_side _ _ = false

-- an item of this class and side
abbrev pub in_lane : Class → Side → MsgItem → Bool
in_lane c side x = same_side side x.side && is_eq (class_cmp c (class_of x))

-- the items of a class and side
abbrev pub lane : Class → Side → List MsgItem → List MsgItem
lane c side items = filter (in_lane c side) items

-- how many items of its class, of the side that it counts, stand earlier at its rank
abbrev pub number : List MsgItem → MsgItem → ℕ
number items x = length (filter (λ y. in_lane (class_of x) (counted x.side) y && is_earlier y x) items)

-- the rank at which an item of this side stands
abbrev pub end_of : MsgItem → Side → ℕ
end_of x Send = x.source
end_of x Receive = x.dest
end_of x Probe = x.dest

-- each item stands at its own end of the message
abbrev pub IsPlaced : MsgItem → Type 0
IsPlaced x = x.place.rank ≡ end_of x x.side

-- the items of each rank come in order of call and part
abbrev pub InOrder : List MsgItem → Type 0
InOrder [] = Unit {0}
InOrder (x ∷ xs) = AllByRecursion (λ y. x.place.rank ≡ y.place.rank → spot_cmp x y ≡ Less) xs × InOrder xs

-- a handle number names one communicator at a rank
abbrev pub AreNamedOnce : List MsgItem → Type 0
AreNamedOnce items = (x y : MsgItem) → Has items x → Has items y → x.place.rank ≡ y.place.rank → x.comm ≡ y.comm → x.name ≡ y.name

-- what channels and nodes may be given
pub record Orderly (items : List MsgItem) : Type 0 where
  pub placed : AllByRecursion IsPlaced items
  pub rising : InOrder items
  pub named : AreNamedOnce items
