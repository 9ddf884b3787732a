-- Which calls stand for one another, told by facts: the partner of a message, and the calls of a wave (docs/NODES.md, "Needs").
use Rattle.std.specs.Prelude.{ℕ, true, ◌&&◌, ◌==◌, List, [], ◌∷◌, map, filter, find, length, Option, Some, None}
use Rattle.std.specs.List.{flat_map}
use Rattle.std.specs.Option.{option_map}
use Rattle.std.specs.declared.cmp.Ordering.{Ordering}
use Rattle.std.specs.Ordering.{nat_cmp, int_cmp, ordering_then, is_eq}
use Rattle.must_call.specs.declared.place.Place.{Place}
use Rattle.must_group.specs.Names.{name_cmp}
use Rattle.must_p2p.specs.declared.side.Side.{Side}
use Rattle.must_p2p.specs.declared.side.Side.TheVariants as side
use Rattle.must_p2p.specs.Items.{same_side}
use Rattle.must_entry.specs.Entries.{Waits}
use Rattle.must_node.specs.declared.fact.Fact.{Fact}
use Rattle.must_node.specs.declared.fact.Fact.TheVariants.{Message, Wave, Need}
use Rattle.must_node.specs.declared.keys.Item.{Item}
use Rattle.must_node.specs.declared.keys.Call.{Call}
use Rattle.must_node.specs.declared.keys.Spot.{Spot}
use Rattle.must_node.specs.declared.keys.Meeting.{Meeting}
use Rattle.must_node.specs.declared.keys.Member.{Member}

abbrev pub item_of : Fact → List Item
item_of (Message side name comm source dest tag number place part wild) =
    record { place = place; part = part; side = side; source = source; dest = dest; tag = tag; number = number; name = name } ∷ []
item_of (Wave name comm number place) = []
item_of (Need place ways) = []

abbrev pub call_of : Fact → List Call
call_of (Message side name comm source dest tag number place part wild) = []
call_of (Wave name comm number place) = record { place = place; number = number; name = name } ∷ []
call_of (Need place ways) = []

abbrev pub need_of : Fact → List Waits
need_of (Message side name comm source dest tag number place part wild) = []
need_of (Wave name comm number place) = []
need_of (Need place ways) = record { place = place; ways = ways } ∷ []

abbrev pub items : List Fact → List Item
items facts = flat_map item_of facts

abbrev pub calls : List Fact → List Call
calls facts = flat_map call_of facts

abbrev pub needs : List Fact → List Waits
needs facts = flat_map need_of facts

-- ---- calls of ranks

-- the needs of a rank's calls
abbrev pub needs_of_rank : List Fact → ℕ → List Waits
needs_of_rank facts rank = filter (λ w. w.place.rank == rank) (needs facts)

-- the place one past the last call of a rank, which is no call
abbrev pub past : List Fact → ℕ → Place
past facts rank = record { rank = rank; call = length (needs_of_rank facts rank) }

abbrev pub place_or : Place → Option Place → Place
place_or other None = other
place_or other (Some place) = place

-- ---- messages

abbrev pub spot_of : Item → Spot
spot_of x = record { rank = x.place.rank; call = x.place.call; part = x.part }

abbrev pub spot_cmp : Spot → Spot → Ordering
spot_cmp a b = ordering_then (nat_cmp a.rank b.rank) (ordering_then (nat_cmp a.call b.call) (nat_cmp a.part b.part))

-- the class of an item and its number
abbrev pub meeting_of : Item → Meeting
meeting_of x = record { source = x.source; dest = x.dest; tag = x.tag; number = x.number; name = x.name }

abbrev pub meeting_cmp : Meeting → Meeting → Ordering
meeting_cmp a b =
    ordering_then (nat_cmp a.source b.source)
    (ordering_then (nat_cmp a.dest b.dest) (ordering_then (int_cmp a.tag b.tag) (ordering_then (nat_cmp a.number b.number) (name_cmp a.name b.name))))

-- the item at a call and part
abbrev pub item_at : List Fact → Spot → Option Item
item_at facts spot = find (λ y. true && is_eq (spot_cmp (spot_of y) spot)) (items facts)

-- the place of the item of this side, class and number
abbrev pub place_of : Side → List Fact → Meeting → Option Place
place_of s facts meeting = option_map (λ y. y.place) (find (λ y. same_side s y.side && is_eq (meeting_cmp (meeting_of y) meeting)) (items facts))

-- a send waits for its receive, a receive and a probe for their send
abbrev pub partner_side : Side → Side
partner_side side.Send = side.Receive
partner_side side.Receive = side.Send
partner_side side.Probe = side.Send

-- the rank of the partner
abbrev pub partner_rank : Side → (source dest : ℕ) → ℕ
partner_rank side.Send source dest = dest
partner_rank side.Receive source dest = source
partner_rank side.Probe source dest = source

-- where the partner stands; where there is none, at the place past the last call of the rank that should have made it
abbrev pub partner_place : List Fact → Item → Place
partner_place facts x = place_or (past facts (partner_rank x.side x.source x.dest)) (place_of (partner_side x.side) facts (meeting_of x))

abbrev pub op_places : List Fact → Option Item → List Place
op_places facts None = []
op_places facts (Some x) = partner_place facts x ∷ []

-- ---- waves

abbrev pub call_spot : Call → Spot
call_spot x = record { rank = x.place.rank; call = x.place.call; part = 0 }

-- the collective call at a place
abbrev pub call_at : List Fact → Spot → Option Call
call_at facts spot = find (λ y. true && is_eq (spot_cmp (call_spot y) spot)) (calls facts)

abbrev pub member_of : Call → Member
member_of x = record { number = x.number; rank = x.place.rank; name = x.name }

abbrev pub member_cmp : Member → Member → Ordering
member_cmp a b = ordering_then (nat_cmp a.number b.number) (ordering_then (nat_cmp a.rank b.rank) (name_cmp a.name b.name))

-- a member's call with this number on a communicator
abbrev pub member_call : List Fact → Member → Option Place
member_call facts member = option_map (λ y. y.place) (find (λ y. true && is_eq (member_cmp (member_of y) member)) (calls facts))

abbrev pub member_place : List Fact → Call → ℕ → Place
member_place facts x rank = place_or (past facts rank) (member_call facts (record { number = x.number; rank = rank; name = x.name }))

-- the calls of all members in the wave of a call, in member order
abbrev pub wave_places : List Fact → Option Call → List Place
wave_places facts None = []
wave_places facts (Some x) = map (member_place facts x) x.name.members
