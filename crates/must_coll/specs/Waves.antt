-- The waves of collective calls (MPI 3.1, 5.1 and 5.12: all members call the collectives of a communicator in one order;
-- docs/RULES.md, "Waves"), as questions over a list of items.
use Rattle.std.specs.Prelude.{◌≡◌, ℕ, suc, Bool, true, false, ◌&&◌, ◌==◌, List, [], ◌∷◌, map, filter, find, drop, slice_get, Option, Some, None}
use Rattle.std.specs.List.{AllByRecursion}
use Rattle.std.specs.Option.{option_map}
use Rattle.std.specs.Ordering.{is_eq}
use Rattle.must_call.specs.declared.place.Place.{Place}
use Rattle.must_base.specs.Listing.{Has}
use Rattle.must_group.specs.Names.{Name, name_cmp}
use Rattle.must_coll.specs.declared.item.WaveItem.{WaveItem}

-- a call of a rank on a communicator
abbrev pub is_of : Name → ℕ → WaveItem → Bool
is_of name rank x = is_eq (name_cmp name x.name) && x.place.rank == rank

-- the calls of a rank on a communicator
abbrev pub lane : Name → ℕ → List WaveItem → List WaveItem
lane name rank items = filter (is_of name rank) items

-- the call of a rank on a communicator that has this number
abbrev pub call_of : List WaveItem → Name → ℕ → ℕ → Option WaveItem
call_of items name number rank = find (λ x. is_of name rank x && x.number == number) items

-- each member's call with this number, or a gap, in member order
abbrev pub wave : List WaveItem → Name → ℕ → List (Option WaveItem)
wave items name number = map (call_of items name number) name.members

abbrev pub has_gap : List (Option WaveItem) → Bool
has_gap [] = false
has_gap (None ∷ ws) = true
has_gap (Some x ∷ ws) = has_gap ws

abbrev pub gap_count : List (Option WaveItem) → ℕ
gap_count [] = 0
gap_count (None ∷ ws) = suc (gap_count ws)
gap_count (Some x ∷ ws) = gap_count ws

-- the calls that there are
abbrev pub present : List (Option WaveItem) → List WaveItem
present [] = []
present (None ∷ ws) = present ws
present (Some x ∷ ws) = x ∷ present ws

-- the first member without a call
abbrev pub missing : List ℕ → List (Option WaveItem) → Option ℕ
missing members [] = None
missing members (None ∷ ws) = slice_get members 0
missing members (Some x ∷ ws) = missing (drop 1 members) ws

-- the places of a whole wave
abbrev pub all_places : List (Option WaveItem) → Option (List Place)
all_places [] = Some []
all_places (None ∷ ws) = None
all_places (Some x ∷ ws) = option_map (λ ps. x.place ∷ ps) (all_places ws)

-- a handle number names one communicator at a rank
abbrev pub AreNamedOnce : List WaveItem → Type 0
AreNamedOnce items = (x y : WaveItem) → Has items x → Has items y → x.place.rank ≡ y.place.rank → x.comm ≡ y.comm → x.name ≡ y.name

-- what waves may be given: the calls of a rank on a communicator come with the numbers 0, 1, 2 and so on, the rank is a
-- member, and a handle number of a rank names one communicator
pub record Orderly (items : List WaveItem) : Type 0 where
  pub numbered : (name : Name) (rank k : ℕ) (x : WaveItem) → slice_get (lane name rank items) k ≡ Some x → x.number ≡ k
  pub members : AllByRecursion (λ x. Has x.name.members x.place.rank) items
  pub named : AreNamedOnce items
