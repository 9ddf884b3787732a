-- Groups that the members of a communicator give to make new ones (MPI 3.1, 6.4.2: all members of a group give that group;
-- docs/RULES.md, C8), for a whole wave of one kind.
use Rattle.std.specs.Prelude.{◌&&◌, ℕ, pos, Bool, true, false, List, [], ◌∷◌, Option, Some, None, slice_get, position, nat_eq, if◌then◌else◌}
use Rattle.std.specs.Option.{is_some}
use Rattle.must_call.specs.declared.place.Place.{Place}
use Rattle.must_find.specs.declared.rule.Rule.TheVariants.{C8}
use Rattle.must_find.specs.declared.finding.Finding.{Finding}
use Rattle.must_coll.specs.declared.item.WaveItem.{WaveItem}
use Rattle.must_coll.specs.declared.making.Making.{Making}
use Rattle.must_coll.specs.declared.making.Making.TheVariants.{Create}
use Rattle.must_coll.specs.Made.{making_of, unlike_from}
use Rattle.must_coll.specs.Given.{GivenBy}

-- the call at a position
abbrev pub call_at : List WaveItem → Option ℕ → Option WaveItem
call_at calls (Some p) = slice_get calls p
call_at calls None = None

-- the call of a member, in a wave of these members
abbrev pub call_of_member : List ℕ → List WaveItem → ℕ → Option WaveItem
call_of_member members calls m = call_at calls (position (λ k. nat_eq k m) members)

-- another list than this one
abbrev pub is_other : List ℕ → Option (List ℕ) → Bool
is_other g (Some h) = is_some (unlike_from 0 g h)
is_other g None = false

-- the place of a call that counts and gave another group
abbrev pub other_place : List ℕ → Option WaveItem → Option Place
other_place g (Some y) = if y.counts && is_other g y.group then Some y.place else None
other_place g None = None

-- the first of some members whose call gave another group than g, with the place of that call
abbrev pub first_by : ℕ → Option Place → Option (Place × ℕ) → Option (Place × ℕ)
first_by m (Some see) rest = Some (see, m)
first_by m None rest = rest

abbrev pub first_other : List ℕ → List WaveItem → List ℕ → List ℕ → Option (Place × ℕ)
first_other members calls g [] = None
first_other members calls g (m ∷ ms) = first_by m (other_place g (call_of_member members calls m)) (first_other members calls g ms)

-- C8 at a call whose group has such a member
abbrev pub other_found : WaveItem → Option (Place × ℕ) → Option Finding
other_found x (Some (see, m)) = Some (record { rank = x.place.rank; call = x.place.call; rule = C8; part = 0; see = Some see; value = pos m })
other_found x None = None

-- the group of a call that counts
abbrev pub counted_group : WaveItem → Option (List ℕ)
counted_group x = if x.counts then x.group else None

abbrev pub group_by : List ℕ → List WaveItem → WaveItem → Option (List ℕ) → Option Finding
group_by members calls x (Some g) = other_found x (first_other members calls g g)
group_by members calls x None = None

abbrev pub group_row : List ℕ → List WaveItem → WaveItem → Option Finding
group_row members calls x = group_by members calls x (counted_group x)

abbrev pub is_create : Making → Bool
is_create Create = true
is_create _ = false

abbrev pub created_row : Option WaveItem → List WaveItem → WaveItem → Option Finding
created_row (Some first) calls x = if is_create (making_of first.kind) then group_row first.name.members calls x else None
created_row None calls x = None

-- the rows C8 of a wave
abbrev pub IsCreatedRow : List WaveItem → Finding → Type 0
IsCreatedRow calls f = GivenBy (created_row (slice_get calls 0) calls) calls f
