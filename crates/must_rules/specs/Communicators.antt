-- The communicators of a rank: their names and members, by the calls that made them (docs/RULES.md; MPI 3.1 section 6.4).
use Rattle.std.specs.Prelude.{ℕ, suc, ℤ, pos, Bool, true, false, ◌&&◌, ◌==◌, nat_eq, if◌then◌else◌, List, [], ◌∷◌, Option, Some, None, option_map, position, reverse}
use Rattle.must_call.specs.declared.constants.TheConstants.{COMM_WORLD, COMM_SELF}
use Rattle.must_call.specs.declared.items.MadeComm.{MadeComm}
use Rattle.must_call.specs.declared.class.Class.TheVariants.{Comm}
use Rattle.must_call.specs.declared.life.Life.{Life}
use Rattle.must_call.specs.declared.life.Life.TheVariants.{Live, Predefined}
use Rattle.must_call.specs.declared.body.Body.{Body}
use Rattle.must_call.specs.declared.body.Body.TheVariants.{Object, Collective, Started}
use Rattle.must_call.specs.declared.object.Object.TheVariants.{CommDup, CommSplit, CommCreate, CommFree}
use Rattle.must_call.specs.declared.call.Call.{Call}
use Rattle.must_call.specs.Bodies.{inputs_of}
use Rattle.must_group.specs.Groups.{below}
use Rattle.must_group.specs.Names.{Name, child_name}
use Rattle.must_rules.specs.Rank.{Rank}
use Rattle.must_rules.specs.Making.{makes}
use Rattle.must_rules.specs.Lives.{life}
use Rattle.must_rules.specs.Facts as facts
use Rattle.must_rules.specs.Significant.{first_told, comm_in}

-- a handle of this life may be used: it is live, or MPI names it
abbrev pub is_there : Life → Bool
is_there (Live made) = true
is_there Predefined = true
is_there _ = false

-- what is known of a handle of this life, where it may be used
abbrev pub there : {X : Type 0} → Life → Option X → Option X
there life o = if is_there life then o else None

-- ---- collective calls

-- a call that all members of a communicator make (MPI 3.1 chapter 5 and section 6.4.2)
abbrev pub is_collective : Body → Bool
is_collective (Object (CommDup comm made)) = true
is_collective (Object (CommSplit comm color key made)) = true
is_collective (Object (CommCreate comm group made)) = true
is_collective (Object (CommFree comm)) = true
is_collective (Collective call) = true
is_collective (Started call) = true
is_collective _ = false

-- the communicator that a call names
abbrev pub comm_named : Body → Option ℕ
comm_named b = first_told comm_in (inputs_of b)

abbrev pub is_number : ℕ → Option ℕ → Bool
is_number comm None = false
is_number comm (Some named) = named == comm

-- a collective call on this communicator
abbrev pub is_collective_on : ℕ → Call → Bool
is_collective_on comm call = is_collective call.body && is_number comm (comm_named call.body)

-- the same of calls of which the last stands first
abbrev pub collectives_by : List Call → ℕ → ℕ
collectives_by [] comm = 0
collectives_by (last ∷ before) comm =
    if is_collective_on comm last && is_there (life (reverse before) Comm comm) then suc (collectives_by before comm) else collectives_by before comm

-- how many of these calls are collective calls on a communicator while it may be used: the next one has this number
unfoldable pub collectives : List Call → ℕ → ℕ
collectives calls comm = collectives_by (reverse calls) comm

-- ---- names

-- MPI_COMM_WORLD has all ranks, MPI_COMM_SELF this rank alone
abbrev pub predefined_name : Rank → ℕ → Option Name
predefined_name r comm =
    if comm == COMM_WORLD then Some (record { root = 0; path = []; members = below r.size })
    else if comm == COMM_SELF then Some (record { root = 1; path = []; members = r.rank ∷ [] })
    else None

-- a communicator that is made of another: what tells it apart from those that the same call makes at other ranks, and its members
pub record Derived : Type 0 where
  pub parent : ℕ
  pub class : ℤ
  pub members : List ℕ

abbrev pub derived : ℕ → ℤ → MadeComm → Derived
derived parent class made = record { parent = parent; class = class; members = made.members }

abbrev pub first_member : List ℕ → ℤ
first_member [] = pos 0
first_member (member ∷ members) = pos member

abbrev pub created : ℕ → MadeComm → Derived
created parent made = derived parent (first_member made.members) made

-- a duplicate has the class 0, a part of a split its color, and a created communicator its first member
abbrev pub derived_of : Body → Option Derived
derived_of (Object (CommDup comm made)) = option_map (derived comm (pos 0)) made
derived_of (Object (CommSplit comm color key made)) = option_map (derived comm color) made
derived_of (Object (CommCreate comm group made)) = option_map (created comm) made
derived_of _ = None

abbrev pub child_of : ℕ → Derived → Name → Name
child_of number d parent = child_name parent number d.class d.members

-- the name of what is derived, by the names of communicators that may be used and by how many collective calls were on each
abbrev pub derived_name : (ℕ → Option Name) → (ℕ → ℕ) → Option Derived → Option Name
derived_name names numbers None = None
derived_name names numbers (Some d) = option_map (child_of (numbers d.parent) d) (names d.parent)

-- the same of calls of which the last stands first
abbrev pub name_by : Rank → List Call → ℕ → Option Name
name_by r [] comm = predefined_name r comm
name_by r (last ∷ before) comm =
    if makes Comm comm last then derived_name (λ parent. there (life (reverse before) Comm parent) (name_by r before parent)) (collectives_by before) (derived_of last.body)
    else name_by r before comm

-- the name of a sound communicator: a predefined one, or one that was made of a sound one that could be used then
unfoldable pub name_of : Rank → List Call → ℕ → Option Name
name_of r calls comm = name_by r (reverse calls) comm

-- the name of a sound communicator that may be used after these calls
abbrev pub usable_name : Rank → List Call → ℕ → Option Name
usable_name r calls comm = there (life calls Comm comm) (name_of r calls comm)

-- ---- members

abbrev pub placed : Name → ℕ → facts.Comm
placed name position = record { members = name.members; position = position }

-- its members, and the position of this rank among them
abbrev pub members_named : (rank : ℕ) → Option Name → Option facts.Comm
members_named rank None = None
members_named rank (Some name) = option_map (placed name) (position (λ member. nat_eq member rank) name.members)
