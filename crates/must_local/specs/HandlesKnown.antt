-- What a rank knows of its handles by its tables, and the calls that these stand for.
use Rattle.must_derived.specs.Numbers.{number_of}
use Rattle.std.specs.Prelude.{is_some, ◌≡◌, ◌⊎◌, ◌++◌, ◌∷◌, [], ℕ, Bool, false, nat_eq, ◌&&◌, if◌then◌else◌, List, length, Option, Some, None, option_map}
use Rattle.must_call.specs.declared.class.Class.{Class}
use Rattle.must_call.specs.declared.class.Class.TheVariants as class
use Rattle.must_call.specs.declared.body.Body.{Body}
use Rattle.must_call.specs.declared.call.Call.{Call}
use Rattle.must_group.specs.Names.{Name}
use Rattle.must_format.specs.declared.cause.Limit.{Limit}
use Rattle.must_call.specs.Handles.{ClassedHandle}
use Rattle.must_rules.specs.Limits.{longest_path, most_weight}
use Rattle.must_local.specs.declared.fault.WalkFault.{WalkFault}
use Rattle.must_local.specs.declared.fault.WalkFault.TheVariants as walk_fault
use Rattle.must_rules.specs.Rank.{Rank}
use Rattle.must_rules.specs.Making.{made_by}
use Rattle.must_rules.specs.Facts.{Facts}
use Rattle.must_rules.specs.Communicators.{Derived, is_there, there, is_collective, is_number, comm_named, derived_of, child_of, members_named}
use Rattle.must_rules.specs.Known.{group_made, clear_behind}
use Rattle.must_handle.specs.Slots.{Stands, state_in, committed_in}
use Rattle.must_derived.specs.Standing as derived
use Rattle.must_items.specs.CollectiveItems.{commute_made}
use Rattle.must_begin.specs.declared.named.Named.{Named}
use Rattle.must_local.specs.Counted.{Counted, counted, name_counted}
use Rattle.must_local.specs.Objects.{slot_of, comm_in, group_in, Remembers}
use Rattle.must_local.specs.Bumps.{bumped}
use Rattle.must_local.specs.declared.known.Known.{Known}
use Rattle.must_local.specs.declared.known.Known.TheVariants as known
use Rattle.must_local.specs.declared.handles.Handles.{Handles}

-- a sound communicator that may be used
abbrev pub usable_comm : Handles → ℕ → Option Counted
usable_comm h comm = there (state_in h.lives class.Comm comm) (comm_in h.objects comm)

-- a communicator with its name
abbrev pub name_told : Option Named → Option (ℕ × Name)
name_told None = None
name_told (Some on) = Some (on.comm, on.name.now)

-- the same, by what is known of it
abbrev pub named_as : ℕ → Option Counted → Option (ℕ × Name)
named_as comm None = None
named_as comm (Some c) = Some (comm, c.name)

-- what a rank knows by its tables
abbrev pub facts_in : Handles → Facts
facts_in h = record {
  tag_ub = h.tag_ub;
  life = state_in h.lives;
  committed = committed_in h.lives;
  comm = λ comm. members_named h.rank (option_map name_counted (usable_comm h comm));
  group = λ group. there (state_in h.lives class.Group group) (group_in h.objects group);
}

-- the datatypes that are sound by its tables
abbrev pub sound_in : Handles → ℕ → Bool
sound_in h number = is_some (number_of h.types.numbers number)

pub record HandlesStand (r : Rank) (h : Handles) (calls : List Call) : Type 0 where
  pub rank_is : h.rank ≡ r.rank
  pub tag_is : h.tag_ub ≡ r.tag_ub
  pub lives : Stands (clear_behind r) h.lives calls
  pub types : derived.Stands (clear_behind r) h.types calls
  pub weight_is : h.types.table.weight_limit ≡ most_weight r.size
  pub objects : Remembers r h.objects calls

-- ---- what becomes known of a handle that a call makes

abbrev pub derived_from : Derived → Counted → Name
derived_from d parent = child_of parent.calls d parent.name

abbrev pub comm_made : Handles → Option Derived → Option Name
comm_made h None = None
comm_made h (Some d) = option_map (derived_from d) (usable_comm h d.parent)

abbrev pub known_comm : Option Name → Known
known_comm None = known.Nothing
known_comm (Some name) = known.Comm (counted 0 name)

abbrev pub known_group : Option (List ℕ) → Known
known_group None = known.Nothing
known_group (Some group) = known.Group group

abbrev pub known_operation : Option Bool → Known
known_operation None = known.Nothing
known_operation (Some commute) = known.Operation commute

abbrev pub known_made : Handles → Class → (clear : Bool) → Body → Known
known_made h class.Comm clear b = known_comm (comm_made h (derived_of b))
known_made h class.Group clear b = known_group (if clear then group_made (facts_in h) b else None)
known_made h class.Operation clear b = known_operation (commute_made b)
known_made h _ clear b = known.Nothing

-- what a call counts: a collective call on a communicator that may be used
abbrev pub counts_on : Handles → Body → ℕ → Bool
counts_on h b comm = (is_collective b && is_number comm (comm_named b)) && is_there (state_in h.lives class.Comm comm)

pub record Counts (h : Handles) (b : Body) (old new : List Known) : Type 0 where
  pub size : length new ≡ length old
  pub each : (number : ℕ) → slot_of new number ≡ (if counts_on h b number then option_map bumped (slot_of old number) else slot_of old number)

-- what a call puts behind the table: what is known of the handle that it makes, if any
pub record GrowsBy (old : Handles) (clear : Bool) (call : Call) (mid new : List Known) : Type 0 where
  pub class : Class
  pub number : ℕ
  pub made : made_by call ≡ Some (class, number)
  pub new_is : new ≡ mid ++ known_made old class clear call.body ∷ []

abbrev pub Grows : Handles → Bool → Call → List Known → List Known → Type 0
Grows old clear call mid new = ((made_by call ≡ None) × (new ≡ mid)) ⊎ GrowsBy old clear call mid new

-- the table after a call: its collective call counted, and what it makes put behind
pub record TakesIn (old : Handles) (clear : Bool) (call : Call) (new : List Known) : Type 0 where
  pub mid : List Known
  pub counts : Counts old call.body old.objects mid
  pub grows : Grows old clear call mid new

-- ---- a path that grows no further

abbrev pub full_path : Option Counted → Bool
full_path None = false
full_path (Some comm) = nat_eq (length comm.name.path) longest_path

abbrev pub parent_in : Handles → Option Derived → Option Counted
parent_in h None = None
parent_in h (Some d) = usable_comm h d.parent

-- a call that makes a handle of this class would make a communicator with too long a path
abbrev pub too_deep : Handles → Class → Body → Bool
too_deep h class.Comm b = full_path (parent_in h (derived_of b))
too_deep h _ b = false

abbrev pub made_too_deep : Handles → Option ClassedHandle → Body → Bool
made_too_deep h None b = false
made_too_deep h (Some made) b = too_deep h made.0 b

-- what stops a walk at call k is the limit that it reaches, or want of memory
abbrev pub IsLimitAt : ℕ → Option Limit → WalkFault → Type 0
IsLimitAt k reached (walk_fault.TooWide call limit) = (call ≡ k) × (reached ≡ Some limit)
IsLimitAt k reached walk_fault.NoMemory = Unit {0}
