-- What the names of what calls wait for stand for, and what is given of them (docs/MESSAGES.md, "Needs").
use Rattle.std.specs.Prelude.{◌≡◌, ◌<◌, ◌&&◌, ℕ, Bool, false, List, [], ◌∷◌, ◌++◌, map, length, take, Option, Some, None, slice_get}
use Rattle.std.specs.List.{AllByRecursion}
use Rattle.std.specs.Ordering.{nat_cmp}
use Rattle.std.specs.BTreeSet.{BTreeSet, contains}
use Rattle.must_call.specs.declared.call.Call.{Call}
use Rattle.must_entry.specs.declared.want.Want.{Want}
use Rattle.must_entry.specs.declared.want.Want.TheVariants as want
use Rattle.must_entry.specs.declared.entry.Entry.{Entry}
use Rattle.must_entry.specs.Entries.{rows_of, messages, calls as wave_calls, needs}
use Rattle.must_rules.specs.Rank.{Rank}
use Rattle.must_rules.specs.Turns.{Turn, turns}
use Rattle.must_rules.specs.Operations.{operations_of}
use Rattle.must_messages.specs.CallNeeds.{Need, Needing, together, one_way, any_way, is_started_collective, waits_for_wave, ways_by, needs_of}
use Rattle.must_hold.specs.Ended.{place_at}
use Rattle.must_needs.specs.declared.names.Name.{Name}
use Rattle.must_needs.specs.declared.names.Name.TheVariants.{Nothing, Operation as Numbered, Wave}
use Rattle.must_needs.specs.declared.names.Ways.{Ways}
use Rattle.must_needs.specs.declared.names.Ways.TheVariants.{All, Any}
use Rattle.must_needs.specs.declared.needs.Needs.{Needs}

-- ---- what names stand for, where the operations of the rank need these, in their order

abbrev pub need_told : Option Need → Need
need_told None = Some []
need_told (Some need) = need

abbrev pub name_need : (rank : ℕ) → (needed : List Need) → Name → Need
name_need rank needed Nothing = Some []
name_need rank needed (Numbered n) = need_told (slice_get needed n)
name_need rank needed (Wave k) = Some (want.Wave (place_at rank k) ∷ [])

abbrev pub ways_named : (rank : ℕ) → (needed : List Need) → Ways → List (List Want)
ways_named rank needed (All names) = one_way (together (map (name_need rank needed) names.items))
ways_named rank needed (Any names) = any_way (map (name_need rank needed) names.items)

-- an operation that is named is one of so many
abbrev pub IsThere : (count : ℕ) → Name → Type 0
IsThere count (Numbered n) = n < count
IsThere count _ = Unit {0}

abbrev pub AreThere : (count : ℕ) → Ways → Type 0
AreThere count (All names) = AllByRecursion (IsThere count) names.items
AreThere count (Any names) = AllByRecursion (IsThere count) names.items

-- ---- what is kept

-- the call is a nonblocking collective call that waits for its wave
abbrev pub waits_started : Rank → (before : List Call) → Option Call → Bool
waits_started r before None = false
waits_started r before (Some call) = is_started_collective call.body && waits_for_wave r before call

-- these are the numbers of the nonblocking collective calls that wait for their waves
abbrev pub AreStarted : Rank → List Call → BTreeSet ℕ → Type 0
AreStarted r calls started = (k : ℕ) → contains nat_cmp started k ≡ waits_started r (take k calls) (slice_get calls k)

-- these are the alternatives of the calls of a rank, by names, whatever its operations will need
pub record Tells (r : Rank) (calls : List Call) (n : Needs) : Type 0 where
  pub there : AllByRecursion (AreThere (length (operations_of r calls))) n.calls.items
  pub ways : (need : Needing) → map (ways_named r.rank (map need (operations_of r calls))) n.calls.items ≡ map (λ (t : Turn). ways_by r need t.earlier t.call) (turns calls)
  pub started : AreStarted r calls n.started

-- ---- what is given

-- the needs of the calls of a rank are given behind what was given, and nothing else
pub record GivesNeeds (r : Rank) (calls : List Call) (old new : List Entry) : Type 0 where
  pub more : List Entry
  pub entries : new ≡ old ++ more
  pub rows : rows_of more ≡ []
  pub items : messages more ≡ []
  pub waves : wave_calls more ≡ []
  pub needs_are : needs more ≡ needs_of r calls
