-- The items of a rank's collective calls, in the order of the calls.
use Rattle.std.specs.Prelude.{◌≡◌, ℕ, Bool, true, false, ◌&&◌, List, [], ◌∷◌, ◌++◌, length, Option, Some, None, is_some, reverse, if◌then◌else◌}
use Rattle.must_call.specs.declared.class.Class.TheVariants.{Operation}
use Rattle.must_call.specs.declared.call.Call.{Call}
use Rattle.must_call.specs.declared.body.Body.{Body}
use Rattle.must_coll.specs.declared.item.WaveItem.{WaveItem}
use Rattle.must_rules.specs.Rank.{Rank}
use Rattle.must_rules.specs.Facts.{Facts}
use Rattle.must_rules.specs.Making.{makes}
use Rattle.must_rules.specs.Significant.{comm_of}
use Rattle.must_rules.specs.Communicators.{is_collective, comm_named, usable_name, collectives}
use Rattle.must_rules.specs.Types.{type_of}
use Rattle.must_rules.specs.Known.{facts_of, clear_behind}
use Rattle.must_items.specs.CollectiveItems.{Tells, commute_made}

-- the same of calls of which the last stands first
abbrev pub commute_by : List Call → ℕ → Option Bool
commute_by [] op = None
commute_by (last ∷ before) op = if makes Operation op last then commute_made last.body else commute_by before op

-- whether an operation commutes, by the call that made it; none for an operation that MPI names
unfoldable pub commute_of : List Call → ℕ → Option Bool
commute_of calls op = commute_by (reverse calls) op

-- the item of a call behind these
pub record IsItemOf (r : Rank) (earlier : List Call) (call : Call) (x : WaveItem) : Type 0 where
  pub place_is : x.place ≡ record { rank = r.rank; call = length earlier }
  pub comm_is : comm_named call.body ≡ Some x.comm
  pub name_is : usable_name r earlier x.comm ≡ Some x.name
  pub number_is : x.number ≡ collectives earlier x.comm
  pub tells : Tells (facts_of r earlier) (type_of (clear_behind r) earlier) (commute_of earlier) call.body x

-- a collective call on a communicator that is live and sound
abbrev pub stands_in_wave : Facts → Body → Bool
stands_in_wave facts b = is_collective b && is_some (comm_of facts b)

pub record IsOne (P : WaveItem → Type 0) (items : List WaveItem) : Type 0 where
  pub item : WaveItem
  pub items_are : items ≡ item ∷ []
  pub is : P item

abbrev pub OneWhere : Bool → (WaveItem → Type 0) → List WaveItem → Type 0
OneWhere true P items = IsOne P items
OneWhere false P items = items ≡ []

-- a call has one item where it stands in a wave
abbrev pub IsGivenBy : Rank → List Call → Call → List WaveItem → Type 0
IsGivenBy r earlier call items = OneWhere (stands_in_wave (facts_of r earlier) call.body) (IsItemOf r earlier call) items

pub record AreParted (P Q : List WaveItem → Type 0) (items : List WaveItem) : Type 0 where
  pub front : List WaveItem
  pub back : List WaveItem
  pub items_are : items ≡ front ++ back
  pub first : P front
  pub rest : Q back

-- the items of some calls behind others
abbrev pub AreItemsBehind : Rank → (earlier calls : List Call) → List WaveItem → Type 0
AreItemsBehind r earlier [] items = items ≡ []
AreItemsBehind r earlier (call ∷ calls) items = AreParted (IsGivenBy r earlier call) (AreItemsBehind r (earlier ++ call ∷ []) calls) items

-- the items of a rank
abbrev pub AreItemsOf : Rank → List Call → List WaveItem → Type 0
AreItemsOf r calls items = AreItemsBehind r [] calls items
