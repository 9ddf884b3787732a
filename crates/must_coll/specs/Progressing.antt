-- What is kept of the waves of a communicator.
use Rattle.std.specs.Prelude.{◌≡◌, ◌⊎◌, ◌↔◌, ◌<◌, ℕ, Bool, true, false, ◌&&◌, List, [], ◌∷◌, map, drop, Option, Some, None, if◌then◌else◌}
use Rattle.std.specs.Ordering.{nat_cmp}
use Rattle.std.specs.BTreeMap as tree
use Rattle.std.specs.BTreeMap.{BTreeMap}
use Rattle.must_group.specs.Names.{Name}
use Rattle.must_coll.specs.declared.item.WaveItem.{WaveItem}
use Rattle.must_coll.specs.declared.names.Names.{Names}
use Rattle.must_coll.specs.declared.progress.Progress.{Progress}
use Rattle.must_coll.specs.declared.waves.Waves.{Waves}
use Rattle.must_coll.specs.Waves.{lane, wave, has_gap}
use Rattle.must_coll.specs.Rows.{one_kind, IsRowIn}
use Rattle.must_coll.specs.Fronts.{fronts}
use Rattle.must_coll.specs.Numbering.{number_of, Knows}
use Rattle.must_find.specs.declared.finding.Finding.{Finding}

-- what is told of the kinds, once a wave is whole
abbrev pub clean_after : Bool → List (Option WaveItem) → Bool
clean_after clean ws = if has_gap ws then clean else clean && one_kind ws

-- the lanes of the members without the calls of whole waves
pub record IsProgress (p : Progress) (name : Name) (items : List WaveItem) : Type 0 where
  pub name_is : p.name ≡ name
  pub done : ℕ
  pub lanes : p.lanes ≡ map (λ m. drop done (lane name m items)) name.members
  pub before : (j : ℕ) → j < done → has_gap (wave items name j) ≡ false
  pub gap : has_gap (wave items name done) ≡ true
  pub clean : (p.clean ≡ true) ↔ ((j : ℕ) → j < done → one_kind (wave items name j) ≡ true)

abbrev pub StandsAt : Option Progress → Name → List WaveItem → Type 0
StandsAt None name items = (m : ℕ) → lane name m items ≡ []
StandsAt (Some p) name items = IsProgress p name items

-- what is kept of a name that has this number
abbrev pub progress_by : BTreeMap ℕ Progress → Option ℕ → Option Progress
progress_by waiting None = None
progress_by waiting (Some i) = tree.get nat_cmp waiting i

abbrev pub progress_of : Names → BTreeMap ℕ Progress → Name → Option Progress
progress_of names waiting name = progress_by waiting (number_of names name)

abbrev pub AreOwned : Names → BTreeMap ℕ Progress → Type 0
AreOwned names waiting = (i : ℕ) (p : Progress) → tree.get nat_cmp waiting i ≡ Some p → number_of names p.name ≡ Some i

-- the waves were given these items, in this order
pub record StandsFor (waves : Waves) (items : List WaveItem) : Type 0 where
  pub knows : Knows waves.names items
  pub keeps : (name : Name) → StandsAt (progress_of waves.names waves.waiting name) name items
  pub owned : AreOwned waves.names waves.waiting

-- a row of a wave that waits, where all before it were whole and of one kind
abbrev pub IsOpenIn : List (ℕ × Progress) → Finding → Type 0
IsOpenIn [] f = ⊥
IsOpenIn (e ∷ es) f = ((e.1.clean ≡ true) × IsRowIn e.1.name.members (fronts e.1.lanes) f) ⊎ IsOpenIn es f
