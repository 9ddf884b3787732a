-- The rows of waves (docs/RULES.md, C1 and C5).
use Rattle.std.specs.Prelude.{◌≡◌, ◌⊎◌, ◌<◌, ℕ, pos, Bool, true, false, ◌&&◌, ◌==◌, List, [], ◌∷◌, Option, Some, None, slice_get, if◌then◌else◌}
use Rattle.must_call.specs.Kinds.{number_of}
use Rattle.must_find.specs.declared.rule.Rule.TheVariants.{C1, C5}
use Rattle.must_find.specs.declared.finding.Finding.{Finding}
use Rattle.must_group.specs.Names.{Name}
use Rattle.must_coll.specs.declared.item.WaveItem.{WaveItem}
use Rattle.must_coll.specs.Given.{GivenBy}
use Rattle.must_coll.specs.Duties.{IsDutyRow}
use Rattle.must_coll.specs.Waves.{wave, has_gap, present, missing}

-- the call is of the kind of the first
abbrev pub is_kind : WaveItem → WaveItem → Bool
is_kind first x = number_of x.kind == number_of first.kind

abbrev pub are_kind : Option WaveItem → List WaveItem → Bool
are_kind (Some first) [] = true
are_kind (Some first) (x ∷ xs) = is_kind first x && are_kind (Some first) xs
are_kind None xs = true

-- some calls are all of one kind
abbrev pub one_kind_of : List WaveItem → Bool
one_kind_of calls = are_kind (slice_get calls 0) calls

-- the calls of a wave are all of one kind
abbrev pub one_kind : List (Option WaveItem) → Bool
one_kind ws = one_kind_of (present ws)

-- C1 at a call, where its kind isn't that of the first
abbrev pub kind_row : Option WaveItem → WaveItem → Option Finding
kind_row (Some first) x =
    if is_kind first x then None
    else Some (record { rank = x.place.rank; call = x.place.call; rule = C1; part = 0; see = Some first.place; value = pos (number_of x.kind) })
kind_row None x = None

-- C5 at the first call, where a member has none
abbrev pub gap_row : Option ℕ → Option WaveItem → Option Finding
gap_row (Some m) (Some first) = Some (record { rank = first.place.rank; call = first.place.call; rule = C5; part = 0; see = None; value = pos m })
gap_row _ _ = None

-- a row of a wave with these calls, where this member is the first without one
abbrev pub IsCallsRow : Option ℕ → List WaveItem → Finding → Type 0
IsCallsRow m calls f = GivenBy (kind_row (slice_get calls 0)) calls f ⊎ (gap_row m (slice_get calls 0) ≡ Some f)

-- the same, with the rows of a whole wave of one kind
abbrev pub IsRowOf : Option ℕ → List WaveItem → Finding → Type 0
IsRowOf m calls f = IsCallsRow m calls f ⊎ ((m ≡ None) × ((one_kind_of calls ≡ true) × IsDutyRow calls f))

-- a row of a wave of these members
abbrev pub IsRowIn : List ℕ → List (Option WaveItem) → Finding → Type 0
IsRowIn members ws f = IsRowOf (missing members ws) (present ws) f

-- all earlier waves of the communicator have no gap and one kind
abbrev pub IsJudged : List WaveItem → Name → ℕ → Type 0
IsJudged items name number = (j : ℕ) → j < number → (has_gap (wave items name j) ≡ false) × (one_kind (wave items name j) ≡ true)

-- a row of a judged wave
pub record IsRowAt (items : List WaveItem) (name : Name) (number : ℕ) (f : Finding) : Type 0 where
  pub judged : IsJudged items name number
  pub row : IsRowIn name.members (wave items name number) f

-- a row of the wave that an item stands in, where that is whole
pub record IsWholeRowOf (items : List WaveItem) (x : WaveItem) (f : Finding) : Type 0 where
  pub whole : has_gap (wave items x.name x.number) ≡ false
  pub at : IsRowAt items x.name x.number f

-- a row of a wave with a gap
pub record IsGapRow (items : List WaveItem) (f : Finding) : Type 0 where
  pub name : Name
  pub number : ℕ
  pub gap : has_gap (wave items name number) ≡ true
  pub at : IsRowAt items name number f

-- a row of a whole wave
pub record IsWholeRow (items : List WaveItem) (f : Finding) : Type 0 where
  pub name : Name
  pub number : ℕ
  pub whole : has_gap (wave items name number) ≡ false
  pub at : IsRowAt items name number f

-- the rows of all waves
pub record IsWaveRow (items : List WaveItem) (f : Finding) : Type 0 where
  pub name : Name
  pub number : ℕ
  pub at : IsRowAt items name number f
