-- The rules whose rows stand in waves.
use Rattle.std.proofs.Common.{◌≡◌, ℕ, ◌+◌, Bool, true, false, List, [], ◌∷◌, Option, Some, None, ap, inl, inr, length}
use Rattle.std.specs.Prelude.{slice_get}
use Rattle.must_find.specs.declared.rule.Rule.{Rule}
use Rattle.must_find.specs.declared.rule.Rule.TheVariants.{C1, C2, C3, C4, C5, C7, C8}
use Rattle.must_find.specs.declared.finding.Finding.{Finding}
use Rattle.must_coll.specs.declared.item.WaveItem.{WaveItem}
use Rattle.must_coll.specs.Given.{GivenBy, GivenFrom}
use Rattle.must_coll.specs.Agreement.{first_counting, root_row, operation_row}
use Rattle.must_coll.specs.Amounts.{amount_row}
use Rattle.must_coll.specs.Made.{made_row}
use Rattle.must_coll.specs.Created.{created_row}
use Rattle.must_coll.specs.Waves.{wave, present, missing}
use Rattle.must_coll.specs.Rows.{kind_row, gap_row, IsRowOf, IsWaveRow}
use Rattle.must_coll.specs.ListLaws.{none_is}
use Rattle.must_coll.specs.OneRowPlaces.{Gives, kind_gives, gap_gives, root_gives, operation_gives, amount_gives, made_gives, created_gives}

abbrev pub is_of_waves : Rule → Bool
is_of_waves C1 = true
is_of_waves C2 = true
is_of_waves C3 = true
is_of_waves C4 = true
is_of_waves C5 = true
is_of_waves C7 = true
is_of_waves C8 = true
is_of_waves _ = false

from_rule : (row : ℕ → WaveItem → Option Finding) (r : Rule) (i : ℕ) (calls : List WaveItem) (f : Finding) → ((j : ℕ) (x : WaveItem) → Gives x r (row j x)) → GivenFrom row i calls f → f.rule ≡ r
from_rule row r i [] f gives h = absurd h
from_rule row r i (x ∷ xs) f gives (inl e) = (gives i x f e).rule_is
from_rule row r i (x ∷ xs) f gives (inr h) = from_rule row r (i + 1) xs f gives h

by_rule : (row : WaveItem → Option Finding) (r : Rule) (calls : List WaveItem) (f : Finding) → ((x : WaveItem) → Gives x r (row x)) → GivenBy row calls f → f.rule ≡ r
by_rule row r [] f gives h = absurd h
by_rule row r (x ∷ xs) f gives (inl e) = (gives x f e).rule_is
by_rule row r (x ∷ xs) f gives (inr h) = by_rule row r xs f gives h

no_first : (m : Option ℕ) (f : Finding) {P : Type 0} → gap_row m None ≡ Some f → P
no_first (Some m) f e = absurd (none_is f e)
no_first None f e = absurd (none_is f e)

gap_rule : (m : Option ℕ) (calls : List WaveItem) (f : Finding) → gap_row m (slice_get calls 0) ≡ Some f → f.rule ≡ C5
gap_rule m [] f e = no_first m f e
gap_rule m (x ∷ xs) f e = (gap_gives m x f e).rule_is

row_rule : (m : Option ℕ) (calls : List WaveItem) (f : Finding) → IsRowOf m calls f → is_of_waves f.rule ≡ true
row_rule m calls f (inl (inl h)) = ap is_of_waves (by_rule (kind_row (slice_get calls 0)) C1 calls f (kind_gives (slice_get calls 0)) h)
row_rule m calls f (inl (inr e)) = ap is_of_waves (gap_rule m calls f e)
row_rule m calls f (inr h) = elim h.1.1 [
  | inl (inl k) ↦ ap is_of_waves (by_rule (root_row (length calls) (first_counting calls)) C2 calls f (root_gives (length calls) (first_counting calls)) k)
  | inl (inr k) ↦ ap is_of_waves (by_rule (operation_row (first_counting calls)) C3 calls f (operation_gives (first_counting calls)) k)
  | inr (inl k) ↦ ap is_of_waves (from_rule (amount_row (slice_get calls 0) calls) C4 0 calls f (amount_gives (slice_get calls 0) calls) k)
  | inr (inr (inl k)) ↦ ap is_of_waves (from_rule (made_row (slice_get calls 0) calls) C7 0 calls f (made_gives (slice_get calls 0) calls) k)
  | inr (inr (inr k)) ↦ ap is_of_waves (by_rule (created_row (slice_get calls 0) calls) C8 calls f (created_gives (slice_get calls 0) calls) k)
]

-- a row of a wave is of one of them
pub wave_rule : (items : List WaveItem) (f : Finding) → IsWaveRow items f → is_of_waves f.rule ≡ true
wave_rule items f row = row_rule (missing row.name.members (wave items row.name row.number)) (present (wave items row.name row.number)) f row.at.row
