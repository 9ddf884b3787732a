-- A wave has at most one row of a rule at a rank.
use Rattle.std.proofs.Common.{◌≡◌, ℕ, ◌+◌, List, [], ◌∷◌, length, Option, Some, None, refl, sym, subst, ◌∙◌, inl, inr}
use Rattle.std.specs.Prelude.{◌⊎◌, slice_get}
use Rattle.must_base.specs.Listing.{Has}
use Rattle.must_find.specs.declared.rule.Rule.{Rule}
use Rattle.must_find.specs.declared.rule.Rule.TheVariants.{C1, C2, C3, C4, C5, C7, C8}
use Rattle.must_find.specs.declared.finding.Finding.{Finding}
use Rattle.must_coll.specs.declared.item.WaveItem.{WaveItem}
use Rattle.must_coll.specs.Given.{GivenBy, GivenFrom}
use Rattle.must_coll.specs.Agreement.{first_counting, root_row, operation_row}
use Rattle.must_coll.specs.Amounts.{amount_row}
use Rattle.must_coll.specs.Made.{made_row}
use Rattle.must_coll.specs.Created.{created_row}
use Rattle.must_coll.specs.Rows.{kind_row, gap_row, IsRowOf}
use Rattle.must_coll.specs.ListLaws.{some_is, none_is}
use Rattle.must_coll.specs.OneRowPlaces.{StandsAt, Gives, none_gives, kind_gives, gap_gives, root_gives, operation_gives, amount_gives, made_gives, created_gives}

-- ---- calls of different ranks

-- these calls are of other ranks than this one
abbrev pub AreOthers : ℕ → List WaveItem → Type 0
AreOthers rank [] = Unit {0}
AreOthers rank (x ∷ xs) = (rank ≡ x.place.rank → ⊥) × AreOthers rank xs

-- no two calls are of one rank
abbrev pub AreApart : List WaveItem → Type 0
AreApart [] = Unit {0}
AreApart (x ∷ xs) = AreOthers x.place.rank xs × AreApart xs

-- ---- one way of giving rows

-- a call of the wave at which a finding stands
pub record IsAtCall (calls : List WaveItem) (r : Rule) (f : Finding) : Type 0 where
  pub call : WaveItem
  pub there : Has calls call
  pub stands : StandsAt call r f

from_at : (row : ℕ → WaveItem → Option Finding) (r : Rule) (i : ℕ) (calls : List WaveItem) (f : Finding) → ((j : ℕ) (x : WaveItem) → Gives x r (row j x)) → GivenFrom row i calls f → IsAtCall calls r f
from_at row r i [] f gives h = absurd h
from_at row r i (x ∷ xs) f gives (inl e) = record { call = x; there = inl refl; stands = gives i x f e }
from_at row r i (x ∷ xs) f gives (inr h) = let t = from_at row r (i + 1) xs f gives h in record { call = t.call; there = inr t.there; stands = t.stands }

elsewhere : (row : ℕ → WaveItem → Option Finding) (r : Rule) (i rank : ℕ) (calls : List WaveItem) (f : Finding) → ((j : ℕ) (x : WaveItem) → Gives x r (row j x)) → AreOthers rank calls → GivenFrom row i calls f → rank ≡ f.rank → ⊥
elsewhere row r i rank [] f gives others h same = h
elsewhere row r i rank (x ∷ xs) f gives others (inl e) same = others.0 (same ∙ (gives i x f e).rank_is)
elsewhere row r i rank (x ∷ xs) f gives others (inr h) same = elsewhere row r (i + 1) rank xs f gives others.1 h same

one_given : (row : ℕ → WaveItem → Option Finding) (r : Rule) (i : ℕ) (calls : List WaveItem) (f g : Finding) → ((j : ℕ) (x : WaveItem) → Gives x r (row j x)) → AreApart calls → GivenFrom row i calls f → GivenFrom row i calls g → f.rank ≡ g.rank → f ≡ g
one_given row r i [] f g gives apart h k same = absurd h
one_given row r i (x ∷ xs) f g gives apart (inl e) (inl d) same = some_is f g (sym e ∙ d)
one_given row r i (x ∷ xs) f g gives apart (inl e) (inr k) same =
    absurd (elsewhere row r (i + 1) x.place.rank xs g gives apart.0 k (sym (gives i x f e).rank_is ∙ same))
one_given row r i (x ∷ xs) f g gives apart (inr h) (inl d) same =
    absurd (elsewhere row r (i + 1) x.place.rank xs f gives apart.0 h (sym (gives i x g d).rank_is ∙ sym same))
one_given row r i (x ∷ xs) f g gives apart (inr h) (inr k) same = one_given row r (i + 1) xs f g gives apart.1 h k same

-- ---- rows by rule

placed : (row : WaveItem → Option Finding) (i : ℕ) (calls : List WaveItem) (f : Finding) → GivenBy row calls f → GivenFrom (λ j x. row x) i calls f
placed row i [] f h = h
placed row i (x ∷ xs) f (inl e) = inl e
placed row i (x ∷ xs) f (inr h) = inr (placed row (i + 1) xs f h)

-- what gives the rows of a rule
abbrev row_by : List WaveItem → Rule → ℕ → WaveItem → Option Finding
row_by calls C1 i x = kind_row (slice_get calls 0) x
row_by calls C2 i x = root_row (length calls) (first_counting calls) x
row_by calls C3 i x = operation_row (first_counting calls) x
row_by calls C4 i x = amount_row (slice_get calls 0) calls i x
row_by calls C7 i x = made_row (slice_get calls 0) calls i x
row_by calls C8 i x = created_row (slice_get calls 0) calls x
row_by calls _ i x = None

by_gives : (calls : List WaveItem) (r : Rule) (i : ℕ) (x : WaveItem) → Gives x r (row_by calls r i x)
by_gives calls C1 i x = kind_gives (slice_get calls 0) x
by_gives calls C2 i x = root_gives (length calls) (first_counting calls) x
by_gives calls C3 i x = operation_gives (first_counting calls) x
by_gives calls C4 i x = amount_gives (slice_get calls 0) calls i x
by_gives calls C7 i x = made_gives (slice_get calls 0) calls i x
by_gives calls C8 i x = created_gives (slice_get calls 0) calls x
by_gives calls r i x = none_gives x r

nothing_from : (all : List WaveItem) (i : ℕ) (calls : List WaveItem) (f : Finding) → GivenFrom (row_by all C5) i calls f → ⊥
nothing_from all i [] f h = h
nothing_from all i (x ∷ xs) f (inl e) = none_is f e
nothing_from all i (x ∷ xs) f (inr h) = nothing_from all (i + 1) xs f h

-- a row of a rule: that of a gap, or one that a call gives
abbrev RowBy : Option ℕ → List WaveItem → Rule → Finding → Type 0
RowBy m calls r f = ((r ≡ C5) × (gap_row m (slice_get calls 0) ≡ Some f)) ⊎ GivenFrom (row_by calls r) 0 calls f

one_by : (m : Option ℕ) (calls : List WaveItem) (r : Rule) (f g : Finding) → AreApart calls → RowBy m calls r f → RowBy m calls r g → f.rank ≡ g.rank → f ≡ g
one_by m calls r f g apart (inl a) (inl b) same = some_is f g (sym a.1 ∙ b.1)
one_by m calls r f g apart (inl a) (inr k) same = absurd (nothing_from calls 0 calls g (subst (λ (s : Rule). GivenFrom (row_by calls s) 0 calls g) a.0 k))
one_by m calls r f g apart (inr h) (inl b) same = absurd (nothing_from calls 0 calls f (subst (λ (s : Rule). GivenFrom (row_by calls s) 0 calls f) b.0 h))
one_by m calls r f g apart (inr h) (inr k) same = one_given (row_by calls r) r 0 calls f g (by_gives calls r) apart h k same

no_first : (m : Option ℕ) (f : Finding) → gap_row m None ≡ Some f → ⊥
no_first (Some m) f e = none_is f e
no_first None f e = none_is f e

gap_call : (m : Option ℕ) (calls : List WaveItem) (f : Finding) → gap_row m (slice_get calls 0) ≡ Some f → IsAtCall calls C5 f
gap_call m [] f e = absurd (no_first m f e)
gap_call m (x ∷ xs) f e = record { call = x; there = inl refl; stands = gap_gives m x f e }

-- a row of a wave stands at one of its calls, and is one of its own rule
record IsSorted (m : Option ℕ) (calls : List WaveItem) (f : Finding) : Type 0 where
  rule : Rule
  at : IsAtCall calls rule f
  row : RowBy m calls f.rule f

by_rule : (m : Option ℕ) (calls : List WaveItem) (r : Rule) (f : Finding) → GivenFrom (row_by calls r) 0 calls f → IsSorted m calls f
by_rule m calls r f h =
    let at = from_at (row_by calls r) r 0 calls f (by_gives calls r) h in
    record { rule = r; at = at; row = inr (subst (λ (s : Rule). GivenFrom (row_by calls s) 0 calls f) (sym at.stands.rule_is) h) }

by_gap : (m : Option ℕ) (calls : List WaveItem) (f : Finding) → gap_row m (slice_get calls 0) ≡ Some f → IsSorted m calls f
by_gap m calls f e = let at = gap_call m calls f e in record { rule = C5; at = at; row = inl (at.stands.rule_is, e) }

sorted : (m : Option ℕ) (calls : List WaveItem) (f : Finding) → IsRowOf m calls f → IsSorted m calls f
sorted m calls f (inl (inl h)) = by_rule m calls C1 f (placed (kind_row (slice_get calls 0)) 0 calls f h)
sorted m calls f (inl (inr e)) = by_gap m calls f e
sorted m calls f (inr h) = elim h.1.1 [
  | inl (inl k) ↦ by_rule m calls C2 f (placed (root_row (length calls) (first_counting calls)) 0 calls f k)
  | inl (inr k) ↦ by_rule m calls C3 f (placed (operation_row (first_counting calls)) 0 calls f k)
  | inr (inl k) ↦ by_rule m calls C4 f k
  | inr (inr (inl k)) ↦ by_rule m calls C7 f k
  | inr (inr (inr k)) ↦ by_rule m calls C8 f (placed (created_row (slice_get calls 0) calls) 0 calls f k)
]

-- the call that a row stands at
pub row_call : (m : Option ℕ) (calls : List WaveItem) (f : Finding) → IsRowOf m calls f → (r : Rule) × IsAtCall calls r f
row_call m calls f row = let s = sorted m calls f row in (s.rule, s.at)

-- at most one row of a rule at a rank
pub one_in_wave : (m : Option ℕ) (calls : List WaveItem) (f g : Finding) → AreApart calls → IsRowOf m calls f → IsRowOf m calls g → f.rank ≡ g.rank → f.rule ≡ g.rule → f ≡ g
one_in_wave m calls f g apart row other rank rule =
    one_by m calls f.rule f g apart (sorted m calls f row).row (subst (λ (r : Rule). RowBy m calls r g) (sym rule) (sorted m calls g other).row) rank
