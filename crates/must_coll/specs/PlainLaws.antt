-- The rows of waves depend on signatures by the lists that they stand for alone.
use Rattle.std.proofs.Common.{◌≡◌, ℕ, true, List, [], ◌∷◌, ◌+◌, length, map, Option, Some, None, sym, ap, subst, ◌∙◌, inl, inr}
use Rattle.std.specs.Prelude.{◌⊎◌, ◌↔◌, slice_get}
use Rattle.must_find.specs.declared.finding.Finding.{Finding}
use Rattle.must_group.specs.Names.{Name}
use Rattle.must_coll.specs.declared.item.WaveItem.{WaveItem}
use Rattle.must_coll.specs.Waves.{wave, has_gap, present, missing}
use Rattle.must_coll.specs.Given.{GivenBy, GivenFrom}
use Rattle.must_coll.specs.Agreement.{first_counting, root_row, operation_row, IsAgreementRow}
use Rattle.must_coll.specs.Amounts.{amount_row, IsAmountRow}
use Rattle.must_coll.specs.Made.{made_row, IsMadeRow}
use Rattle.must_coll.specs.Created.{created_row, IsCreatedRow}
use Rattle.must_coll.specs.Duties.{IsDutyRow}
use Rattle.must_coll.specs.Rows.{kind_row, gap_row, one_kind_of, one_kind, IsCallsRow, IsRowOf, IsRowIn, IsRowAt, IsWaveRow}
use Rattle.must_coll.specs.Plain.{plain}
use Rattle.must_coll.specs.PlainWaves.{plain_call, wave_plain, gap_plain, present_plain, missing_plain, one_kind_of_plain, one_kind_plain}
use Rattle.must_coll.specs.PlainAmounts.{amount_plain}
use Rattle.must_coll.specs.PlainMade.{kind_plain, gap_row_plain, root_plain, operation_plain, made_plain, created_plain}

-- ---- findings of a list of calls

either_alike : (A B C D : Type 0) → A ↔ B → C ↔ D → (A ⊎ C) ↔ (B ⊎ D)
either_alike A B C D left right = (
  λ h. elim h [ inl a ↦ inl (left.0 a) | inr c ↦ inr (right.0 c) ],
  λ h. elim h [ inl b ↦ inl (left.1 b) | inr d ↦ inr (right.1 d) ],
)

some_alike : (o p : Option Finding) (f : Finding) → o ≡ p → (o ≡ Some f) ↔ (p ≡ Some f)
some_alike o p f same = (λ e. sym same ∙ e, λ e. same ∙ e)

given_plain : (row row' : WaveItem → Option Finding) → ((x : WaveItem) → row (plain x) ≡ row' x) → (xs : List WaveItem) (f : Finding) → GivenBy row (map plain xs) f ↔ GivenBy row' xs f
given_plain row row' same [] f = (λ h. h, λ h. h)
given_plain row row' same (x ∷ xs) f =
    either_alike (row (plain x) ≡ Some f) (row' x ≡ Some f) (GivenBy row (map plain xs) f) (GivenBy row' xs f)
    (some_alike (row (plain x)) (row' x) f (same x)) (given_plain row row' same xs f)

given_from_plain : (row row' : ℕ → WaveItem → Option Finding) → ((i : ℕ) (x : WaveItem) → row i (plain x) ≡ row' i x) → (i : ℕ) (xs : List WaveItem) (f : Finding) → GivenFrom row i (map plain xs) f ↔ GivenFrom row' i xs f
given_from_plain row row' same i [] f = (λ h. h, λ h. h)
given_from_plain row row' same i (x ∷ xs) f =
    either_alike (row i (plain x) ≡ Some f) (row' i x ≡ Some f) (GivenFrom row (i + 1) (map plain xs) f) (GivenFrom row' (i + 1) xs f)
    (some_alike (row i (plain x)) (row' i x) f (same i x)) (given_from_plain row row' same (i + 1) xs f)

-- ---- the rows of a wave

agreement_plain : (calls : List WaveItem) (f : Finding) → IsAgreementRow (map plain calls) f ↔ IsAgreementRow calls f
agreement_plain calls f =
    let root = root_row (length calls) (first_counting calls) in
    let root' = root_row (length (map plain calls)) (first_counting (map plain calls)) in
    let operation = operation_row (first_counting calls) in
    let operation' = operation_row (first_counting (map plain calls)) in
    either_alike (GivenBy root' (map plain calls) f) (GivenBy root calls f) (GivenBy operation' (map plain calls) f) (GivenBy operation calls f)
    (given_plain root' root (root_plain calls) calls f) (given_plain operation' operation (operation_plain calls) calls f)

amounts_plain : (calls : List WaveItem) (f : Finding) → IsAmountRow (map plain calls) f ↔ IsAmountRow calls f
amounts_plain calls f =
    given_from_plain (amount_row (slice_get (map plain calls) 0) (map plain calls)) (amount_row (slice_get calls 0) calls) (amount_plain calls) 0 calls f

makes_plain : (calls : List WaveItem) (f : Finding) → IsMadeRow (map plain calls) f ↔ IsMadeRow calls f
makes_plain calls f =
    given_from_plain (made_row (slice_get (map plain calls) 0) (map plain calls)) (made_row (slice_get calls 0) calls) (made_plain calls) 0 calls f

creates_plain : (calls : List WaveItem) (f : Finding) → IsCreatedRow (map plain calls) f ↔ IsCreatedRow calls f
creates_plain calls f =
    given_plain (created_row (slice_get (map plain calls) 0) (map plain calls)) (created_row (slice_get calls 0) calls) (created_plain calls) calls f

duties_plain : (calls : List WaveItem) (f : Finding) → IsDutyRow (map plain calls) f ↔ IsDutyRow calls f
duties_plain calls f =
    let made = either_alike (IsMadeRow (map plain calls) f) (IsMadeRow calls f) (IsCreatedRow (map plain calls) f) (IsCreatedRow calls f) (makes_plain calls f) (creates_plain calls f) in
    let amounts = either_alike (IsAmountRow (map plain calls) f) (IsAmountRow calls f) (IsMadeRow (map plain calls) f ⊎ IsCreatedRow (map plain calls) f) (IsMadeRow calls f ⊎ IsCreatedRow calls f) (amounts_plain calls f) made in
    either_alike (IsAgreementRow (map plain calls) f) (IsAgreementRow calls f)
    (IsAmountRow (map plain calls) f ⊎ (IsMadeRow (map plain calls) f ⊎ IsCreatedRow (map plain calls) f)) (IsAmountRow calls f ⊎ (IsMadeRow calls f ⊎ IsCreatedRow calls f))
    (agreement_plain calls f) amounts

calls_row_plain : (m : Option ℕ) (calls : List WaveItem) (f : Finding) → IsCallsRow m (map plain calls) f ↔ IsCallsRow m calls f
calls_row_plain m calls f =
    let kind = kind_row (slice_get calls 0) in
    let kind' = kind_row (slice_get (map plain calls) 0) in
    let gap = gap_row m (slice_get calls 0) in
    let gap' = gap_row m (slice_get (map plain calls) 0) in
    either_alike (GivenBy kind' (map plain calls) f) (GivenBy kind calls f) (gap' ≡ Some f) (gap ≡ Some f)
    (given_plain kind' kind (kind_plain calls) calls f) (some_alike gap' gap f (gap_row_plain m calls))

row_of_plain : (m : Option ℕ) (calls : List WaveItem) (f : Finding) → IsRowOf m (map plain calls) f ↔ IsRowOf m calls f
row_of_plain m calls f =
    let duty = duties_plain calls f in
    let kinds = one_kind_of_plain calls in
    either_alike (IsCallsRow m (map plain calls) f) (IsCallsRow m calls f)
    ((m ≡ None) × ((one_kind_of (map plain calls) ≡ true) × IsDutyRow (map plain calls) f)) ((m ≡ None) × ((one_kind_of calls ≡ true) × IsDutyRow calls f))
    (calls_row_plain m calls f) (
      λ h. (h.0, (sym kinds ∙ h.1.0, duty.0 h.1.1)),
      λ h. (h.0, (kinds ∙ h.1.0, duty.1 h.1.1)),
    )

row_in_plain : (members : List ℕ) (ws : List (Option WaveItem)) (f : Finding) → IsRowIn members (map plain_call ws) f ↔ IsRowIn members ws f
row_in_plain members ws f =
    let same = row_of_plain (missing members ws) (present ws) f in
    let first = missing_plain members ws in
    let calls = present_plain ws in (
      λ h. same.0 (subst (λ (l : List WaveItem). IsRowOf (missing members ws) l f) calls (subst (λ (m : Option ℕ). IsRowOf m (present (map plain_call ws)) f) first h)),
      λ h. subst (λ (m : Option ℕ). IsRowOf m (present (map plain_call ws)) f) (sym first) (subst (λ (l : List WaveItem). IsRowOf (missing members ws) l f) (sym calls) (same.1 h)),
    )

-- ---- the rows of all waves

gaps_plain : (items : List WaveItem) (name : Name) (k : ℕ) → has_gap (wave (map plain items) name k) ≡ has_gap (wave items name k)
gaps_plain items name k = ap has_gap (wave_plain items name k) ∙ gap_plain (wave items name k)

kinds_plain : (items : List WaveItem) (name : Name) (k : ℕ) → one_kind (wave (map plain items) name k) ≡ one_kind (wave items name k)
kinds_plain items name k = ap (λ (w : List (Option WaveItem)). one_kind w) (wave_plain items name k) ∙ one_kind_plain (wave items name k)

row_at_plain : (items : List WaveItem) (name : Name) (k : ℕ) (f : Finding) → IsRowAt (map plain items) name k f ↔ IsRowAt items name k f
row_at_plain items name k f =
    let same = row_in_plain name.members (wave items name k) f in
    let told = wave_plain items name k in (
      λ h. record {
        judged = λ j less. let p = h.judged j less in (sym (gaps_plain items name j) ∙ p.0, sym (kinds_plain items name j) ∙ p.1);
        row = same.0 (subst (λ (w : List (Option WaveItem)). IsRowIn name.members w f) told h.row);
      },
      λ h. record {
        judged = λ j less. let p = h.judged j less in (gaps_plain items name j ∙ p.0, kinds_plain items name j ∙ p.1);
        row = subst (λ (w : List (Option WaveItem)). IsRowIn name.members w f) (sym told) (same.1 h.row);
      },
    )

-- the rows of items are those of the same items with their signatures told one by one
pub plain_rows : (items : List WaveItem) (f : Finding) → IsWaveRow items f ↔ IsWaveRow (map plain items) f
plain_rows items f = (
  λ h. record { name = h.name; number = h.number; at = (row_at_plain items h.name h.number f).1 h.at },
  λ h. record { name = h.name; number = h.number; at = (row_at_plain items h.name h.number f).0 h.at },
)

-- items that are the same so have the same rows
pub rows_alike : (xs ys : List WaveItem) (f : Finding) → map plain xs ≡ map plain ys → IsWaveRow xs f → IsWaveRow ys f
rows_alike xs ys f same row = (plain_rows ys f).1 (subst (λ (l : List WaveItem). IsWaveRow l f) same ((plain_rows xs f).0 row))
