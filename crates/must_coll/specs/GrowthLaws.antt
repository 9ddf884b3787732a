-- What one call more changes, and waves along a cut between names.
use Rattle.std.proofs.Common.{◌≡◌, ℕ, suc, ◌<◌, ◌≤◌, Bool, true, false, cond, ◌&&◌, not, List, [], ◌∷◌, ◌++◌, length, map, Option, Some, None, refl, sym, ap, subst, ◌∙◌, inl, inr, arith}
use Rattle.std.specs.Prelude.{slice_get, filter, find, ◌==◌, ◌⊎◌, ◌↔◌}
use Rattle.std.proofs.lemmas.List.{length_push}
use Rattle.std.proofs.lemmas.Bool.{and_parts, eqb-true, cases_Bool, cases_order}
use Rattle.std.proofs.lemmas.Option.{slice_get_past}
use Rattle.std.specs.Ordering.{is_eq}
use Rattle.must_find.specs.declared.finding.Finding.{Finding}
use Rattle.must_group.specs.Names.{Name, name_cmp}
use Rattle.must_group.specs.NameOrder.{name_same}
use Rattle.must_coll.specs.declared.item.WaveItem.{WaveItem}
use Rattle.must_coll.specs.Waves.{is_of, lane, call_of, wave, has_gap, present, missing, Orderly}
use Rattle.must_coll.specs.Given.{GivenBy, GivenFrom}
use Rattle.must_coll.specs.Agreement.{root_row, operation_row, first_counting}
use Rattle.must_coll.specs.Amounts.{amount_row}
use Rattle.must_coll.specs.Made.{made_row}
use Rattle.must_coll.specs.Created.{created_row}
use Rattle.must_coll.specs.Duties.{IsDutyRow}
use Rattle.must_coll.specs.Rows.{one_kind, gap_row, IsCallsRow, IsRowIn, IsRowAt, IsWholeRowOf, IsWholeRow, IsGapRow, IsWaveRow}
use Rattle.must_coll.specs.WaveLaws.{wave_is, no_gap_at, whole_stays, lane_keeps, lane_push, number_last, equal_from, eq_itself}

-- each row is of a whole wave or of one with a gap
pub whole_or_gap : (items : List WaveItem) (f : Finding) → IsWaveRow items f ↔ (IsWholeRow items f ⊎ IsGapRow items f)
whole_or_gap items f = (
  λ row. elim (cases_Bool (has_gap (wave items row.name row.number))) [
    | inl gap ↦ inr (record { name = row.name; number = row.number; gap = gap; at = row.at })
    | inr whole ↦ inl (record { name = row.name; number = row.number; whole = whole; at = row.at })
  ],
  λ rows. elim rows [
    | inl row ↦ record { name = row.name; number = row.number; at = row.at }
    | inr row ↦ record { name = row.name; number = row.number; at = row.at }
  ],
)

find_push : (q : WaveItem → Bool) (h : List WaveItem) (x : WaveItem) → q x ≡ false → find q (h ++ x ∷ []) ≡ find q h
find_push q [] x e = ap (λ b. cond b (Some x) None) e
find_push q (y ∷ ys) x e = ap (λ (o : Option WaveItem). cond (q y) (Some y) o) (find_push q ys x e)

-- a call stands in one wave alone
calls_same : (h : List WaveItem) (x : WaveItem) (name : Name) (k : ℕ) → (x.name ≡ name → x.number ≡ k → ⊥) → (ms : List ℕ) → map (call_of (h ++ x ∷ []) name k) ms ≡ map (call_of h name k) ms
calls_same h x name k apart [] = refl
calls_same h x name k apart (m ∷ ms) =
    let here : (is_of name m x && x.number == k) ≡ false = elim (cases_Bool (is_of name m x && x.number == k)) [
      | inr miss ↦ miss
      | inl hit ↦
          let p = and_parts (is_of name m x) (x.number == k) hit in
          let q = and_parts (is_eq (name_cmp name x.name)) (x.place.rank == m) p.0 in
          absurd (apart (sym (name_same name x.name (equal_from (name_cmp name x.name) q.0))) (eqb-true x.number k p.1))
    ] in
    ap (λ (o : Option WaveItem). o ∷ map (call_of (h ++ x ∷ []) name k) ms) (find_push (λ y. is_of name m y && y.number == k) h x here) ∙ ap (λ (l : List (Option WaveItem)). call_of h name k m ∷ l) (calls_same h x name k apart ms)

pub wave_same : (h : List WaveItem) (x : WaveItem) (name : Name) (k : ℕ) → (x.name ≡ name → x.number ≡ k → ⊥) → wave (h ++ x ∷ []) name k ≡ wave h name k
wave_same h x name k apart = calls_same h x name k apart name.members

pub wave_stays : (h zs : List WaveItem) (name : Name) (k : ℕ) → Orderly (h ++ zs) → Orderly h → has_gap (wave h name k) ≡ false → wave (h ++ zs) name k ≡ wave h name k
wave_stays h zs name k o o' e =
    wave_is (h ++ zs) name k o ∙ whole_stays (λ m. slice_get (lane name m h) k) (λ m. slice_get (lane name m (h ++ zs)) k) name.members (λ m y is. lane_keeps name m h zs k y is) (ap has_gap (sym (wave_is h name k o')) ∙ e) ∙ sym (wave_is h name k o')

pub row_move : (a b : List WaveItem) (name : Name) (k : ℕ) (f : Finding) → ((j : ℕ) → j < suc k → wave a name j ≡ wave b name j) → IsRowAt a name k f → IsRowAt b name k f
row_move a b name k f same row = record {
  judged = λ j less. let p = row.judged j less in let e = same j (omega (arith, less)) in (ap has_gap (sym e) ∙ p.0, ap (λ (w : List (Option WaveItem)). one_kind w) (sym e) ∙ p.1);
  row = subst (λ (w : List (Option WaveItem)). IsRowIn name.members w f) (same k (omega arith)) row.row;
}

-- no later wave than that of its last call has a call of a member
member_past : (h : List WaveItem) (x : WaveItem) (k position : ℕ) → Orderly (h ++ x ∷ []) → slice_get x.name.members position ≡ Some x.place.rank → x.number < k → has_gap (wave (h ++ x ∷ []) x.name k) ≡ false → ⊥
member_past h x k position o stands less whole =
    let l = lane x.name x.place.rank (h ++ x ∷ []) in
    let t = no_gap_at (λ m. slice_get (lane x.name m (h ++ x ∷ [])) k) x.name.members position x.place.rank (ap has_gap (sym (wave_is (h ++ x ∷ []) x.name k o)) ∙ whole) stands in
    let far : length l ≤ k = omega (arith, ap length (lane_push h x), length_push (lane x.name x.place.rank h) x, number_last h x o, less) in
    let n : None ≡ Some t.0 = sym (slice_get_past l k far) ∙ t.1 in cc

-- the rows of whole waves with one call more
pub whole_rows_push : (h : List WaveItem) (x : WaveItem) (position : ℕ) (f : Finding) → Orderly (h ++ x ∷ []) → Orderly h → slice_get x.name.members position ≡ Some x.place.rank → IsWholeRow (h ++ x ∷ []) f ↔ (IsWholeRow h f ⊎ IsWholeRowOf (h ++ x ∷ []) x f)
whole_rows_push h x position f o o' stands = (
  λ row. elim (cases_Bool (is_eq (name_cmp x.name row.name))) [
    | inr other ↦
        let apart : x.name ≡ row.name → ⊥ = λ e. let n : true ≡ false = sym (eq_itself x.name) ∙ ap (λ (m : Name). is_eq (name_cmp x.name m)) e ∙ other in cc in
        inl (record { name = row.name; number = row.number; whole = ap has_gap (sym (wave_same h x row.name row.number (λ e n. apart e))) ∙ row.whole; at = row_move (h ++ x ∷ []) h row.name row.number f (λ j less. wave_same h x row.name j (λ e n. apart e)) row.at })
    | inl hit ↦
        let same : x.name ≡ row.name = name_same x.name row.name (equal_from (name_cmp x.name row.name) hit) in
        elim (cases_order x.number row.number) [
          | inl e ↦ inr (record {
            whole = subst (λ (m : Name). has_gap (wave (h ++ x ∷ []) m x.number) ≡ false) (sym same) (subst (λ k. has_gap (wave (h ++ x ∷ []) row.name k) ≡ false) (sym e) row.whole);
            at = subst (λ (m : Name). IsRowAt (h ++ x ∷ []) m x.number f) (sym same) (subst (λ k. IsRowAt (h ++ x ∷ []) row.name k f) (sym e) row.at);
          })
          | inr (inl less) ↦ absurd (member_past h x row.number position o stands less (subst (λ (m : Name). has_gap (wave (h ++ x ∷ []) m row.number) ≡ false) (sym same) row.whole))
          | inr (inr more) ↦ inl (record {
            name = row.name;
            number = row.number;
            whole = ap has_gap (sym (wave_same h x row.name row.number (λ e n. omega (arith, n, more)))) ∙ row.whole;
            at = row_move (h ++ x ∷ []) h row.name row.number f (λ j less. wave_same h x row.name j (λ e n. omega (arith, n, more, less))) row.at;
          })
        ]
  ],
  λ rows. elim rows [
    | inl row ↦
        let back : (j : ℕ) → j < suc row.number → wave h row.name j ≡ wave (h ++ x ∷ []) row.name j = λ j less. elim (cases_order j row.number) [
          | inl e ↦ subst (λ i. wave h row.name i ≡ wave (h ++ x ∷ []) row.name i) (sym e) (sym (wave_stays h (x ∷ []) row.name row.number o o' row.whole))
          | inr (inl lower) ↦ sym (wave_stays h (x ∷ []) row.name j o o' (row.at.judged j lower).0)
          | inr (inr more) ↦ absurd (omega (arith, more, less))
        ] in
        record { name = row.name; number = row.number; whole = ap has_gap (sym (back row.number (omega arith))) ∙ row.whole; at = row_move h (h ++ x ∷ []) row.name row.number f back row.at }
    | inr row ↦ record { name = x.name; number = x.number; whole = row.whole; at = row.at }
  ],
)

-- ---- along a cut between names

cut_one : (p q : WaveItem → Bool) (x : WaveItem) (b c : Bool) (l : List WaveItem) (o : Option WaveItem) → p x ≡ b → q x ≡ c → (q x ≡ true → p x ≡ true) → find q l ≡ o → find q (cond b (x ∷ l) l) ≡ cond c (Some x) o
cut_one p q x true true l o pb qc h e = ap (λ d. cond d (Some x) (find q l)) qc
cut_one p q x true false l o pb qc h e = ap (λ d. cond d (Some x) (find q l)) qc ∙ e
cut_one p q x false true l o pb qc h e = absurd (let n : true ≡ false = sym (h qc) ∙ pb in cc)
cut_one p q x false false l o pb qc h e = e

find_cut : (p q : WaveItem → Bool) (xs : List WaveItem) → ((x : WaveItem) → q x ≡ true → p x ≡ true) → find q (filter p xs) ≡ find q xs
find_cut p q [] h = refl
find_cut p q (x ∷ xs) h = cut_one p q x (p x) (q x) (filter p xs) (find q xs) refl refl (h x) (find_cut p q xs h)

name_of_call : (name : Name) (m k : ℕ) (x : WaveItem) → (is_of name m x && x.number == k) ≡ true → name ≡ x.name
name_of_call name m k x e = name_same name x.name (equal_from (name_cmp name x.name) (and_parts (is_eq (name_cmp name x.name)) (x.place.rank == m) (and_parts (is_of name m x) (x.number == k) e).0).0)

calls_cut : (q : Name → Bool) (items : List WaveItem) (name : Name) (k : ℕ) → q name ≡ true → (ms : List ℕ) → map (call_of (filter (λ x. q x.name) items) name k) ms ≡ map (call_of items name k) ms
calls_cut q items name k e [] = refl
calls_cut q items name k e (m ∷ ms) =
    ap (λ (o : Option WaveItem). o ∷ map (call_of (filter (λ x. q x.name) items) name k) ms) (find_cut (λ x. q x.name) (λ x. is_of name m x && x.number == k) items (λ x hit. ap q (sym (name_of_call name m k x hit)) ∙ e))
    ∙ ap (λ (l : List (Option WaveItem)). call_of items name k m ∷ l) (calls_cut q items name k e ms)

-- the waves of a name that passes
pub wave_cut : (q : Name → Bool) (items : List WaveItem) (name : Name) (k : ℕ) → q name ≡ true → wave (filter (λ x. q x.name) items) name k ≡ wave items name k
wave_cut q items name k e = calls_cut q items name k e name.members

pub row_in_cut : (q : Name → Bool) (items : List WaveItem) (f : Finding) (row : IsWaveRow items f) → q row.name ≡ true → IsWaveRow (filter (λ x. q x.name) items) f
row_in_cut q items f row e = record { name = row.name; number = row.number; at = row_move items (filter (λ x. q x.name) items) row.name row.number f (λ j less. sym (wave_cut q items row.name j e)) row.at }

-- each row is a row of what passes or of the rest
pub wave_rows_either : (q : Name → Bool) (items : List WaveItem) (f : Finding) → IsWaveRow items f → IsWaveRow (filter (λ x. q x.name) items) f ⊎ IsWaveRow (filter (λ x. not (q x.name)) items) f
wave_rows_either q items f row = elim (cases_Bool (q row.name)) [
  | inl yes_h ↦ inl (row_in_cut q items f row yes_h)
  | inr no_h ↦ inr (row_in_cut (λ n. not (q n)) items f row (ap not no_h))
]

no_finding : (f : Finding) → None ≡ Some f → ⊥
no_finding f e = cc

no_gap_row : (m : Option ℕ) (f : Finding) → gap_row m None ≡ Some f → ⊥
no_gap_row None f e = no_finding f e
no_gap_row (Some m) f e = no_finding f e

pub no_calls_row : (m : Option ℕ) (calls : List WaveItem) (f : Finding) → calls ≡ [] → IsCallsRow m calls f → ⊥
no_calls_row m [] f e (inl h) = h
no_calls_row m [] f e (inr h) = no_gap_row m f h
no_calls_row m (x ∷ xs) f e h = let n : x ∷ xs ≡ [] = e in cc

none_given : (row : WaveItem → Option Finding) (calls : List WaveItem) (f : Finding) → calls ≡ [] → GivenBy row calls f → ⊥
none_given row [] f e h = h
none_given row (x ∷ xs) f e h = let n : x ∷ xs ≡ [] = e in cc

none_given_from : (row : ℕ → WaveItem → Option Finding) (i : ℕ) (calls : List WaveItem) (f : Finding) → calls ≡ [] → GivenFrom row i calls f → ⊥
none_given_from row i [] f e h = h
none_given_from row i (x ∷ xs) f e h = let n : x ∷ xs ≡ [] = e in cc

no_duty_row : (calls : List WaveItem) (f : Finding) → calls ≡ [] → IsDutyRow calls f → ⊥
no_duty_row calls f e (inl (inl h)) = none_given (root_row (length calls) (first_counting calls)) calls f e h
no_duty_row calls f e (inl (inr h)) = none_given (operation_row (first_counting calls)) calls f e h
no_duty_row calls f e (inr (inl h)) = none_given_from (amount_row (slice_get calls 0) calls) 0 calls f e h
no_duty_row calls f e (inr (inr (inl h))) = none_given_from (made_row (slice_get calls 0) calls) 0 calls f e h
no_duty_row calls f e (inr (inr (inr h))) = none_given (created_row (slice_get calls 0) calls) calls f e h

-- a wave without a call has no row
pub no_row : (members : List ℕ) (ws : List (Option WaveItem)) (f : Finding) → present ws ≡ [] → IsRowIn members ws f → ⊥
no_row members ws f e (inl h) = no_calls_row (missing members ws) (present ws) f e h
no_row members ws f e (inr h) = no_duty_row (present ws) f e h.1.1

none_one : (p q : WaveItem → Bool) (x : WaveItem) (b c : Bool) (l : List WaveItem) → p x ≡ b → q x ≡ c → (q x ≡ true → p x ≡ true → ⊥) → find q l ≡ None → find q (cond b (x ∷ l) l) ≡ None
none_one p q x true true l pb qc h e = absurd (h qc pb)
none_one p q x true false l pb qc h e = ap (λ d. cond d (Some x) (find q l)) qc ∙ e
none_one p q x false c l pb qc h e = e

find_none : (p q : WaveItem → Bool) (xs : List WaveItem) → ((x : WaveItem) → q x ≡ true → p x ≡ true → ⊥) → find q (filter p xs) ≡ None
find_none p q [] h = refl
find_none p q (x ∷ xs) h = none_one p q x (p x) (q x) (filter p xs) refl refl (h x) (find_none p q xs h)

nobody_cut : (q : Name → Bool) (items : List WaveItem) (name : Name) (k : ℕ) → q name ≡ false → (ms : List ℕ) → present (map (call_of (filter (λ x. q x.name) items) name k) ms) ≡ []
nobody_cut q items name k e [] = refl
nobody_cut q items name k e (m ∷ ms) =
    ap (λ (o : Option WaveItem). present (o ∷ map (call_of (filter (λ x. q x.name) items) name k) ms)) (find_none (λ x. q x.name) (λ x. is_of name m x && x.number == k) items (λ x hit pass. let n : true ≡ false = sym pass ∙ ap q (sym (name_of_call name m k x hit)) ∙ e in cc))
    ∙ nobody_cut q items name k e ms

-- what passes has only rows of all
pub wave_rows_cut : (q : Name → Bool) (items : List WaveItem) (f : Finding) → IsWaveRow (filter (λ x. q x.name) items) f → IsWaveRow items f
wave_rows_cut q items f row = elim (cases_Bool (q row.name)) [
  | inl pass ↦ record { name = row.name; number = row.number; at = row_move (filter (λ x. q x.name) items) items row.name row.number f (λ j less. wave_cut q items row.name j pass) row.at }
  | inr miss ↦ absurd (no_row row.name.members (wave (filter (λ x. q x.name) items) row.name row.number) f (nobody_cut q items row.name row.number miss row.name.members) row.at.row)
]
