-- Recorded members, lists that differ, and the rows of a split.
use Rattle.std.proofs.Common.{◌≡◌, ℕ, zero, suc, ◌+◌, ◌≤◌, ◌<◌, true, false, cond, List, [], ◌∷◌, ◌++◌, length, drop, map, Option, Some, None, nat_eq, refl, sym, ap, subst, ◌∙◌, arith, append_assoc}
use Rattle.std.specs.Prelude.{slice_get}
use Rattle.std.specs.List.{AllByRecursion, IsDistinct}
use Rattle.std.specs.Option.{option_map}
use Rattle.must_group.specs.declared.splits.SplitRow.{SplitRow}
use Rattle.must_coll.specs.declared.item.WaveItem.{WaveItem}
use Rattle.must_coll.specs.declared.item.ColorKey.{ColorKey}
use Rattle.must_coll.specs.Made.{is_same, unlike_from, recorded_row, split_row, row_before, split_rows}

pub none_recorded : (x : WaveItem) (o : Option (List ℕ)) → recorded_row x o None ≡ None
none_recorded x None = refl
none_recorded x (Some r) = refl

drop_none : {X : Type 0} (i : ℕ) → drop {A = X} i [] ≡ []
drop_none zero = refl
drop_none (suc i) = refl

-- ---- the first position that differs

pub unlike_step : (xs ys : List ℕ) (i j : ℕ) → i < length xs → is_same (slice_get xs i) (slice_get ys i) ≡ true → unlike_from j (drop i xs) (drop i ys) ≡ unlike_from (j + 1) (drop (suc i) xs) (drop (suc i) ys)
unfolding unlike_from
unlike_step [] ys i j h e = absurd (omega (arith, h))
unlike_step (x ∷ xs) [] zero j h e = let n : false ≡ true = e in cc
unlike_step (x ∷ xs) (y ∷ ys) zero j h e = ap (λ b. cond b (unlike_from (j + 1) xs ys) (Some j)) e
unlike_step (x ∷ xs) [] (suc i) j h e = ap (λ (l : List ℕ). unlike_from j (drop i xs) l) (sym (drop_none i)) ∙ unlike_step xs [] i j (omega (arith, h)) e
unlike_step (x ∷ xs) (y ∷ ys) (suc i) j h e = unlike_step xs ys i j (omega (arith, h)) e

pub unlike_stop : (xs ys : List ℕ) (i j : ℕ) → i < length xs → is_same (slice_get xs i) (slice_get ys i) ≡ false → unlike_from j (drop i xs) (drop i ys) ≡ Some j
unfolding unlike_from
unlike_stop [] ys i j h e = absurd (omega (arith, h))
unlike_stop (x ∷ xs) [] zero j h e = refl
unlike_stop (x ∷ xs) (y ∷ ys) zero j h e = ap (λ b. cond b (unlike_from (j + 1) xs ys) (Some j)) e
unlike_stop (x ∷ xs) [] (suc i) j h e = ap (λ (l : List ℕ). unlike_from j (drop i xs) l) (sym (drop_none i)) ∙ unlike_stop xs [] i j (omega (arith, h)) e
unlike_stop (x ∷ xs) (y ∷ ys) (suc i) j h e = unlike_stop xs ys i j (omega (arith, h)) e

pub unlike_longer : (xs ys : List ℕ) (i j : ℕ) → length xs ≤ i → i < length ys → unlike_from j (drop i xs) (drop i ys) ≡ Some j
unfolding unlike_from
unlike_longer [] [] i j h k = absurd (omega (arith, k))
unlike_longer [] (y ∷ ys) zero j h k = refl
unlike_longer [] (y ∷ ys) (suc i) j h k = ap (λ (l : List ℕ). unlike_from j l (drop i ys)) (sym (drop_none i)) ∙ unlike_longer [] ys i j (omega arith) (omega (arith, k))
unlike_longer (x ∷ xs) ys zero j h k = absurd (omega (arith, h))
unlike_longer (x ∷ xs) [] (suc i) j h k = absurd (omega (arith, k))
unlike_longer (x ∷ xs) (y ∷ ys) (suc i) j h k = unlike_longer xs ys i j (omega (arith, h)) (omega (arith, k))

pub unlike_end : (xs ys : List ℕ) (i j : ℕ) → length xs ≤ i → length ys ≤ i → unlike_from j (drop i xs) (drop i ys) ≡ None
unfolding unlike_from
unlike_end [] [] zero j h k = refl
unlike_end [] [] (suc i) j h k = refl
unlike_end [] (y ∷ ys) zero j h k = absurd (omega (arith, k))
unlike_end [] (y ∷ ys) (suc i) j h k = ap (λ (l : List ℕ). unlike_from j l (drop i ys)) (sym (drop_none i)) ∙ unlike_end [] ys i j (omega arith) (omega (arith, k))
unlike_end (x ∷ xs) ys zero j h k = absurd (omega (arith, h))
unlike_end (x ∷ xs) [] (suc i) j h k = ap (λ (l : List ℕ). unlike_from j (drop i xs) l) (sym (drop_none i)) ∙ unlike_end xs [] i j (omega (arith, h)) (omega arith)
unlike_end (x ∷ xs) (y ∷ ys) (suc i) j h k = unlike_end xs ys i j (omega (arith, h)) (omega (arith, k))

-- ---- the rows of a split

pub rows_step : (ms : List ℕ) (calls : List WaveItem) (i m : ℕ) (x : WaveItem) → slice_get ms i ≡ Some m → slice_get calls i ≡ Some x → split_rows (drop i ms) (drop i calls) ≡ row_before m x.split (split_rows (drop (suc i) ms) (drop (suc i) calls))
rows_step [] calls i m x h is = absurd (let q : None ≡ Some m = h in cc)
rows_step (n ∷ ms) [] i m x h is = absurd (let q : None ≡ Some x = is in cc)
rows_step (n ∷ ms) (y ∷ calls) zero m x h is =
    let s : y ≡ x = let q : Some y ≡ Some x = is in cc in
    let k : n ≡ m = let q : Some n ≡ Some m = h in cc in
    ap (λ (l : ℕ). row_before l y.split (split_rows ms calls)) k ∙ ap (λ (z : WaveItem). row_before m z.split (split_rows ms calls)) s
rows_step (n ∷ ms) (y ∷ calls) (suc i) m x h is = rows_step ms calls i m x h is

no_calls_left : (ms : List ℕ) → split_rows ms [] ≡ Some []
no_calls_left [] = refl
no_calls_left (m ∷ ms) = refl

pub rows_end : (ms : List ℕ) (calls : List WaveItem) (i : ℕ) → slice_get calls i ≡ None → split_rows (drop i ms) (drop i calls) ≡ Some []
rows_end ms [] zero e = no_calls_left ms
rows_end [] [] (suc i) e = refl
rows_end (m ∷ ms) [] (suc i) e = no_calls_left (drop i ms)
rows_end ms (x ∷ calls) zero e = absurd (let q : Some x ≡ None = e in cc)
rows_end [] (x ∷ calls) (suc i) e = refl
rows_end (m ∷ ms) (x ∷ calls) (suc i) e = rows_end ms calls i e

pub rows_done : (ms : List ℕ) (calls : List WaveItem) (i : ℕ) → slice_get ms i ≡ None → split_rows (drop i ms) (drop i calls) ≡ Some []
rows_done [] calls zero e = refl
rows_done [] calls (suc i) e = refl
rows_done (m ∷ ms) calls zero e = absurd (let q : Some m ≡ None = e in cc)
rows_done (m ∷ ms) [] (suc i) e = no_calls_left (drop i ms)
rows_done (m ∷ ms) (x ∷ calls) (suc i) e = rows_done ms calls i e

pub none_before : (m : ℕ) (o : Option (List SplitRow)) → row_before m None o ≡ None
none_before m None = refl
none_before m (Some rows) = refl

-- one row more
pub row_joins : (rows : List SplitRow) (m : ℕ) (s : ColorKey) (o : Option (List SplitRow)) → option_map (λ (rest : List SplitRow). (rows ++ split_row m s ∷ []) ++ rest) o ≡ option_map (λ (rest : List SplitRow). rows ++ rest) (row_before m (Some s) o)
row_joins rows m s None = refl
row_joins rows m s (Some rest) = ap Some (append_assoc rows (split_row m s ∷ []) rest)

pub record IsBefore (m : ℕ) (s : Option ColorKey) (o : Option (List SplitRow)) (rows : List SplitRow) : Type 0 where
  pub given : ColorKey
  pub rest : List SplitRow
  pub others : o ≡ Some rest
  pub is : split_row m given ∷ rest ≡ rows

before : (m : ℕ) (s : Option ColorKey) (o : Option (List SplitRow)) (rows : List SplitRow) → row_before m s o ≡ Some rows → IsBefore m s o rows
before m (Some s) (Some rest) rows e = record { given = s; rest = rest; others = refl; is = let q : Some (split_row m s ∷ rest) ≡ Some rows = e in cc }
before m (Some s) None rows e = absurd (let q : None ≡ Some rows = e in cc)
before m None (Some rest) rows e = absurd (let q : None ≡ Some rows = e in cc)
before m None None rows e = absurd (let q : None ≡ Some rows = e in cc)

some_rows : (rows : List SplitRow) → Some [] ≡ Some rows → [] ≡ rows
some_rows rows e = cc

abbrev pub member_of : SplitRow → ℕ
member_of row = row.member

rows_all : (P : ℕ → Type 0) (ms : List ℕ) (calls : List WaveItem) (rows : List SplitRow) → split_rows ms calls ≡ Some rows → AllByRecursion P ms → AllByRecursion P (map member_of rows)
rows_all P [] calls rows e all = subst (λ (l : List SplitRow). AllByRecursion P (map member_of l)) (some_rows rows e) tt
rows_all P (m ∷ ms) [] rows e all = subst (λ (l : List SplitRow). AllByRecursion P (map member_of l)) (some_rows rows e) tt
rows_all P (m ∷ ms) (x ∷ calls) rows e all =
    let b = before m x.split (split_rows ms calls) rows e in
    subst (λ (l : List SplitRow). AllByRecursion P (map member_of l)) b.is (all.0, rows_all P ms calls b.rest b.others all.1)

-- the members of the rows are distinct, as those of the communicator are
pub rows_distinct : (ms : List ℕ) (calls : List WaveItem) (rows : List SplitRow) → split_rows ms calls ≡ Some rows → IsDistinct nat_eq ms → IsDistinct nat_eq (map member_of rows)
unfolding IsDistinct
rows_distinct [] calls rows e d = subst (λ (l : List SplitRow). IsDistinct nat_eq (map member_of l)) (some_rows rows e) tt
rows_distinct (m ∷ ms) [] rows e d = subst (λ (l : List SplitRow). IsDistinct nat_eq (map member_of l)) (some_rows rows e) tt
rows_distinct (m ∷ ms) (x ∷ calls) rows e d =
    let b = before m x.split (split_rows ms calls) rows e in
    subst (λ (l : List SplitRow). IsDistinct nat_eq (map member_of l)) b.is (rows_all (λ k. nat_eq m k ≡ false) ms calls b.rest b.others d.0, rows_distinct ms calls b.rest b.others d.1)
