-- The order of rows is the only one by key with ties as they were, and what decides between two names.
use Rattle.std.proofs.Common.{◌≡◌, ℕ, zero, suc, ◌<◌, Bool, true, false, cond, ℤ, List, [], ◌∷◌, ◌++◌, length, get_or, Less, Equal, Greater, sym, refl, ap, subst, ◌∙◌, arith, add-one, Ordering, eqb, T}
use Rattle.std.specs.Prelude.{int_lt, IsPermutation, ◌<ℤ◌}
use Rattle.std.specs.Cmp.{IsTotalOrder, nat_cmp_total}
use Rattle.std.specs.Cmp.Lexicographic.{slice_cmp}
use Rattle.std.specs.List.Sorted.{IsSortedBy}
use Rattle.std.specs.Ordering.{nat_cmp, int_cmp, ordering_then}
use Rattle.std.proofs.lemmas.Bool.{lt-ltb}
use Rattle.std.proofs.lemmas.Cmp.{tied_itself}
use Rattle.std.proofs.lemmas.List.Sorted.{IsPermutation-refl, IsPermutation-cons, IsPermutation-trans, IsPermutation-middle}
use Rattle.must_group.specs.declared.splits.SplitRow.{SplitRow}
use Rattle.must_group.specs.Names.{Name, step_cmp, name_cmp}
use Rattle.must_group.specs.NameOrder.{step_total}
use Rattle.must_group.specs.NameLaws.{NamesRise}
use Rattle.must_group.specs.Split.{insert_by_key, by_key}
use Rattle.must_group.specs.SplitLaws.{IsByKey, ByKeyLaw}
use Rattle.must_group.proofs.Ordered.{lower, Rises, rises_sorted, one_order, rises_by_key, stable_by_key}

sorted_at : (rows : List SplitRow) → Rises rows → (k : ℕ) (d : SplitRow) → suc k < length rows → lower (get_or rows (suc k) d) (get_or rows k d) ≡ false
sorted_at [] up k d within = absurd (omega arith)
sorted_at (row ∷ rows) up zero d within = up.0 0 d (omega arith)
sorted_at (row ∷ rows) up (suc k) d within = sorted_at rows up.1 k d (omega arith)

sorted_rises : (rows : List SplitRow) → Rises rows → IsSortedBy lower rows
sorted_rises rows up k d low within = rw add-one (sorted_at rows up k d (omega arith))

moved_by : (b : Bool) (row next : SplitRow) (rows : List SplitRow) → IsPermutation (row ∷ rows) (insert_by_key row rows) → IsPermutation (row ∷ next ∷ rows) (cond b (next ∷ insert_by_key row rows) (row ∷ next ∷ rows))
moved_by true row next rows h = IsPermutation-trans (row ∷ next ∷ rows) (next ∷ row ∷ rows) (next ∷ insert_by_key row rows) (IsPermutation-middle (row ∷ []) next rows) (IsPermutation-cons next (row ∷ rows) (insert_by_key row rows) h)
moved_by false row next rows h = IsPermutation-refl (row ∷ next ∷ rows)

inserted : (row : SplitRow) (rows : List SplitRow) → IsPermutation (row ∷ rows) (insert_by_key row rows)
inserted row [] = IsPermutation-refl (row ∷ [])
inserted row (next ∷ rows) = moved_by (int_lt next.key row.key) row next rows (inserted row rows)

same_rows : (rows : List SplitRow) → IsPermutation rows (by_key rows)
same_rows [] = IsPermutation-refl []
same_rows (row ∷ rows) = IsPermutation-trans (row ∷ rows) (row ∷ by_key rows) (insert_by_key row (by_key rows)) (IsPermutation-cons row rows (by_key rows) (same_rows rows)) (inserted row (by_key rows))

pub by_key_law : ByKeyLaw
by_key_law rows ordered = (
  λ h. one_order ordered (by_key rows) (rises_sorted ordered h.rising) (rises_by_key rows) (λ row. h.ties row ∙ sym (stable_by_key row rows)),
  λ e. subst (IsByKey rows) (sym e) (record { same = same_rows rows; rising = sorted_rises (by_key rows) (rises_by_key rows); ties = λ row. stable_by_key row rows }),
)

-- two lists with a common front
behind_front : {X : Type 0} (R : X → X → Ordering) → IsTotalOrder R → (front xs ys : List X) → slice_cmp R (front ++ xs) (front ++ ys) ≡ slice_cmp R xs ys
behind_front R total [] xs ys = refl
behind_front R total (z ∷ zs) xs ys = ap (λ o. ordering_then o (slice_cmp R (zs ++ xs) (zs ++ ys))) (tied_itself total z) ∙ behind_front R total zs xs ys

longer_first : {X : Type 0} (R : X → X → Ordering) → IsTotalOrder R → (front : List X) (x : X) (rest : List X) → slice_cmp R front (front ++ x ∷ rest) ≡ Less
longer_first R total [] x rest = refl
longer_first R total (z ∷ zs) x rest = ap (λ o. ordering_then o (slice_cmp R zs (zs ++ x ∷ rest))) (tied_itself total z) ∙ longer_first R total zs x rest

differ_first : {X : Type 0} (R : X → X → Ordering) → IsTotalOrder R → (front : List X) (x y : X) (xs ys : List X) → R x y ≡ Less → slice_cmp R (front ++ x ∷ xs) (front ++ y ∷ ys) ≡ Less
differ_first R total front x y xs ys h = behind_front R total front (x ∷ xs) (y ∷ ys) ∙ ap (λ o. ordering_then o (slice_cmp R xs ys)) h

itself : {X : Type 0} (R : X → X → Ordering) → IsTotalOrder R → (l : List X) → slice_cmp R l l ≡ Equal
itself R total [] = refl
itself R total (z ∷ zs) = ap (λ o. ordering_then o (slice_cmp R zs zs)) (tied_itself total z) ∙ itself R total zs

same_list : {X : Type 0} (R : X → X → Ordering) → IsTotalOrder R → (xs ys : List X) → xs ≡ ys → slice_cmp R xs ys ≡ Equal
same_list R total xs ys e = subst (λ l. slice_cmp R xs l ≡ Equal) e (itself R total xs)

-- numbers
less_nat : (x y : ℕ) → x < y → nat_cmp x y ≡ Less
less_nat x y h = ap (λ b. cond b Less (cond (eqb x y) Equal Greater)) (lt-ltb x y h)

same_nat : (x y : ℕ) → x ≡ y → nat_cmp x y ≡ Equal
same_nat x y e = subst (λ z. nat_cmp x z ≡ Equal) e (tied_itself nat_cmp_total x)

true_of : (b : Bool) → T b → b ≡ true
true_of true h = refl
true_of false h = absurd h

less_int : (x y : ℤ) → x <ℤ y → int_cmp x y ≡ Less
less_int x y h = ap (λ b. cond b Less (cond (int_lt y x) Greater Equal)) (true_of (int_lt x y) h.lt)

-- what decides between names, once root and path are the same
by_rest : (a b : Name) → a.root ≡ b.root → name_cmp a b ≡ ordering_then (slice_cmp step_cmp a.path b.path) (slice_cmp nat_cmp a.members b.members)
by_rest a b e = ap (λ o. ordering_then o (ordering_then (slice_cmp step_cmp a.path b.path) (slice_cmp nat_cmp a.members b.members))) (same_nat a.root b.root e)

by_path : (a b : Name) → a.root ≡ b.root → slice_cmp step_cmp a.path b.path ≡ Less → name_cmp a b ≡ Less
by_path a b e h = by_rest a b e ∙ ap (λ o. ordering_then o (slice_cmp nat_cmp a.members b.members)) h

by_members : (a b : Name) → a.root ≡ b.root → a.path ≡ b.path → slice_cmp nat_cmp a.members b.members ≡ Less → name_cmp a b ≡ Less
by_members a b e f h = by_rest a b e ∙ ap (λ o. ordering_then o (slice_cmp nat_cmp a.members b.members)) (same_list step_cmp step_total a.path b.path f) ∙ h

pub name_order_law : NamesRise
name_order_law = record {
  root = λ a b h. ap (λ o. ordering_then o (ordering_then (slice_cmp step_cmp a.path b.path) (slice_cmp nat_cmp a.members b.members))) (less_nat a.root b.root h);
  longer_path = λ a b step rest e p. by_path a b e (rw p (longer_first step_cmp step_total a.path step rest));
  first_step = λ a b front s t rest others e p q h. by_path a b e (rw (p, q) (differ_first step_cmp step_total front s t rest others h));
  more_members = λ a b rank rest e f p. by_members a b e f (rw p (longer_first nat_cmp nat_cmp_total a.members rank rest));
  first_member = λ a b front r s rest others e f p q h. by_members a b e f (rw (p, q) (differ_first nat_cmp nat_cmp_total front r s rest others (less_nat r s h)));
  number = λ s t h. ap (λ o. ordering_then o (int_cmp s.class t.class)) (less_nat s.number t.number h);
  class = λ s t e h. ap (λ o. ordering_then o (int_cmp s.class t.class)) (same_nat s.number t.number e) ∙ less_int s.class t.class h;
}
