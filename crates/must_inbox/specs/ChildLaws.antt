-- Batches of several children: lists that are lawful for ranges without a common rank are lawful together, and each rank's batches
-- are those of its child.
use Rattle.std.proofs.Common.{◌≡◌, ℕ, ◌<◌, Bool, true, false, cond, List, [], ◌∷◌, ◌++◌, length, Some, refl, sym, ap, subst, ◌∙◌, inl, inr, get_or}
use Rattle.std.specs.Prelude.{◌⊎◌, ◌==◌, slice_get}
use Rattle.std.specs.List.{AllByRecursion}
use Rattle.std.proofs.lemmas.Bool.{true≢false, cases_eq, eqb-true, eq-eqb, ne_eqb}
use Rattle.std.proofs.lemmas.Option.{slice_get-get_or, get_or_from_slice_get, slice_get_within}
use Rattle.must_entry.specs.declared.range.RankRange.{RankRange}
use Rattle.must_entry.specs.declared.batch.Batch.{Batch}
use Rattle.must_entry.specs.Lawful.{in_range, IsBatchOf, IsLawful}
use Rattle.must_inbox.specs.Children.{of_child, batches_of, of_rank, AreCovered, AreNumbered, IsOrderly}
use Rattle.must_inbox.specs.RankLaws.{lawful_none, lawful_rank, lawful_gathered}

-- ---- one more

child_one : (t : Bool) (b : Batch) (us vs ws : List Batch) → ws ≡ us ++ vs → cond t (b ∷ ws) ws ≡ cond t (b ∷ us) us ++ vs
child_one true b us vs ws e = ap (λ l. b ∷ l) e
child_one false b us vs ws e = e

pub of_child-append : (k : ℕ) (xs ys : List (ℕ × Batch)) → of_child k (xs ++ ys) ≡ of_child k xs ++ of_child k ys
of_child-append k [] ys = refl
of_child-append k (x ∷ xs) ys = child_one (x.0 == k) x.1 (of_child k xs) (of_child k ys) (of_child k (xs ++ ys)) (of_child-append k xs ys)

pub batches_of-append : (xs ys : List (ℕ × Batch)) → batches_of (xs ++ ys) ≡ batches_of xs ++ batches_of ys
batches_of-append [] ys = refl
batches_of-append (x ∷ xs) ys = ap (λ l. x.1 ∷ l) (batches_of-append xs ys)

-- ---- the batches of a rank are those of its child

abbrev no_range : RankRange
no_range = record { from = 0; to = 0 }

-- no two of these ranges share a rank
abbrev Apart : ℕ → (ℕ → RankRange) → Type 0
Apart count ranges = (j k rank : ℕ) → j < count → k < count → in_range (ranges j) rank ≡ true → in_range (ranges k) rank ≡ true → j ≡ k

-- each child's batches are of its range
abbrev Inside : ℕ → (ℕ → RankRange) → List (ℕ × Batch) → Type 0
Inside count ranges ms = (k : ℕ) → k < count → AllByRecursion (IsBatchOf (ranges k)) (of_child k ms)

inside_one : (P : Batch → Type 0) (t : Bool) (b : Batch) (bs : List Batch) → AllByRecursion P (cond t (b ∷ bs) bs) → (t ≡ true → P b) × AllByRecursion P bs
inside_one P true b bs a = ((λ e. a.0), a.1)
inside_one P false b bs a = ((λ e. absurd (true≢false (sym e))), a)

inside_tail : (count : ℕ) (ranges : ℕ → RankRange) (m : ℕ × Batch) (ms : List (ℕ × Batch)) → Inside count ranges (m ∷ ms) → Inside count ranges ms
inside_tail count ranges m ms inside k below = (inside_one (IsBatchOf (ranges k)) (m.0 == k) m.1 (of_child k ms) (inside k below)).1

inside_head : (count : ℕ) (ranges : ℕ → RankRange) (m : ℕ × Batch) (ms : List (ℕ × Batch)) → m.0 < count → Inside count ranges (m ∷ ms) → IsBatchOf (ranges m.0) m.1
inside_head count ranges m ms below inside = (inside_one (IsBatchOf (ranges m.0)) (m.0 == m.0) m.1 (of_child m.0 ms) (inside m.0 below)).0 (eq-eqb m.0 m.0 refl)

head_same : (s t : Bool) (rank : ℕ) (b : Batch) (us vs : List Batch) → b.rank == rank ≡ s → (s ≡ true → t ≡ true) → us ≡ of_rank rank vs → cond s (b ∷ us) us ≡ of_rank rank (cond t (b ∷ vs) vs)
head_same s true rank b us vs is same e = subst (λ (u : Bool). cond s (b ∷ us) us ≡ cond u (b ∷ of_rank rank vs) (of_rank rank vs)) (sym is) (ap (λ l. cond s (b ∷ l) l) e)
head_same true false rank b us vs is same e = absurd (true≢false (sym (same refl)))
head_same false false rank b us vs is same e = e

same_child : (count : ℕ) (ranges : ℕ → RankRange) (k rank : ℕ) (ms : List (ℕ × Batch)) → AreNumbered count ms → Apart count ranges → Inside count ranges ms → k < count → in_range (ranges k) rank ≡ true → of_rank rank (batches_of ms) ≡ of_rank rank (of_child k ms)
same_child count ranges k rank [] numbered apart inside below here = refl
same_child count ranges k rank (m ∷ ms) numbered apart inside below here =
    head_same (m.1.rank == rank) (m.0 == k) rank m.1 (of_rank rank (batches_of ms)) (of_child k ms) refl
    (λ is. eq-eqb m.0 k (apart m.0 k rank numbered.0 below (subst (λ r. in_range (ranges m.0) r ≡ true) (eqb-true m.1.rank rank is) (inside_head count ranges m ms numbered.0 inside).0) here))
    (same_child count ranges k rank ms numbered.1 apart (inside_tail count ranges m ms inside) below here)

-- ---- all children's batches together

-- no batch is of the rank, or it is in a child's range
owner : (count : ℕ) (ranges : ℕ → RankRange) (rank : ℕ) (ms : List (ℕ × Batch)) → AreNumbered count ms → Inside count ranges ms → (of_rank rank (batches_of ms) ≡ []) ⊎ ((k : ℕ) × (k < count) × (in_range (ranges k) rank ≡ true))
owner count ranges rank [] numbered inside = inl refl
owner count ranges rank (m ∷ ms) numbered inside = elim (cases_eq m.1.rank rank) [
  | inl is ↦ inr (m.0, numbered.0, subst (λ r. in_range (ranges m.0) r ≡ true) is (inside_head count ranges m ms numbered.0 inside).0)
  | inr other ↦ elim (owner count ranges rank ms numbered.1 (inside_tail count ranges m ms inside)) [
    | inl empty ↦ inl (subst (λ (u : Bool). cond u (m.1 ∷ of_rank rank (batches_of ms)) (of_rank rank (batches_of ms)) ≡ []) (sym (ne_eqb m.1.rank rank other)) empty)
    | inr some ↦ inr some
  ]
]

all_within : (whole : RankRange) (count : ℕ) (ranges : ℕ → RankRange) (ms : List (ℕ × Batch)) → AreNumbered count ms → Inside count ranges ms → ((k rank : ℕ) → k < count → in_range (ranges k) rank ≡ true → in_range whole rank ≡ true) → AllByRecursion (IsBatchOf whole) (batches_of ms)
all_within whole count ranges [] numbered inside covered = tt
all_within whole count ranges (m ∷ ms) numbered inside covered =
    let head = inside_head count ranges m ms numbered.0 inside in
    ((covered m.0 m.1.rank numbered.0 head.0, head.1), all_within whole count ranges ms numbered.1 (inside_tail count ranges m ms inside) covered)

ranged_together : (whole : RankRange) (count : ℕ) (ranges : ℕ → RankRange) (ms : List (ℕ × Batch)) → AreNumbered count ms → Apart count ranges → ((k rank : ℕ) → k < count → in_range (ranges k) rank ≡ true → in_range whole rank ≡ true) → ((k : ℕ) → k < count → IsLawful (ranges k) (of_child k ms)) → IsLawful whole (batches_of ms)
ranged_together whole count ranges ms numbered apart covered lawful =
    let inside : Inside count ranges ms = λ k below. (lawful k below).each in
    lawful_gathered whole (batches_of ms) (all_within whole count ranges ms numbered inside covered) (λ rank. elim (owner count ranges rank ms numbered inside) [
      | inl empty ↦ (no_range, subst (IsLawful no_range) (sym empty) (lawful_none no_range))
      | inr some ↦ (ranges some.0, subst (IsLawful (ranges some.0)) (sym (same_child count ranges some.0 rank ms numbered apart inside some.1 some.2)) (lawful_rank (ranges some.0) rank (of_child some.0 ms) (lawful some.0 some.1)))
    ])

-- lists that are lawful for ranges without a common rank are lawful together for a range that covers these
pub together : (whole : RankRange) (ranges : List RankRange) (ms : List (ℕ × Batch)) → IsOrderly ranges ms → AreCovered ranges whole → IsLawful whole (batches_of ms)
together whole ranges ms o covered =
    let range : ℕ → RankRange = λ k. get_or ranges k no_range in
    let at : (k : ℕ) → k < length ranges → slice_get ranges k ≡ Some (range k) = λ k below. slice_get-get_or ranges k no_range below in
    ranged_together whole (length ranges) range ms o.numbered (λ j k rank a b. o.apart j k rank (range j) (range k) (at j a) (at k b)) (λ k rank below. covered k rank (range k) (at k below)) (λ k below. o.lawful k (range k) (at k below))

-- the batches of a rank of a child's range are those of the child
pub rank_of_child : (ranges : List RankRange) (ms : List (ℕ × Batch)) (k : ℕ) (part : RankRange) (rank : ℕ) → IsOrderly ranges ms → slice_get ranges k ≡ Some part → in_range part rank ≡ true → of_rank rank (batches_of ms) ≡ of_rank rank (of_child k ms)
rank_of_child ranges ms k part rank o e here =
    let range : ℕ → RankRange = λ j. get_or ranges j no_range in
    let at : (j : ℕ) → j < length ranges → slice_get ranges j ≡ Some (range j) = λ j below. slice_get-get_or ranges j no_range below in
    let same : range k ≡ part = get_or_from_slice_get ranges k part no_range e in
    same_child (length ranges) range k rank ms o.numbered (λ i j r a b. o.apart i j r (range i) (range j) (at i a) (at j b)) (λ j below. (o.lawful j (range j) (at j below)).each) (slice_get_within ranges k part e) (subst (λ (w : RankRange). in_range w rank ≡ true) (sym same) here)
