-- Lists of several ranks: what all give, and that they are lawful together.
use Rattle.std.proofs.Common.{◌≡◌, ℕ, suc, ◌+◌, ◌<◌, ◌≤◌, false, List, [], ◌∷◌, ◌++◌, length, refl, sym, ap, ◌∙◌, subst, inl, inr, arith}
use Rattle.std.specs.Prelude.{◌==◌}
use Rattle.std.specs.List.{AllByRecursion}
use Rattle.std.proofs.lemmas.Bool.{cases_eq, ne_eqb}
use Rattle.std.proofs.lemmas.List.{append-nil}
use Rattle.std.proofs.lemmas.List.Elements.{filter-append}
use Rattle.must_format.specs.declared.fault.StreamFault.{StreamFault}
use Rattle.must_entry.specs.declared.batch.Batch.{Batch}
use Rattle.must_entry.specs.declared.range.RankRange.{RankRange}
use Rattle.must_entry.specs.Entries.{entries_of}
use Rattle.must_entry.specs.Lawful.{IsBatchOf, IsLawful}
use Rattle.must_inbox.specs.Children.{of_rank}
use Rattle.must_inbox.specs.ListLaws.{all_join, all_weaker, flat_append}
use Rattle.must_inbox.specs.RankLaws.{lawful_none, lawful_rank, lawful_gathered}
use Rattle.must_node.specs.ListLaws.{none_pass}
use Rattle.must_levels.specs.Readers.{one_rank, AreSince, AreWhole, IsLowestFault, batches_in, AreRankLists}
use Rattle.must_levels.proofs.PortLists.{in_from, in_to, is_in}

-- ---- the first child's parts, and the others

pub all_front : {S : Type 0} (Q : S → Type 0) (xs ys : List S) → AllByRecursion Q (xs ++ ys) → AllByRecursion Q xs
all_front Q [] ys a = tt
all_front Q (x ∷ xs) ys a = (a.0, all_front Q xs ys a.1)

pub all_rest : {S : Type 0} (Q : S → Type 0) (xs ys : List S) → AllByRecursion Q (xs ++ ys) → AllByRecursion Q ys
all_rest Q [] ys a = a
all_rest Q (x ∷ xs) ys a = all_rest Q xs ys a.1

pub since_both : {S : Type 0} (since : S → S → Type 0) (xs xs' ys ys' : List S) → AreSince since xs xs' → AreSince since ys ys' → AreSince since (xs ++ ys) (xs' ++ ys')
since_both since [] [] ys ys' a b = b
since_both since [] (q ∷ qs) ys ys' a b = absurd a
since_both since (p ∷ ps) [] ys ys' a b = absurd a
since_both since (p ∷ ps) (q ∷ qs) ys ys' a b = (a.0, since_both since ps qs ys ys' a.1 b)

-- parts that weren't read
pub since_unread : {S : Type 0} (ready : S → Type 0) (since : S → S → Type 0) → ((first : S) → ready first → since first first) → (xs : List S) → AllByRecursion ready xs → AreSince since xs xs
since_unread ready since untouched [] a = tt
since_unread ready since untouched (x ∷ xs) a = (untouched x a.0, since_unread ready since untouched xs a.1)

pub whole_both : {S : Type 0} (whole : ℕ → S → S → List Batch → Type 0) (from next : ℕ) (xs xs' : List S) (ls : List (List Batch)) (ys ys' : List S) (ms : List (List Batch)) → next ≡ from + length xs → AreWhole whole from xs xs' ls → AreWhole whole next ys ys' ms → AreWhole whole from (xs ++ ys) (xs' ++ ys') (ls ++ ms)
whole_both whole from next [] [] [] ys ys' ms e a b = subst (λ n. AreWhole whole n ys ys' ms) (let is : next ≡ from = omega (arith, e) in is) b
whole_both whole from next [] [] (l ∷ ls) ys ys' ms e a b = absurd a
whole_both whole from next [] (q ∷ qs) ls ys ys' ms e a b = absurd a
whole_both whole from next (p ∷ ps) [] ls ys ys' ms e a b = absurd a
whole_both whole from next (p ∷ ps) (q ∷ qs) [] ys ys' ms e a b = absurd a
whole_both whole from next (p ∷ ps) (q ∷ qs) (l ∷ ls) ys ys' ms e a b = (a.0, whole_both whole (from + 1) next ps qs ls ys ys' ms (omega (arith, e)) a.1 b)

pub whole_length : {S : Type 0} (whole : ℕ → S → S → List Batch → Type 0) (from : ℕ) (xs xs' : List S) (ls : List (List Batch)) → AreWhole whole from xs xs' ls → length ls ≡ length xs
whole_length whole from [] [] [] a = refl
whole_length whole from [] [] (l ∷ ls) a = absurd a
whole_length whole from [] (q ∷ qs) ls a = absurd a
whole_length whole from (p ∷ ps) [] ls a = absurd a
whole_length whole from (p ∷ ps) (q ∷ qs) [] a = absurd a
whole_length whole from (p ∷ ps) (q ∷ qs) (l ∷ ls) a = ap suc (whole_length whole (from + 1) ps qs ls a.1)

pub fault_front : {S : Type 0} (whole : ℕ → S → S → List Batch → Type 0) (failed : ℕ → S → S → StreamFault → Type 0) (from : ℕ) (xs xs' ys ys' : List S) (rank : ℕ) (f : StreamFault) → IsLowestFault whole failed from xs xs' rank f → IsLowestFault whole failed from (xs ++ ys) (xs' ++ ys') rank f
fault_front whole failed from [] xs' ys ys' rank f a = absurd a
fault_front whole failed from (p ∷ ps) [] ys ys' rank f a = absurd a
fault_front whole failed from (p ∷ ps) (q ∷ qs) ys ys' rank f (inl a) = inl a
fault_front whole failed from (p ∷ ps) (q ∷ qs) ys ys' rank f (inr a) = inr (a.0, fault_front whole failed (from + 1) ps qs ys ys' rank f a.1)

pub fault_rest : {S : Type 0} (whole : ℕ → S → S → List Batch → Type 0) (failed : ℕ → S → S → StreamFault → Type 0) (from next : ℕ) (xs xs' : List S) (ls : List (List Batch)) (ys ys' : List S) (rank : ℕ) (f : StreamFault) → next ≡ from + length xs → AreWhole whole from xs xs' ls → IsLowestFault whole failed next ys ys' rank f → IsLowestFault whole failed from (xs ++ ys) (xs' ++ ys') rank f
fault_rest whole failed from next [] [] [] ys ys' rank f e a b = subst (λ n. IsLowestFault whole failed n ys ys' rank f) (let is : next ≡ from = omega (arith, e) in is) b
fault_rest whole failed from next [] [] (l ∷ ls) ys ys' rank f e a b = absurd a
fault_rest whole failed from next [] (q ∷ qs) ls ys ys' rank f e a b = absurd a
fault_rest whole failed from next (p ∷ ps) [] ls ys ys' rank f e a b = absurd a
fault_rest whole failed from next (p ∷ ps) (q ∷ qs) [] ys ys' rank f e a b = absurd a
fault_rest whole failed from next (p ∷ ps) (q ∷ qs) (l ∷ ls) ys ys' rank f e a b = inr ((l, a.0), fault_rest whole failed (from + 1) next ps qs ls ys ys' rank f (omega (arith, e)) a.1 b)

-- ---- lists of ranks

pub ranks_both : (from next : ℕ) (xs ys : List (List Batch)) → next ≡ from + length xs → AreRankLists from xs → AreRankLists next ys → AreRankLists from (xs ++ ys)
ranks_both from next [] ys e a b = subst (λ n. AreRankLists n ys) (let is : next ≡ from = omega (arith, e) in is) b
ranks_both from next (x ∷ xs) ys e a b = (a.0, ranks_both (from + 1) next xs ys (omega (arith, e)) a.1 b)

pub batches_both : (xs ys : List (List Batch)) → batches_in (xs ++ ys) ≡ batches_in xs ++ batches_in ys
batches_both xs ys = flat_append (λ (l : List Batch). l) xs ys

pub entries_both : (xs ys : List Batch) → entries_of (xs ++ ys) ≡ entries_of xs ++ entries_of ys
entries_both xs ys = flat_append (λ (b : Batch). b.entries) xs ys

each_wider : (whole : RankRange) (rank : ℕ) (l : List Batch) → whole.from ≤ rank → rank < whole.to → AllByRecursion (IsBatchOf (one_rank rank)) l → AllByRecursion (IsBatchOf whole) l
each_wider whole rank l low high a = all_weaker (IsBatchOf (one_rank rank)) (IsBatchOf whole) l (λ b is.
    let p = in_from (one_rank rank) b.rank is.0 in
    let q = in_to (one_rank rank) b.rank is.0 in
    (is_in whole b.rank (omega (arith, p, low)) (omega (arith, p, q, high)), is.1)) a

each_of_ranks : (whole : RankRange) (from : ℕ) (lists : List (List Batch)) → whole.from ≤ from → from + length lists ≤ whole.to → AreRankLists from lists → AllByRecursion (IsBatchOf whole) (batches_in lists)
each_of_ranks whole from [] low high a = tt
each_of_ranks whole from (l ∷ ls) low high a =
    all_join (IsBatchOf whole) l (batches_in ls) (each_wider whole from l low (omega (arith, high)) a.0.each) (each_of_ranks whole (from + 1) ls (omega (arith, low)) (omega (arith, high)) a.1)

none_other : (rank from : ℕ) (l : List Batch) → (rank ≡ from → ⊥) → AllByRecursion (IsBatchOf (one_rank from)) l → of_rank rank l ≡ []
none_other rank from l other a = none_pass (λ (b : Batch). b.rank == rank) l (all_weaker (IsBatchOf (one_rank from)) (λ (b : Batch). b.rank == rank ≡ false) l (λ b is.
    let p = in_from (one_rank from) b.rank is.0 in
    let q = in_to (one_rank from) b.rank is.0 in
    ne_eqb b.rank rank (λ e. other (omega (arith, p, q, e)))) a)

none_lower : (rank from : ℕ) (lists : List (List Batch)) → rank < from → AreRankLists from lists → of_rank rank (batches_in lists) ≡ []
none_lower rank from [] lt a = refl
none_lower rank from (l ∷ ls) lt a =
    filter-append (λ (b : Batch). b.rank == rank) l (batches_in ls) ∙ ap (λ (w : List Batch). w ++ of_rank rank (batches_in ls)) (none_other rank from l (λ e. absurd (omega (arith, lt, e))) a.0.each) ∙ none_lower rank (from + 1) ls (omega (arith, lt)) a.1

rank_lawful : (from rank : ℕ) (lists : List (List Batch)) → AreRankLists from lists → (range : RankRange) × IsLawful range (of_rank rank (batches_in lists))
rank_lawful from rank [] a = (one_rank rank, lawful_none (one_rank rank))
rank_lawful from rank (l ∷ ls) a = elim (cases_eq rank from) [
  | inl is ↦
      let rest = none_lower rank (from + 1) ls (omega (arith, is)) a.1 in
      let same : of_rank rank (l ++ batches_in ls) ≡ of_rank rank l = filter-append (λ (b : Batch). b.rank == rank) l (batches_in ls) ∙ ap (λ (w : List Batch). of_rank rank l ++ w) rest ∙ append-nil (of_rank rank l) in
      (one_rank from, subst (IsLawful (one_rank from)) (sym same) (lawful_rank (one_rank from) rank l a.0))
  | inr other ↦
      let same : of_rank rank (l ++ batches_in ls) ≡ of_rank rank (batches_in ls) = filter-append (λ (b : Batch). b.rank == rank) l (batches_in ls) ∙ ap (λ (w : List Batch). w ++ of_rank rank (batches_in ls)) (none_other rank from l other a.0.each) in
      let more = rank_lawful (from + 1) rank ls a.1 in
      (more.0, subst (IsLawful more.0) (sym same) more.1)
]

-- lists that are lawful for their ranks are lawful together
pub lists_lawful : (whole : RankRange) (from : ℕ) (lists : List (List Batch)) → whole.from ≤ from → from + length lists ≤ whole.to → AreRankLists from lists → IsLawful whole (batches_in lists)
lists_lawful whole from lists low high a = lawful_gathered whole (batches_in lists) (each_of_ranks whole from lists low high a) (λ rank. rank_lawful from rank lists a)
