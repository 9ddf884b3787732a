-- Members that were marked one after the other.
use Rattle.std.proofs.Common.{◌≡◌, ℕ, suc, ◌+◌, ◌-◌, ◌<◌, ◌≤◌, Bool, true, false, not, eqb, List, [], ◌∷◌, ◌++◌, length, get_or, set, drop, refl, sym, ap, subst, ◌∙◌, append_assoc, arith}
use Rattle.std.specs.Prelude.{◌&&◌, ◌||◌, nat_lt, replicate}
use Rattle.std.specs.List.{list_all, list_any}
use Rattle.std.proofs.lemmas.Bool.{eqb-true, eqb-false, eq-eqb, ne_eqb, lt-ltb, le-ltb}
use Rattle.std.proofs.lemmas.List.{get_or-set_same, get_or-set_other, get_or-replicate, length-set, length-replicate}
use Rattle.std.proofs.lemmas.List.Folds.{list_all-append, list_any-append}
use Rattle.must_format.specs.declared.limits.TheConstants.{MOST_RANKS}
use Rattle.must_call.specs.declared.field.Item.TheVariants as item
use Rattle.must_format.specs.Decoding.{u32_at, items_at}
use Rattle.must_format.specs.Stream.{has_rank, are_distinct}
use Rattle.must_record.specs.Views.{are_ranks_with}

abbrev below : ℕ → ℕ → Bool
below size r = nat_lt r size

and_false : (a : Bool) → (a && false) ≡ false
and_false true = refl
and_false false = refl

or_false : (a : Bool) → (a || false) ≡ a
or_false true = refl
or_false false = refl

or_true : (a : Bool) → (a || true) ≡ true
or_true true = refl
or_true false = refl

-- a member past the size
pub one_past : (rank size : ℕ) (front rest : List ℕ) (r : ℕ) → nat_lt r size ≡ false → are_ranks_with rank size (front ++ r ∷ rest) ≡ false
one_past rank size front rest r past =
    let all : list_all (below size) (front ++ r ∷ rest) ≡ false = list_all-append (below size) front (r ∷ rest) ∙ rw past (and_false (list_all (below size) front)) in
    rw all refl

same_rank : (r : ℕ) → eqb r r ≡ true
same_rank r = eq-eqb r r refl

other_rank : (a b : ℕ) → eqb a b ≡ false → eqb b a ≡ false
other_rank a b e = ne_eqb b a (λ same. eqb-false a b e (sym same))

here : (r m : ℕ) (front rest : List ℕ) → eqb m r ≡ true → has_rank m (front ++ r ∷ rest) ≡ true
here r m front rest e =
    let same : m ≡ r = eqb-true m r e in
    let back : eqb r m ≡ true = eq-eqb r m (sym same) in
    list_any-append (λ (x : ℕ). eqb x m) front (r ∷ rest) ∙ rw back (or_true (list_any (λ (x : ℕ). eqb x m) front))

again_at : (b : Bool) (m r : ℕ) (front rest : List ℕ) → eqb m r ≡ b → (b || has_rank r front) ≡ true → (has_rank r front ≡ true → are_distinct (front ++ r ∷ rest) ≡ false) → are_distinct (m ∷ (front ++ r ∷ rest)) ≡ false
again_at true m r front rest e has later = rw (here r m front rest e) refl
again_at false m r front rest e has later = rw (later has) (and_false (not (has_rank m (front ++ r ∷ rest))))

-- a member that stood before
again : (front rest : List ℕ) (r : ℕ) → has_rank r front ≡ true → are_distinct (front ++ r ∷ rest) ≡ false
again [] rest r has = absurd cc
again (m ∷ front) rest r has = again_at (eqb m r) m r front rest refl has (λ later. again front rest r later)

pub one_again : (rank size : ℕ) (front rest : List ℕ) (r : ℕ) → has_rank r front ≡ true → are_ranks_with rank size (front ++ r ∷ rest) ≡ false
one_again rank size front rest r has = rw (again front rest r has) (and_false (list_all (below size) (front ++ r ∷ rest)))

-- ---- one member more

pub has_more : (r m : ℕ) (xs : List ℕ) → has_rank r (xs ++ m ∷ []) ≡ (has_rank r xs || eqb m r)
has_more r m xs = list_any-append (λ (x : ℕ). eqb x r) xs (m ∷ []) ∙ ap (λ (b : Bool). has_rank r xs || b) (or_false (eqb m r))

or_none : (a b : Bool) → (a || b) ≡ false → (a ≡ false) × (b ≡ false)
or_none true b e = absurd cc
or_none false b e = (refl, e)

and_both : (a b : Bool) → (a && b) ≡ true → (a ≡ true) × (b ≡ true)
and_both true b e = (refl, e)
and_both false b e = absurd cc

not_one : (b : Bool) → not b ≡ true → b ≡ false
not_one true e = absurd cc
not_one false e = refl

distinct_more : (m : ℕ) (xs : List ℕ) → are_distinct xs ≡ true → has_rank m xs ≡ false → are_distinct (xs ++ m ∷ []) ≡ true
distinct_more m [] d h = refl
distinct_more m (x ∷ xs) d h =
    let n = or_none (eqb x m) (has_rank m xs) h in
    let p = and_both (not (has_rank x xs)) (are_distinct xs) d in
    let none : has_rank x (xs ++ m ∷ []) ≡ false = has_more x m xs ∙ rw (not_one (has_rank x xs) p.0, other_rank x m n.0) refl in
    rw (none, distinct_more m xs p.1 n.1) refl

-- ---- the marks

-- these members were marked: distinct ranks below the size
pub record Marked (size : ℕ) (marks : List Bool) (xs : List ℕ) : Type 0 where
  pub long : length marks ≡ MOST_RANKS
  pub marks_are : (r : ℕ) → r < MOST_RANKS → get_or marks r false ≡ has_rank r xs
  pub low : list_all (below size) xs ≡ true
  pub distinct : are_distinct xs ≡ true

mark_at : (b : Bool) (marks : List Bool) (xs : List ℕ) (m r : ℕ) → m < length marks → eqb m r ≡ b → get_or marks r false ≡ has_rank r xs → get_or (set marks m true) r false ≡ has_rank r (xs ++ m ∷ [])
mark_at true marks xs m r within e old =
    let same : m ≡ r = eqb-true m r e in
    subst (λ (k : ℕ). get_or (set marks m true) k false ≡ true) same (get_or-set_same marks m true false within) ∙ sym (has_more r m xs ∙ rw e (or_true (has_rank r xs)))
mark_at false marks xs m r within e old =
    get_or-set_other marks m r true false (λ same. eqb-false m r e (sym same)) ∙ old ∙ sym (has_more r m xs ∙ rw e (or_false (has_rank r xs)))

pub mark : (size : ℕ) (marks : List Bool) (xs : List ℕ) (m : ℕ) → m < size → size ≤ MOST_RANKS → has_rank m xs ≡ false → Marked size marks xs → Marked size (set marks m true) (xs ++ m ∷ [])
mark size marks xs m lt most new k = record {
  long = length-set marks m true ∙ k.long;
  marks_are = λ r within. mark_at (eqb m r) marks xs m r (omega (arith, k.long, lt, most)) refl (k.marks_are r within);
  low = list_all-append (below size) xs (m ∷ []) ∙ rw (k.low, lt-ltb m size lt) refl;
  distinct = distinct_more m xs k.distinct new;
}

pub no_marks : (size : ℕ) → Marked size (replicate MOST_RANKS false) []
no_marks size = record { long = length-replicate MOST_RANKS false; marks_are = λ r within. get_or-replicate MOST_RANKS r false false within; low = refl; distinct = refl }

-- ---- members that are read one after the other

pub items_next : (n i : ℕ) (front bytes all : List ℕ) → i < n → front ++ items_at item.Request (n - i) bytes ≡ all → all ≡ front ++ u32_at bytes ∷ items_at item.Request (n - (i + 1)) (drop 4 bytes)
items_next n i front bytes all lt e = let k : n - i ≡ suc (n - (i + 1)) = omega (arith, lt) in sym (rw k at e)

pub past_refused : (rank size n i : ℕ) (front bytes all : List ℕ) → i < n → front ++ items_at item.Request (n - i) bytes ≡ all → size ≤ u32_at bytes → false ≡ are_ranks_with rank size all
past_refused rank size n i front bytes all lt e past =
    sym (ap (are_ranks_with rank size) (items_next n i front bytes all lt e) ∙ one_past rank size front (items_at item.Request (n - (i + 1)) (drop 4 bytes)) (u32_at bytes) (le-ltb (u32_at bytes) size past))

pub again_refused : (rank size n i : ℕ) (front bytes all : List ℕ) → i < n → front ++ items_at item.Request (n - i) bytes ≡ all → has_rank (u32_at bytes) front ≡ true → false ≡ are_ranks_with rank size all
again_refused rank size n i front bytes all lt e has =
    sym (ap (are_ranks_with rank size) (items_next n i front bytes all lt e) ∙ one_again rank size front (items_at item.Request (n - (i + 1)) (drop 4 bytes)) (u32_at bytes) has)

pub member_next : (n i : ℕ) (front bytes all : List ℕ) → i < n → front ++ items_at item.Request (n - i) bytes ≡ all → (front ++ u32_at bytes ∷ []) ++ items_at item.Request (n - (i + 1)) (drop 4 bytes) ≡ all
member_next n i front bytes all lt e = append_assoc front (u32_at bytes ∷ []) (items_at item.Request (n - (i + 1)) (drop 4 bytes)) ∙ sym (items_next n i front bytes all lt e)
