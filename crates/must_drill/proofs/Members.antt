-- The ranks of one parity are members that a communicator may have.
use Rattle.std.proofs.Common.{◌≡◌, ℕ, zero, suc, ◌+◌, ◌≤◌, ◌<◌, ◌%◌, ◌==◌, ◌||◌, Bool, true, false, cond, eqb, List, ◌∷◌, Some, refl, ap, ◌∙◌, inl, inr, arith}
use Rattle.std.specs.Prelude.{nat_lt}
use Rattle.std.specs.List.{range_with_len, filter, list_all}
use Rattle.std.proofs.lemmas.Bool.{lt-ltb, eq-eqb, ne_eqb, cases_order}
use Rattle.must_format.specs.Stream.{has_rank, are_distinct, have_members}
use Rattle.must_drill.specs.declared.handles.TheConstants.{HALF}
use Rattle.must_drill.specs.Calls.{mates_of}

abbrev are_below : ℕ → List ℕ → Bool
are_below size members = list_all (λ (r : ℕ). nat_lt r size) members

below_more : (b : Bool) (size x : ℕ) (xs : List ℕ) → x < size → are_below size xs ≡ true → are_below size (cond b (x ∷ xs) xs) ≡ true
below_more true size x xs less below = rw (lt-ltb x size less) below
below_more false size x xs less below = below

kept_below : (p : ℕ → Bool) (size a n : ℕ) → a + n ≤ size → are_below size (filter p (range_with_len a n)) ≡ true
kept_below p size a zero within = refl
kept_below p size a (suc n) within = below_more (p a) size a (filter p (range_with_len (a + 1) n)) (omega (arith, within)) (kept_below p size (a + 1) n (omega (arith, within)))

misses_more : (b : Bool) (x a : ℕ) (xs : List ℕ) → x < a → has_rank x xs ≡ false → has_rank x (cond b (a ∷ xs) xs) ≡ false
misses_more true x a xs less misses = rw (ne_eqb a x (λ e. omega (arith, less, e))) misses
misses_more false x a xs less misses = misses

misses : (p : ℕ → Bool) (x a n : ℕ) → x < a → has_rank x (filter p (range_with_len a n)) ≡ false
misses p x a zero less = refl
misses p x a (suc n) less = misses_more (p a) x a (filter p (range_with_len (a + 1) n)) less (misses p x (a + 1) n (omega (arith, less)))

distinct_more : (b : Bool) (x : ℕ) (xs : List ℕ) → has_rank x xs ≡ false → are_distinct xs ≡ true → are_distinct (cond b (x ∷ xs) xs) ≡ true
distinct_more true x xs misses distinct = rw misses distinct
distinct_more false x xs misses distinct = distinct

distinct : (p : ℕ → Bool) (a n : ℕ) → are_distinct (filter p (range_with_len a n)) ≡ true
distinct p a zero = refl
distinct p a (suc n) = distinct_more (p a) a (filter p (range_with_len (a + 1) n)) (misses p a (a + 1) n (omega arith)) (distinct p (a + 1) n)

or_true : (b : Bool) → (b || true) ≡ true
or_true true = refl
or_true false = refl

has_first : (b : Bool) (x a : ℕ) (xs : List ℕ) → b ≡ true → a ≡ x → has_rank x (cond b (a ∷ xs) xs) ≡ true
has_first true x a xs e same = rw (eq-eqb a x same) refl
has_first false x a xs e same = absurd cc

has_more : (b : Bool) (x a : ℕ) (xs : List ℕ) → has_rank x xs ≡ true → has_rank x (cond b (a ∷ xs) xs) ≡ true
has_more true x a xs has = rw has (or_true (eqb a x))
has_more false x a xs has = has

has : (p : ℕ → Bool) (x a n : ℕ) → p x ≡ true → a ≤ x → x < a + n → has_rank x (filter p (range_with_len a n)) ≡ true
has p x a zero passes from within = absurd (omega (arith, from, within))
has p x a (suc n) passes from within = elim (cases_order a x) [
  | inl same ↦ has_first (p a) x a (filter p (range_with_len (a + 1) n)) (ap p same ∙ passes) same
  | inr (inl less) ↦ has_more (p a) x a (filter p (range_with_len (a + 1) n)) (has p x (a + 1) n passes (omega (arith, less)) (omega (arith, within)))
  | inr (inr more) ↦ absurd (omega (arith, from, more))
]

pub mates_stand : (ranks rank : ℕ) → rank < ranks → have_members rank ranks (Some (record { made = HALF; members = mates_of ranks rank })) ≡ true
mates_stand ranks rank less =
    let p : ℕ → Bool = λ m. m % 2 == rank % 2 in
    rw (kept_below p ranks 0 ranks (omega arith), distinct p 0 ranks, has p rank 0 ranks (eq-eqb (rank % 2) (rank % 2) refl) (omega arith) (omega (arith, less))) refl
