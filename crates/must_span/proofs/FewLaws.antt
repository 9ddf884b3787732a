-- How many ranges copies take, by the weight of what is repeated.
use Rattle.std.proofs.Common.{◌≡◌, refl, sym, ◌∙◌, ap, subst, arith, inl, inr, ◌⊎◌, Bool, true, false, ℕ, zero, suc, ◌+◌, ◌*◌, ◌<◌, ◌≤◌, ℤ, pos, List, [], ◌∷◌, ◌++◌, length, mul-le-mul, le_refl, length-append}
use Rattle.std.specs.Prelude.{◌==◌, ◌&&◌}
use Rattle.std.specs.List.{AllByRecursion}
use Rattle.std.specs.Ordering.{int_eq}
use Rattle.std.proofs.lemmas.Bool.Decides.{nat_tests, Decides-int_eq}
use Rattle.must_type.specs.Weights.{is_dense, weigh}
use Rattle.must_span.specs.declared.ranges.AddressRange.{AddressRange}
use Rattle.must_span.specs.Steps.{IsAsLong, AreFew}

-- ---- the weight of a block

bool_or : (b : Bool) → (b ≡ true) ⊎ (b ≡ false)
bool_or true = inl refl
bool_or false = inr refl

some_not_zero : (n : ℕ) → 0 < n → (n == 0) ≡ false
some_not_zero n h = grind (arith, nat_tests)

and_both : (a b : Bool) → (a && b) ≡ true → (a ≡ true) × (b ≡ true)
and_both true b h = (refl, h)
and_both false b h = (h, absurd (grind arith))

one_by : (n : ℕ) → (n == 1) ≡ true → n ≡ 1
one_by n h = grind (arith, nat_tests)

pub dense_is : (w s : ℕ) (e : ℤ) → is_dense (record { weight = w; size = s; extent = e }) ≡ true → (w ≡ 1) × (pos s ≡ e)
dense_is w s e h = let b = and_both (w == 1) (int_eq (pos s) e) h in (one_by w b.0, (Decides-int_eq (pos s) e).0 b.1)

-- the two weights of a block that isn't empty
pub weighs : (n w s : ℕ) (e : ℤ) → 0 < n → ((w ≡ 1) × (pos s ≡ e) × (weigh n (record { weight = w; size = s; extent = e }) ≡ 1)) ⊎ (weigh n (record { weight = w; size = s; extent = e }) ≡ n * w)
weighs n w s e h = elim (bool_or (is_dense (record { weight = w; size = s; extent = e }))) [
  | inl d ↦ let b = dense_is w s e d in inl (b.0, b.1, rw (some_not_zero n h, d) refl)
  | inr d ↦ inr (rw (some_not_zero n h, d) refl)
]

product_some : (n w : ℕ) → 0 < n → 1 ≤ w → 1 ≤ n * w
product_some n w h g = let m : 1 * 1 ≤ n * w = mul-le-mul h g in omega (arith, m)

pub product_one : (n w : ℕ) → n * w ≡ 1 → (n ≡ 1) × (w ≡ 1)
product_one zero w h = let z : 0 * w ≡ 0 = omega arith in absurd (omega (arith, h, z))
product_one (suc n) zero h = let z : suc n * 0 ≡ 0 = omega arith in absurd (omega (arith, h, z))
product_one (suc zero) (suc w) h = let z : 1 * suc w ≡ suc w = omega arith in (refl, omega (arith, h, z))
product_one (suc (suc n)) (suc w) h = let p : 2 ≤ suc (suc n) = omega arith in let q : 1 ≤ suc w = omega arith in let m : 2 * 1 ≤ suc (suc n) * suc w = mul-le-mul p q in absurd (omega (arith, h, m))

product_none : (n w s : ℕ) → (w ≡ 0 → s ≡ 0) → n * w ≡ 0 → n * s ≡ 0
product_none zero w s f h = omega arith
product_none (suc n) zero s f h = let z : suc n * 0 ≡ 0 = omega arith in subst (λ (k : ℕ). suc n * k ≡ 0) (sym (f refl)) z
product_none (suc n) (suc w) s f h = absurd (omega (arith, h, product_some (suc n) (suc w) (omega arith) (omega arith)))

pub weigh_least : (n w s : ℕ) (e : ℤ) → 0 < n → 1 ≤ w → 1 ≤ weigh n (record { weight = w; size = s; extent = e })
weigh_least n w s e h g = elim (weighs n w s e h) [
  | inl d ↦ omega (arith, d.2)
  | inr d ↦ omega (arith, d, product_some n w h g)
]

pub weigh_one : (n w s : ℕ) (e : ℤ) → 0 < n → (w ≡ 1 → pos s ≡ e) → weigh n (record { weight = w; size = s; extent = e }) ≡ 1 → pos s ≡ e
weigh_one n w s e h f u = elim (weighs n w s e h) [
  | inl d ↦ d.1
  | inr d ↦ f (product_one n w (sym d ∙ u)).1
]

-- ---- ranges by weight

pub none_few : (w s : ℕ) → s ≡ 0 → AreFew [] w s
none_few w s e = record { few = omega arith; one = λ u. tt; none = λ u. e }

all_append : (P : AddressRange → Type 0) (a b : List AddressRange) → AllByRecursion P a → AllByRecursion P b → AllByRecursion P (a ++ b)
all_append P [] b p q = q
all_append P (r ∷ a) b p q = (p.0, all_append P a b p.1 q)

no_range : (P : AddressRange → Type 0) (rs : List AddressRange) → length rs ≤ 0 → AllByRecursion P rs
no_range P [] h = tt
no_range P (r ∷ rs) h = absurd (omega (arith, h))

long_as : (s t : ℕ) (rs : List AddressRange) → s ≡ t → AllByRecursion (IsAsLong (pos s)) rs → AllByRecursion (IsAsLong (pos t)) rs
long_as s t rs e p = subst (λ (n : ℕ). AllByRecursion (IsAsLong (pos n)) rs) e p

pub few_append : (a b : List AddressRange) (v w s t : ℕ) → AreFew a v s → AreFew b w t → AreFew (a ++ b) (v + w) (s + t)
few_append a b v w s t f g = record {
  few = omega (arith, length-append a b, f.few, g.few);
  one = λ u. elim (one_of v w u) [
    | inl p ↦ all_append _ a b (long_as s (s + t) a (omega (arith, g.none p.1)) (f.one p.0)) (no_range _ b (omega (arith, g.few, p.1)))
    | inr p ↦ all_append _ a b (no_range _ a (omega (arith, f.few, p.0))) (long_as t (s + t) b (omega (arith, f.none p.0)) (g.one p.1))
  ];
  none = λ u. omega (arith, f.none (omega (arith, u)), g.none (omega (arith, u)));
}
  where
    one_of : (v w : ℕ) → v + w ≡ 1 → ((v ≡ 1) × (w ≡ 0)) ⊎ ((v ≡ 0) × (w ≡ 1))
    one_of zero w h = inr (refl, omega (arith, h))
    one_of (suc v) w h = inl (omega (arith, h), omega (arith, h))

pub rows_few : (n w s : ℕ) (rs more : List AddressRange) → length more ≡ n * length rs → ((t : ℤ) → AllByRecursion (IsAsLong t) rs → AllByRecursion (IsAsLong t) more) → AreFew rs w s → AreFew more (n * w) (n * s)
rows_few n w s rs more number long f = record {
  few = let m : n * length rs ≤ n * w = mul-le-mul (le_refl n) f.few in omega (arith, number, m);
  one = λ u.
      let b = product_one n w u in
      let one : 1 * s ≡ s = omega arith in
      let same : s ≡ n * s = sym (ap (λ (k : ℕ). k * s) b.0 ∙ one) in
      long_as s (n * s) more same (long (pos s) (f.one b.1));
  none = product_none n w s f.none;
}

-- a block whose sole range isn't as long as the stride
pub block_few : (n w s : ℕ) (e : ℤ) (rs more : List AddressRange) → length more ≡ n * length rs → ((t : ℤ) → AllByRecursion (IsAsLong t) rs → AllByRecursion (IsAsLong t) more) → AreFew rs w s →
    (length rs ≤ 1 → AllByRecursion (IsAsLong e) rs → rs ≡ []) → AreFew more (weigh n (record { weight = w; size = s; extent = e })) (n * s)
block_few zero w s e rs more number long f sparse = subst (λ l. AreFew l (weigh 0 (record { weight = w; size = s; extent = e })) (0 * s)) (sym (empty more (omega (arith, number)))) (none_few (weigh 0 (record { weight = w; size = s; extent = e })) (0 * s) (omega arith))
  where
    empty : (rs : List AddressRange) → length rs ≤ 0 → rs ≡ []
    empty [] h = refl
    empty (r ∷ rs) h = absurd (omega (arith, h))
block_few (suc n) w s e rs more number long f sparse = elim (weighs (suc n) w s e (omega arith)) [
  | inl d ↦
      let nil : rs ≡ [] = sparse (omega (arith, f.few, d.0)) (subst (λ (z : ℤ). AllByRecursion (IsAsLong z) rs) d.1 (f.one d.0)) in
      let nought : suc n * 0 ≡ 0 = omega arith in
      let none : length more ≤ 0 = omega (arith, number, ap (λ l. suc n * length l) nil, nought) in
      record { few = omega (arith, none); one = λ u. no_range _ more none; none = λ u. absurd (omega (arith, u, d.2)) }
  | inr d ↦ subst (λ (m : ℕ). AreFew more m (suc n * s)) (sym d) (rows_few (suc n) w s rs more number long f)
]
