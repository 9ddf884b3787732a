-- The laws of paddings and of cells.
use Rattle.std.proofs.Common.{◌≡◌, refl, sym, ◌∙◌, ap, subst, arith, Less, ℕ, zero, suc, ◌+◌, ◌-◌, ◌*◌, ◌/◌, ◌%◌, ◌≤◌, ◌<◌, ℤ, pos, negsuc, ◌+ℤ◌, ◌-ℤ◌, ◌*ℤ◌, List, [], ◌∷◌, ◌++◌, map, mul-le-mul, le_refl, mul_comm}
use Rattle.std.specs.List.{AllByRecursion}
use Rattle.std.specs.Ordering.{nat_cmp}
use Rattle.std.specs.Cmp.{nat_cmp_is}
use Rattle.must_base.specs.Listing.{Rises}
use Rattle.must_base.specs.ListingLaws.{rises_nil, rises_cons}
use Rattle.std.specs.Int.{int_rem_euclid}
use Rattle.std.proofs.lemmas.Int.{ints}
use Rattle.std.proofs.Math.IntN.{pos-*ℤ-pos, negsuc-*ℤ-pos}
use Rattle.std.proofs.Math.Nat.{add-mul}
use Rattle.must_call.specs.declared.items.Dim.{Dim}
use Rattle.must_type.specs.Maps.{padding, each_below}
use Rattle.must_type.specs.Constructs.{natural, cells_in, part_cells}
use Rattle.must_type.specs.Allowed.{IsPart}
use Rattle.must_type.specs.Laws.{IsLeastPadding, AreCellsOf}
use Rattle.must_type.proofs.Parts.{natural_is}

below_zero : (q a : ℕ) (z : ℤ) → z +ℤ pos (a * q) ≡ pos 0 → (k : ℤ) × (z ≡ k *ℤ pos a)
below_zero zero a z e =
    let p = pos-*ℤ-pos 0 a in
    let n : a * 0 ≡ 0 = omega arith in
    let m : 0 * a ≡ 0 = omega arith in
    (pos 0, omega (arith, ints, e, p, n, m))
below_zero (suc q) a z e =
    let p = negsuc-*ℤ-pos q a in
    let n = mul_comm a (suc q) in
    (negsuc q, omega (arith, ints, e, p, n))

above_zero : (q a : ℕ) (z : ℤ) → z ≡ pos (a * q) → (k : ℤ) × (z ≡ k *ℤ pos a)
above_zero q a z e = (pos q, e ∙ ap pos (mul_comm a q) ∙ sym (pos-*ℤ-pos q a))

-- by the sign of what is divided: the length is 0 - z
by_sign : (z length : ℤ) (a : ℕ) → pos 0 -ℤ length ≡ z → 1 ≤ a → IsLeastPadding length a (int_rem_euclid z (pos a))
by_sign (pos n) length a e h =
    let d : a * (n / a) + n % a ≡ n = omega arith in
    let r : n % a < a = omega arith in
    record {
      some = omega (arith, ints);
      below = omega (arith, ints, r);
      multiple = below_zero (n / a) a (length +ℤ pos (n % a)) (omega (arith, ints, e, d));
    }
by_sign (negsuc n) length a e h =
    let d : a * (n / a) + n % a ≡ n = omega arith in
    let r : n % a < a = omega arith in
    let m : a * suc (n / a) ≡ a * (n / a) + a = omega arith in
    record {
      some = omega (arith, ints);
      below = omega (arith, ints, r, h);
      multiple = above_zero (suc (n / a)) a (length +ℤ pos (a - 1 - n % a)) (omega (arith, ints, e, d, r, m));
    }

pub padding_least : (length : ℤ) (a : ℕ) → 1 ≤ a → IsLeastPadding length a (padding length a)
padding_least length a h = by_sign (pos 0 -ℤ length) length a refl h

-- ---- cells

-- each number is below those behind it
abbrev Rise : List ℕ → Type 0
Rise [] = Unit {0}
Rise (x ∷ xs) = AllByRecursion (λ y. x < y) xs × Rise xs

before_all : (x : ℕ) (xs : List ℕ) → AllByRecursion (λ y. x < y) xs → AllByRecursion (λ y. nat_cmp x y ≡ Less) xs
before_all x [] h = tt
before_all x (y ∷ ys) h = (sym (nat_cmp_is x y Less h.0), before_all x ys h.1)

rises : (xs : List ℕ) → Rise xs → Rises nat_cmp xs
rises [] h = rises_nil nat_cmp
rises (x ∷ xs) h = rises_cons nat_cmp x xs (before_all x xs h.0) (rises xs h.1)

all_more : (m n : ℕ) (xs : List ℕ) → m ≤ n → AllByRecursion (λ x. x < m) xs → AllByRecursion (λ x. x < n) xs
all_more m n [] h p = tt
all_more m n (x ∷ xs) h p = (omega (arith, p.0), all_more m n xs h p.1)

all_append : (P : ℕ → Type 0) (xs ys : List ℕ) → AllByRecursion P xs → AllByRecursion P ys → AllByRecursion P (xs ++ ys)
all_append P [] ys p q = q
all_append P (x ∷ xs) ys p q = (p.0, all_append P xs ys p.1 q)

behind : (x m : ℕ) (ys : List ℕ) → x < m → AllByRecursion (λ y. m ≤ y) ys → AllByRecursion (λ y. x < y) ys
behind x m [] h p = tt
behind x m (y ∷ ys) h p = (omega (arith, p.0), behind x m ys h p.1)

rise_append : (m : ℕ) (xs ys : List ℕ) → Rise xs → Rise ys → AllByRecursion (λ x. x < m) xs → AllByRecursion (λ y. m ≤ y) ys → Rise (xs ++ ys)
rise_append m [] ys p q l g = q
rise_append m (x ∷ xs) ys p q l g = (all_append (λ y. x < y) xs ys p.0 (behind x m ys l.0 g), rise_append m xs ys p.1 q l.1 g)

above_moved : (b x : ℕ) (xs : List ℕ) → AllByRecursion (λ y. x < y) xs → AllByRecursion (λ y. b + x < y) (map (λ c. b + c) xs)
above_moved b x [] p = tt
above_moved b x (y ∷ xs) p = (omega (arith, p.0), above_moved b x xs p.1)

rise_moved : (b : ℕ) (xs : List ℕ) → Rise xs → Rise (map (λ c. b + c) xs)
rise_moved b [] p = tt
rise_moved b (x ∷ xs) p = (above_moved b x xs p.0, rise_moved b xs p.1)

from_moved : (b : ℕ) (xs : List ℕ) → AllByRecursion (λ y. b ≤ y) (map (λ c. b + c) xs)
from_moved b [] = tt
from_moved b (x ∷ xs) = (omega arith, from_moved b xs)

below_moved : (b k : ℕ) (xs : List ℕ) → AllByRecursion (λ x. x < k) xs → AllByRecursion (λ y. y < b + k) (map (λ c. b + c) xs)
below_moved b k [] p = tt
below_moved b k (x ∷ xs) p = (omega (arith, p.0), below_moved b k xs p.1)

rows : (n start k : ℕ) (cells : List ℕ) → Rise cells → AllByRecursion (λ c. c < k) cells →
    Rise (each_below n (λ i. map (λ c. (start + i) * k + c) cells)) × AllByRecursion (λ c. c < (start + n) * k) (each_below n (λ i. map (λ c. (start + i) * k + c) cells))
rows zero start k cells p q = (tt, tt)
rows (suc n) start k cells p q =
    let before = rows n start k cells p q in
    let m = (start + n) * k in
    let here = map (λ c. m + c) cells in
    let so_far = each_below n (λ i. map (λ c. (start + i) * k + c) cells) in
    let next : m + k ≡ (start + suc n) * k = omega (arith, add-mul (start + n) 1 k) in (
      rise_append m so_far here before.0 (rise_moved m cells p) before.1 (from_moved m cells),
      all_append (λ c. c < (start + suc n) * k) so_far here (all_more m ((start + suc n) * k) so_far (omega (arith, next)) before.1) (subst (λ (e : ℕ). AllByRecursion (λ c. c < e) here) next (below_moved m k cells q)),
    )

part_end : (d : Dim) → IsPart d → natural d.start + natural d.subsize ≤ natural d.size
part_end d p =
    let a = natural_is d.start p.start in
    let b = natural_is d.subsize (omega (arith, ints, p.subsize)) in
    let e = natural_is d.size (omega (arith, ints, p.size)) in
    omega (arith, ints, a, b, e, p.within)

cells_below : (dims : List Dim) → AllByRecursion IsPart dims → Rise (part_cells dims) × AreCellsOf dims (part_cells dims)
cells_below [] p = ((tt, tt), (omega arith, tt))
cells_below (d ∷ ds) p =
    let inner = cells_below ds p.1 in
    let r = rows (natural d.subsize) (natural d.start) (cells_in ds) (part_cells ds) inner.0 inner.1 in
    let room : (natural d.start + natural d.subsize) * cells_in ds ≤ natural d.size * cells_in ds = mul-le-mul (part_end d p.0) (le_refl (cells_in ds)) in
    (r.0, all_more ((natural d.start + natural d.subsize) * cells_in ds) (natural d.size * cells_in ds) (part_cells (d ∷ ds)) room r.1)

pub cells_rising : (dims : List Dim) → AllByRecursion IsPart dims → Rises nat_cmp (part_cells dims) × AreCellsOf dims (part_cells dims)
cells_rising dims p = let c = cells_below dims p in (rises (part_cells dims) c.0, c.1)
