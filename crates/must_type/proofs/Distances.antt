-- How far things lie from 0.
use Rattle.std.proofs.Common.{◌≡◌, refl, ◌∙◌, ap, subst, arith, ℕ, zero, suc, ◌+◌, ◌-◌, ◌*◌, ◌≤◌, ◌^◌, ℤ, pos, negsuc, ◌*ℤ◌, Option, Some, None, FitsSigned, mul-le-mul, to_z, of_z}
use Rattle.std.specs.Int.{w128}
use Rattle.std.specs.Int.RustNames.{unsigned_abs}
use Rattle.std.proofs.lemmas.Int.{ints, unsigned_abs-mul, fits_signed_mul, fits_signed_from_abs, to_z-of_z}
use Rattle.must_type.specs.declared.summary.Span.{Span}
use Rattle.must_type.specs.declared.summary.Summary.{Summary}
use Rattle.must_type.specs.Maps.{IsBounded}
use Rattle.must_type.specs.Summaries.{span_moved, span_repeated, no_entries, join, shift, repeated, AreBounded, IsBoundedBy, AreOrdered, IsOrdered}
use Rattle.must_type.proofs.Summed.{same_summary}
use Rattle.must_type.proofs.Reach.{join_bounded, ordered_join}

pub abs_bounded : (n : ℕ) (z : ℤ) → unsigned_abs z ≤ n → IsBounded n z
abs_bounded n (pos k) h = record { low = omega (arith, ints); high = omega (arith, ints) }
abs_bounded n (negsuc k) h = record { low = omega (arith, ints); high = omega (arith, ints) }

pub bounded_abs : (n : ℕ) (z : ℤ) → IsBounded n z → unsigned_abs z ≤ n
bounded_abs n (pos k) h = omega (arith, ints, h.high)
bounded_abs n (negsuc k) h = omega (arith, ints, h.low)

pub product_bounded : (m n : ℕ) (a b : ℤ) → IsBounded m a → IsBounded n b → IsBounded (m * n) (a *ℤ b)
product_bounded m n a b p q =
    abs_bounded (m * n) (a *ℤ b) (rw (unsigned_abs-mul a b) (mul-le-mul (bounded_abs m a p) (bounded_abs n b q)))

pub product_fits : (a b : ℤ) → IsBounded (2 ^ 31) a → IsBounded (2 ^ 94) b → FitsSigned w128 (a *ℤ b)
product_fits a b p q = fits_signed_mul w128 a b (2 ^ 31) (2 ^ 94) (bounded_abs (2 ^ 31) a p) (bounded_abs (2 ^ 94) b q) (omega arith)

pub wider : (m n : ℕ) (z : ℤ) → m ≤ n → IsBounded m z → IsBounded n z
wider m n z h p = record { low = omega (arith, ints, p.low); high = omega (arith, ints, p.high) }

pub wider_span : (m n : ℕ) (s : Option Span) → m ≤ n → AreBounded m s → AreBounded n s
wider_span m n None h p = tt
wider_span m n (Some s) h p = record { low = omega (arith, ints, p.low); high = omega (arith, ints, p.high) }

pub wider_by : (m n : ℕ) (s : Summary) → m ≤ n → IsBoundedBy m s → IsBoundedBy n s
wider_by m n s h p = record { elements = wider_span m n s.elements h p.elements; lowers = wider_span m n s.lowers h p.lowers; uppers = wider_span m n s.uppers h p.uppers }

moved_bounded : (m n : ℕ) (d : ℤ) (s : Option Span) → IsBounded m d → AreBounded n s → AreBounded (n + m) (span_moved d s)
moved_bounded m n d None p q = tt
moved_bounded m n d (Some s) p q = record { low = omega (arith, ints, p.low, q.low); high = omega (arith, ints, p.high, q.high) }

pub shift_bounded : (m n : ℕ) (d : ℤ) (s : Summary) → IsBounded m d → IsBoundedBy n s → IsBoundedBy (n + m) (shift d s)
unfolding shift
shift_bounded m n d s p q = record { elements = moved_bounded m n d s.elements p q.elements; lowers = moved_bounded m n d s.lowers p q.lowers; uppers = moved_bounded m n d s.uppers p q.uppers }

moved_ordered : (d : ℤ) (s : Option Span) → AreOrdered s → AreOrdered (span_moved d s)
moved_ordered d None p = tt
moved_ordered d (Some s) p = omega (arith, ints, p)

pub shift_ordered : (d : ℤ) (s : Summary) → IsOrdered s → IsOrdered (shift d s)
unfolding shift
shift_ordered d s p = record { elements = moved_ordered d s.elements p.elements; lowers = moved_ordered d s.lowers p.lowers; uppers = moved_ordered d s.uppers p.uppers }

repeated_span_bounded : (m n k : ℕ) (stride : ℤ) (s : Option Span) → IsBounded m (pos k *ℤ stride) → AreBounded n s → AreBounded (n + m) (span_repeated (suc k) stride s)
repeated_span_bounded m n k stride s p q = join_bounded (n + m) s (span_moved (pos k *ℤ stride) s) (wider_span n (n + m) s (omega arith) q) (moved_bounded m n (pos k *ℤ stride) s p q)

pub repeated_bounded : (m n k : ℕ) (stride : ℤ) (s : Summary) → k ≤ 2 ^ 31 → IsBounded m stride → IsBoundedBy n s → IsBoundedBy (n + 2 ^ 31 * m) (repeated k stride s)
unfolding repeated no_entries
repeated_bounded m n zero stride s h p q = record { elements = tt; lowers = tt; uppers = tt }
repeated_bounded m n (suc k) stride s h p q =
    let d : IsBounded (2 ^ 31 * m) (pos k *ℤ stride) = product_bounded (2 ^ 31) m (pos k) stride (record { low = omega (arith, ints); high = omega (arith, ints) }) p in
    record {
      elements = repeated_span_bounded (2 ^ 31 * m) n k stride s.elements d q.elements;
      lowers = repeated_span_bounded (2 ^ 31 * m) n k stride s.lowers d q.lowers;
      uppers = repeated_span_bounded (2 ^ 31 * m) n k stride s.uppers d q.uppers;
    }

repeated_span_ordered : (k : ℕ) (stride : ℤ) (s : Option Span) → AreOrdered s → AreOrdered (span_repeated k stride s)
repeated_span_ordered zero stride s p = tt
repeated_span_ordered (suc k) stride s p = ordered_join s (span_moved (pos k *ℤ stride) s) p (moved_ordered (pos k *ℤ stride) s p)

pub repeated_ordered : (k : ℕ) (stride : ℤ) (s : Summary) → IsOrdered s → IsOrdered (repeated k stride s)
unfolding repeated no_entries
repeated_ordered zero stride s p = record { elements = tt; lowers = tt; uppers = tt }
repeated_ordered (suc k) stride s p =
    record { elements = repeated_span_ordered (suc k) stride s.elements p.elements; lowers = repeated_span_ordered (suc k) stride s.lowers p.lowers; uppers = repeated_span_ordered (suc k) stride s.uppers p.uppers }

pub repeated_size : (k : ℕ) (stride : ℤ) (s : Summary) → (repeated k stride s).size ≡ k * s.size
unfolding repeated no_entries
repeated_size zero stride s = omega arith
repeated_size (suc k) stride s = refl

-- the first and the last of some copies, as one summary
pub repeated_ends : (k size : ℕ) (stride : ℤ) (s all : Summary) → size ≡ suc k * s.size → 1 ≤ s.alignment → all ≡ join s (shift (pos k *ℤ stride) s) → record all { size = size } ≡ repeated (suc k) stride s
unfolding repeated join shift
repeated_ends k size stride s all n a e =
    same_summary (record all { size = size }) (repeated (suc k) stride s) n (ap (λ (t : Summary). t.alignment) e ∙ omega arith) (ap (λ (t : Summary). t.elements) e) (ap (λ (t : Summary). t.lowers) e) (ap (λ (t : Summary). t.uppers) e)

-- what the code's product is
pub product_read : (a b : ℤ) → FitsSigned w128 a → FitsSigned w128 b → FitsSigned w128 (a *ℤ b) → to_z w128 (of_z w128 (to_z w128 (of_z w128 a) *ℤ to_z w128 (of_z w128 b))) ≡ a *ℤ b
product_read a b f g h = ap (λ (x : ℤ). to_z w128 (of_z w128 (x *ℤ to_z w128 (of_z w128 b)))) (to_z-of_z w128 a f) ∙ ap (λ (y : ℤ). to_z w128 (of_z w128 (a *ℤ y))) (to_z-of_z w128 b g) ∙ to_z-of_z w128 (a *ℤ b) h

pub repeated_none : (n : ℕ) (stride : ℤ) (s : Summary) → n ≡ 0 → no_entries ≡ repeated n stride s
unfolding repeated
repeated_none zero stride s e = refl
repeated_none (suc n) stride s e = absurd (omega arith)

pub shifted_size : (d : ℤ) (s t : Summary) → t ≡ shift d s → t.size ≡ s.size
unfolding shift
shifted_size d s t e = ap (λ (x : Summary). x.size) e

-- what the code makes of the first and the last of n copies
pub repeated_read : (n size : ℕ) (stride last : ℤ) (s moved all : Summary) → (n ≡ 0 → ⊥) → size ≡ n * s.size → 1 ≤ s.alignment → last ≡ pos (n - 1) *ℤ stride → moved ≡ shift last s → all ≡ join s moved → record all { size = size } ≡ repeated n stride s
repeated_read zero size stride last s moved all z n a l m e = absurd (z refl)
repeated_read (suc k) size stride last s moved all z n a l m e =
    let one : suc k - 1 ≡ k = omega arith in
    let at : last ≡ pos k *ℤ stride = l ∙ ap (λ (i : ℕ). pos i *ℤ stride) one in
    repeated_ends k size stride s all n a (e ∙ ap (join s) (m ∙ ap (λ (d : ℤ). shift d s) at))

-- a number near 0 is what the code holds
pub kept : (x : ℤ) → IsBounded (2 ^ 126) x → to_z w128 (of_z w128 x) ≡ x
kept x h = to_z-of_z w128 x (fits_signed_from_abs w128 x (let a = bounded_abs (2 ^ 126) x h in omega (arith, a)))

-- the same, where the last copy is known to be near
pub repeated_near : (m n k : ℕ) (stride : ℤ) (s : Summary) → IsBounded m (pos (k - 1) *ℤ stride) → IsBoundedBy n s → IsBoundedBy (n + m) (repeated k stride s)
unfolding repeated no_entries
repeated_near m n zero stride s p q = record { elements = tt; lowers = tt; uppers = tt }
repeated_near m n (suc k) stride s p q =
    let e : suc k - 1 ≡ k = omega arith in
    let d : IsBounded m (pos k *ℤ stride) = subst (λ (i : ℕ). IsBounded m (pos i *ℤ stride)) e p in
    record {
      elements = repeated_span_bounded m n k stride s.elements d q.elements;
      lowers = repeated_span_bounded m n k stride s.lowers d q.lowers;
      uppers = repeated_span_bounded m n k stride s.uppers d q.uppers;
    }

-- a multiple of a number is as far from 0 as its absolute value says
pub multiple_bounded : (n : ℕ) (z : ℤ) → IsBounded (n * unsigned_abs z) (pos n *ℤ z)
multiple_bounded n z = abs_bounded (n * unsigned_abs z) (pos n *ℤ z) (omega (arith, unsigned_abs-mul (pos n) z))
