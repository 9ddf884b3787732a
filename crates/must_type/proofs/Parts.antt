-- Parts of arrays, one dimension after another from the fastest on.
use Rattle.std.proofs.Common.{◌≡◌, refl, sym, ◌∙◌, ap, subst, arith, ℕ, zero, suc, ◌+◌, ◌-◌, ◌*◌, ◌≤◌, ◌<◌, ◌^◌, ℤ, pos, negsuc, ◌+ℤ◌, ◌*ℤ◌, ◌≤ℤ◌, List, [], ◌∷◌, ◌++◌, reverse, length, get_or, take, drop, mul-le-mul, mul_assoc, mul_comm, mul-one, le_refl}
use Rattle.std.specs.List.{AllByRecursion}
use Rattle.std.specs.Int.RustNames.{unsigned_abs}
use Rattle.std.proofs.lemmas.Int.{ints, unsigned_abs-mul}
use Rattle.std.proofs.lemmas.List.{length-reverse, take-append-drop, drop_all}
use Rattle.std.proofs.lemmas.Grind.{reverse_onto}
use Rattle.std.proofs.Math.Seq.{drop-cons}
use Rattle.must_type.specs.declared.summary.Summary.{Summary}
use Rattle.must_call.specs.declared.items.Dim.{Dim}
use Rattle.must_type.specs.Maps.{Entry, extent, IsBounded}
use Rattle.must_type.specs.Constructs.{natural, cells_in, part_cells, slow_first, at_cells, subarray_map}
use Rattle.must_type.specs.Allowed.{IsPart}
use Rattle.must_type.specs.Summaries.{summary, shift, repeated, marked, unmarked, Fits, IsBoundedBy, IsOrdered}
use Rattle.must_type.proofs.Distances.{repeated_size, shifted_size, bounded_abs, abs_bounded, shift_bounded, multiple_bounded, repeated_near, wider_by, wider_span, wider as wider_at, repeated_ordered, shift_ordered}
use Rattle.must_type.proofs.FormLaws.{summary-dimension, summary-subarray, summary-one_cell, times_times, repeated_alignment}
use Rattle.must_type.proofs.Summed.{times_suc, shift_alignment}
use Rattle.std.proofs.Math.IntN.{zero-*ℤ}
use Rattle.must_type.specs.declared.facts.Facts.{Facts}
use Rattle.must_type.specs.Facts.{IsSettled, IsOf, IsPartly}

pub natural_positive : (n : ℤ) → pos 1 ≤ℤ n → 1 ≤ natural n
natural_positive (pos n) h = omega (arith, ints, h)
natural_positive (negsuc n) h = absurd (omega (arith, ints, h))

cells_in-append : (a b : List Dim) → cells_in (a ++ b) ≡ cells_in a * cells_in b
cells_in-append [] b = omega arith
cells_in-append (d ∷ a) b = ap (λ (n : ℕ). natural d.size * n) (cells_in-append a b) ∙ sym (mul_assoc (natural d.size) (cells_in a) (cells_in b))

cells_in-reverse : (a : List Dim) → cells_in (reverse a) ≡ cells_in a
cells_in-reverse [] = refl
cells_in-reverse (d ∷ a) =
    ap cells_in (reverse_onto a d []) ∙ cells_in-append (reverse a) (d ∷ []) ∙ ap (λ (n : ℕ). n * (natural d.size * 1)) (cells_in-reverse a) ∙ omega (arith, mul_comm (cells_in a) (natural d.size * 1), mul-one (natural d.size))

pub cells_in-slow : (order : ℕ) (dims : List Dim) → cells_in (slow_first order dims) ≡ cells_in dims
cells_in-slow zero dims = refl
cells_in-slow (suc order) dims = cells_in-reverse dims

pub length-slow : (order : ℕ) (dims : List Dim) → length (slow_first order dims) ≡ length dims
length-slow zero dims = refl
length-slow (suc order) dims = length-reverse dims

all-append : (a b : List Dim) → AllByRecursion IsPart a → AllByRecursion IsPart b → AllByRecursion IsPart (a ++ b)
all-append [] b p q = q
all-append (d ∷ a) b p q = (p.0, all-append a b p.1 q)

all-reverse : (a : List Dim) → AllByRecursion IsPart a → AllByRecursion IsPart (reverse a)
all-reverse [] p = tt
all-reverse (d ∷ a) p = subst (AllByRecursion IsPart) (sym (reverse_onto a d [])) (all-append (reverse a) (d ∷ []) (all-reverse a p.1) (p.0, tt))

pub all-slow : (order : ℕ) (dims : List Dim) → AllByRecursion IsPart dims → AllByRecursion IsPart (slow_first order dims)
all-slow zero dims p = p
all-slow (suc order) dims p = all-reverse dims p

-- the k fastest dimensions
abbrev pub fastest : List Dim → ℕ → List Dim
fastest slow k = drop (length slow - k) slow

pub fastest_none : (slow : List Dim) → fastest slow 0 ≡ []
fastest_none slow = drop_all (length slow - 0) slow (omega arith)

pub fastest_all : (slow : List Dim) (k : ℕ) → length slow ≤ k → fastest slow k ≡ slow
fastest_all slow k h = let e : length slow - k ≡ 0 = omega arith in ap (λ (n : ℕ). drop n slow) e

pub fastest_more : (slow : List Dim) (k : ℕ) (d : Dim) → k < length slow → fastest slow (k + 1) ≡ get_or slow (length slow - 1 - k) d ∷ fastest slow k
fastest_more slow k d h =
    let e : length slow - (k + 1) ≡ length slow - 1 - k = omega arith in
    let f : suc (length slow - 1 - k) ≡ length slow - k = omega arith in
    ap (λ (n : ℕ). drop n slow) e ∙ drop-cons slow (length slow - 1 - k) d (omega arith) ∙ ap (λ (n : ℕ). get_or slow (length slow - 1 - k) d ∷ drop n slow) f

-- ---- what grows with each dimension

abbrev cell_size : List Entry → List Dim → ℕ
cell_size T ds = (summary (at_cells T (part_cells ds))).size

size_more : (T : List Entry) (d : Dim) (ds : List Dim) → IsPart d → cell_size T ds ≤ cell_size T (d ∷ ds)
size_more T d ds p =
    let step = pos (cells_in ds) *ℤ extent T in
    let rest = summary (at_cells T (part_cells ds)) in
    let there = shift (pos (natural d.start) *ℤ step) rest in
    let e : cell_size T (d ∷ ds) ≡ natural d.subsize * rest.size =
    ap (λ (s : Summary). s.size) (summary-dimension T d ds) ∙ repeated_size (natural d.subsize) step there ∙ ap (λ (n : ℕ). natural d.subsize * n) (shifted_size (pos (natural d.start) *ℤ step) rest there refl) in
    let one : 1 * rest.size ≤ natural d.subsize * rest.size = mul-le-mul (natural_positive d.subsize p.subsize) (le_refl rest.size) in
    omega (arith, e, one)

cells_more : (d : Dim) (ds : List Dim) → IsPart d → cells_in ds ≤ cells_in (d ∷ ds)
cells_more d ds p = let one : 1 * cells_in ds ≤ natural d.size * cells_in ds = mul-le-mul (natural_positive d.size p.size) (le_refl (cells_in ds)) in omega (arith, one)

pub grows : (T : List Entry) (pre ds : List Dim) → AllByRecursion IsPart (pre ++ ds) → (cell_size T ds ≤ cell_size T (pre ++ ds)) × (cells_in ds ≤ cells_in (pre ++ ds))
grows T [] ds p = (omega arith, omega arith)
grows T (d ∷ pre) ds p =
    let r = grows T pre ds p.1 in
    let s = size_more T d (pre ++ ds) p.0 in
    let c = cells_more d (pre ++ ds) p.0 in
    (omega (arith, r, s), omega (arith, r, c))

marked_fits : (lb ub : ℤ) (s : Summary) → Fits (marked lb ub s) → (s.size ≤ 2 ^ 62) × IsBounded (2 ^ 62) ub
unfolding marked
marked_fits lb ub s h = (h.small, record { low = h.near.uppers.low; high = h.near.uppers.high })

-- a part of an array reaches no less far than with its fastest dimensions alone
pub part_within : (order : ℕ) (dims : List Dim) (T : List Entry) (k : ℕ) → AllByRecursion IsPart dims → Fits (summary (subarray_map order dims T)) →
    ((summary (at_cells T (part_cells (fastest (slow_first order dims) k)))).size ≤ 2 ^ 62) × IsBounded (2 ^ 62) (pos (cells_in (fastest (slow_first order dims) k)) *ℤ extent T)
part_within order dims T k parts fits =
    let slow = slow_first order dims in
    let ds = fastest slow k in
    let pre = take (length slow - k) slow in
    let whole : pre ++ ds ≡ slow = take-append-drop (length slow - k) slow in
    let g = grows T pre ds (subst (AllByRecursion IsPart) (sym whole) (all-slow order dims parts)) in
    let f = marked_fits (pos 0) (pos (cells_in dims) *ℤ extent T) (summary (at_cells T (part_cells slow))) (subst Fits (summary-subarray order dims T) fits) in
    let size : cell_size T ds ≤ cell_size T slow = subst (λ (l : List Dim). cell_size T ds ≤ cell_size T l) whole g.0 in
    let cells : cells_in ds ≤ cells_in dims = subst (λ (n : ℕ). cells_in ds ≤ n) (ap cells_in whole ∙ cells_in-slow order dims) g.1 in
    let far = bounded_abs (2 ^ 62) (pos (cells_in dims) *ℤ extent T) f.1 in
    let wide : cells_in ds * unsigned_abs (extent T) ≤ cells_in dims * unsigned_abs (extent T) = mul-le-mul cells (le_refl (unsigned_abs (extent T))) in
    (omega (arith, size, f.0), abs_bounded (2 ^ 62) (pos (cells_in ds) *ℤ extent T) (omega (arith, unsigned_abs-mul (pos (cells_in ds)) (extent T), unsigned_abs-mul (pos (cells_in dims)) (extent T), wide, far)))

pub natural_is : (n : ℤ) → pos 0 ≤ℤ n → n ≡ pos (natural n)
natural_is (pos n) h = refl
natural_is (negsuc n) h = absurd (omega (arith, ints, h))

part_room : (d : Dim) → IsPart d → natural d.start + (natural d.subsize - 1) + 1 ≤ natural d.size
part_room d p =
    let a = natural_is d.start p.start in
    let b = natural_is d.subsize (omega (arith, ints, p.subsize)) in
    let e = natural_is d.size (omega (arith, ints, p.size)) in
    omega (arith, ints, a, b, e, p.within, natural_positive d.subsize p.subsize)

times_sum : (n m a : ℕ) → (n + m + 1) * a ≡ a + n * a + m * a
times_sum n m a = grind arith

pub shifted_bounded : (n : ℕ) (step : ℤ) (s : Summary) → n ≤ 2 ^ 31 → IsBounded (2 ^ 63) step → IsBoundedBy (2 ^ 62 + unsigned_abs step) s → IsBoundedBy (2 ^ 126) (shift (pos n *ℤ step) s)
shifted_bounded n step s few near h =
    let a = bounded_abs (2 ^ 63) step near in
    let m : n * unsigned_abs step ≤ 2 ^ 31 * 2 ^ 63 = mul-le-mul few a in
    wider_by (2 ^ 62 + unsigned_abs step + n * unsigned_abs step) (2 ^ 126) (shift (pos n *ℤ step) s) (omega (arith, a, m)) (shift_bounded (n * unsigned_abs step) (2 ^ 62 + unsigned_abs step) (pos n *ℤ step) s (multiple_bounded n step) h)

pub widened_bounded : (d : Dim) (step : ℤ) (s : Summary) → IsPart d → IsBoundedBy (2 ^ 62 + unsigned_abs step) s → IsBoundedBy (2 ^ 62 + natural d.size * unsigned_abs step) (repeated (natural d.subsize) step (shift (pos (natural d.start) *ℤ step) s))
widened_bounded d step s p h =
    let a = unsigned_abs step in
    let n = natural d.start in
    let k = natural d.subsize - 1 in
    let there = shift (pos n *ℤ step) s in
    let moved = shift_bounded (n * a) (2 ^ 62 + a) (pos n *ℤ step) s (multiple_bounded n step) h in
    let all = repeated_near (k * a) (2 ^ 62 + a + n * a) (natural d.subsize) step there (multiple_bounded k step) moved in
    let room : (n + k + 1) * a ≤ natural d.size * a = mul-le-mul (part_room d p) (le_refl a) in
    wider_by (2 ^ 62 + a + n * a + k * a) (2 ^ 62 + natural d.size * a) (repeated (natural d.subsize) step there) (omega (arith, room, times_sum n k a)) all

-- ---- the loop over the dimensions

pub part_start : (f : Facts) → IsSettled f → IsPartly f.bounds.extent (unmarked f.summary)
unfolding unmarked
part_start f h =
    record {
      near = h.near;
      bounded = record { elements = wider_span (2 ^ 62) (2 ^ 62 + unsigned_abs f.bounds.extent) f.summary.elements (omega arith) h.fits.near.elements; lowers = tt; uppers = tt };
      ordered = record { elements = h.ordered.elements; lowers = tt; uppers = tt };
      aligned = h.aligned;
      small = h.fits.small;
    }

one_times : (e : ℤ) → pos 1 *ℤ e ≡ e
one_times e = let z = zero-*ℤ e in let s : pos 1 *ℤ e ≡ pos 0 *ℤ e +ℤ e = times_suc 0 e in omega (arith, ints, z, s)

pub step_start : (slow : List Dim) (T : List Entry) (f : Facts) → IsOf T f → f.bounds.extent ≡ pos (cells_in (fastest slow 0)) *ℤ extent T
step_start slow T f h = h.extent_is ∙ sym (ap (λ (ds : List Dim). pos (cells_in ds) *ℤ extent T) (fastest_none slow) ∙ one_times (extent T))

pub all_start : (slow : List Dim) (T : List Entry) (f : Facts) → IsOf T f → unmarked f.summary ≡ summary (at_cells T (part_cells (fastest slow 0)))
all_start slow T f h = ap unmarked h.summary_is ∙ sym (ap (λ (ds : List Dim). summary (at_cells T (part_cells ds))) (fastest_none slow) ∙ summary-one_cell T)

pub step_next : (slow : List Dim) (k : ℕ) (T : List Entry) (dim : Dim) (step size : ℤ) → k < length slow → ((d : Dim) → dim ≡ get_or slow (length slow - 1 - k) d) → IsPart dim →
    step ≡ pos (cells_in (fastest slow k)) *ℤ extent T → size ≡ dim.size *ℤ step → size ≡ pos (cells_in (fastest slow (k + 1))) *ℤ extent T
step_next slow k T dim step size below is p s e =
    let ds = fastest slow k in
    let next : fastest slow (k + 1) ≡ dim ∷ ds = fastest_more slow k dim below ∙ ap (λ (d : Dim). d ∷ ds) (sym (is dim)) in
    let n : dim.size ≡ pos (natural dim.size) = natural_is dim.size (omega (arith, ints, p.size)) in
    e ∙ ap (λ (x : ℤ). x *ℤ step) n ∙ ap (λ (x : ℤ). pos (natural dim.size) *ℤ x) s ∙ sym (times_times (natural dim.size) (cells_in ds) (extent T)) ∙ ap (λ (l : List Dim). pos (cells_in l) *ℤ extent T) (sym next)

pub all_next : (slow : List Dim) (k : ℕ) (T : List Entry) (dim : Dim) (step : ℤ) (all wider : Summary) → k < length slow → ((d : Dim) → dim ≡ get_or slow (length slow - 1 - k) d) →
    step ≡ pos (cells_in (fastest slow k)) *ℤ extent T → all ≡ summary (at_cells T (part_cells (fastest slow k))) →
    wider ≡ repeated (natural dim.subsize) step (shift (pos (natural dim.start) *ℤ step) all) → wider ≡ summary (at_cells T (part_cells (fastest slow (k + 1))))
all_next slow k T dim step all wider below is s a w =
    let ds = fastest slow k in
    let next : fastest slow (k + 1) ≡ dim ∷ ds = fastest_more slow k dim below ∙ ap (λ (d : Dim). d ∷ ds) (sym (is dim)) in
    w ∙ ap (λ (x : ℤ). repeated (natural dim.subsize) x (shift (pos (natural dim.start) *ℤ x) all)) s ∙
    ap (λ (x : Summary). repeated (natural dim.subsize) (pos (cells_in ds) *ℤ extent T) (shift (pos (natural dim.start) *ℤ (pos (cells_in ds) *ℤ extent T)) x)) a ∙
    sym (summary-dimension T dim ds) ∙ ap (λ (l : List Dim). summary (at_cells T (part_cells l))) (sym next)

pub part_more : (dim : Dim) (step size : ℤ) (all wider : Summary) → IsPart dim → IsPartly step all → size ≡ dim.size *ℤ step → wider ≡ repeated (natural dim.subsize) step (shift (pos (natural dim.start) *ℤ step) all) →
    IsBoundedBy (2 ^ 62 + natural dim.size * unsigned_abs step) wider → wider.size ≤ 2 ^ 62 → IsBounded (2 ^ 62) size → IsPartly size wider
part_more dim step size all wider p h e w b small near =
    let there = shift (pos (natural dim.start) *ℤ step) all in
    let n : dim.size ≡ pos (natural dim.size) = natural_is dim.size (omega (arith, ints, p.size)) in
    let far : unsigned_abs size ≡ natural dim.size * unsigned_abs step = ap unsigned_abs (e ∙ ap (λ (x : ℤ). x *ℤ step) n) ∙ unsigned_abs-mul (pos (natural dim.size)) step in
    record {
      near = wider_at (2 ^ 62) (2 ^ 63) size (omega arith) near;
      bounded = subst (λ (m : ℕ). IsBoundedBy (2 ^ 62 + m) wider) (sym far) b;
      ordered = subst IsOrdered (sym w) (repeated_ordered (natural dim.subsize) step there (shift_ordered (pos (natural dim.start) *ℤ step) all h.ordered));
      aligned = subst (λ (s : Summary). 1 ≤ s.alignment) (sym w) (repeated_alignment (natural dim.subsize) step there (rw (shift_alignment (pos (natural dim.start) *ℤ step) all) h.aligned));
      small = small;
    }

pub part_end : (order : ℕ) (dims : List Dim) (T : List Entry) (k : ℕ) (step : ℤ) (all : Summary) → length dims ≤ k → step ≡ pos (cells_in (fastest (slow_first order dims) k)) *ℤ extent T → all ≡ summary (at_cells T (part_cells (fastest (slow_first order dims) k))) →
    marked (pos 0) step all ≡ summary (subarray_map order dims T)
part_end order dims T k step all end s a =
    let slow = slow_first order dims in
    let whole : fastest slow k ≡ slow = fastest_all slow k (omega (arith, length-slow order dims)) in
    let s2 : step ≡ pos (cells_in dims) *ℤ extent T = s ∙ ap (λ (ds : List Dim). pos (cells_in ds) *ℤ extent T) whole ∙ ap (λ (n : ℕ). pos n *ℤ extent T) (cells_in-slow order dims) in
    let a2 : all ≡ summary (at_cells T (part_cells slow)) = a ∙ ap (λ (ds : List Dim). summary (at_cells T (part_cells ds))) whole in
    ap (λ (x : ℤ). marked (pos 0) x all) s2 ∙ ap (marked (pos 0) (pos (cells_in dims) *ℤ extent T)) a2 ∙ sym (summary-subarray order dims T)
