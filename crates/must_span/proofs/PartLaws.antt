-- Parts of arrays, one dimension after another from the fastest on.
use Rattle.std.proofs.Common.{◌≡◌, refl, sym, ◌∙◌, ap, subst, arith, inl, inr, ◌↔◌, ℕ, zero, suc, ◌+◌, ◌-◌, ◌*◌, ◌^◌, ◌≤◌, ◌<◌, ℤ, pos, negsuc, ◌+ℤ◌, ◌-ℤ◌, ◌*ℤ◌, ◌≤ℤ◌, List, [], ◌∷◌, ◌++◌, reverse, length, get_or, take, drop, drop-cons, mul-le-mul, mul_assoc, mul_comm, mul-one, le_refl}
use Rattle.std.specs.List.{AllByRecursion}
use Rattle.std.specs.Int.RustNames.{unsigned_abs}
use Rattle.std.proofs.lemmas.Int.{ints, unsigned_abs-mul}
use Rattle.std.proofs.lemmas.List.{length-reverse, take-append-drop, drop_all}
use Rattle.std.proofs.lemmas.Grind.{reverse_onto}
use Rattle.std.proofs.Math.IntN.{zero-*ℤ}
use Rattle.must_call.specs.declared.items.Dim.{Dim}
use Rattle.must_type.specs.Maps.{Entry, LowerMarker, UpperMarker, size, extent, moved, without_markers, each_below}
use Rattle.must_type.specs.Constructs.{natural, cells_in, part_cells, slow_first, at_cells, subarray_map}
use Rattle.must_type.specs.MapLaws.{one_dimension_more}
use Rattle.must_type.specs.Weights.{weigh, part_weight}
use Rattle.must_type.specs.Allowed.{IsPart}
use Rattle.must_span.specs.declared.ranges.AddressRange.{AddressRange}
use Rattle.must_span.specs.Bytes.{Holds}
use Rattle.must_span.specs.Steps.{IsNear, IsLaid, AreWithin, AreCopies, element}
use Rattle.must_span.proofs.CopyLaws.{times_suc}
use Rattle.must_span.proofs.ByteLaws.{holds_left, holds_split, holds_moved, copies_map, unmarked_holds, two_markers_hold, size_append, size_moved, size_unmarked, size_marked}
use Rattle.must_span.proofs.LaidLaws.{laid_same, laid_copies, laid_dense}

pub natural_is : (n : ℤ) → pos 0 ≤ℤ n → n ≡ pos (natural n)
natural_is (pos n) h = refl
natural_is (negsuc n) h = absurd (omega (arith, ints, h))

natural_positive : (n : ℤ) → pos 1 ≤ℤ n → 1 ≤ natural n
natural_positive (pos n) h = omega (arith, ints, h)
natural_positive (negsuc n) h = absurd (omega (arith, ints, h))

-- ---- the dimensions in order

cells-append : (a b : List Dim) → cells_in (a ++ b) ≡ cells_in a * cells_in b
cells-append [] b = omega arith
cells-append (d ∷ a) b = ap (λ (n : ℕ). natural d.size * n) (cells-append a b) ∙ sym (mul_assoc (natural d.size) (cells_in a) (cells_in b))

cells-reverse : (a : List Dim) → cells_in (reverse a) ≡ cells_in a
cells-reverse [] = refl
cells-reverse (d ∷ a) =
    ap cells_in (reverse_onto a d []) ∙ cells-append (reverse a) (d ∷ []) ∙ ap (λ (n : ℕ). n * (natural d.size * 1)) (cells-reverse a) ∙ omega (arith, mul_comm (cells_in a) (natural d.size * 1), mul-one (natural d.size))

cells-slow : (order : ℕ) (dims : List Dim) → cells_in (slow_first order dims) ≡ cells_in dims
cells-slow zero dims = refl
cells-slow (suc order) dims = cells-reverse dims

pub length-slow : (order : ℕ) (dims : List Dim) → length (slow_first order dims) ≡ length dims
length-slow zero dims = refl
length-slow (suc order) dims = length-reverse dims

all-append : (a b : List Dim) → AllByRecursion IsPart a → AllByRecursion IsPart b → AllByRecursion IsPart (a ++ b)
all-append [] b p q = q
all-append (d ∷ a) b p q = (p.0, all-append a b p.1 q)

all-reverse : (a : List Dim) → AllByRecursion IsPart a → AllByRecursion IsPart (reverse a)
all-reverse [] p = tt
all-reverse (d ∷ a) p = subst (AllByRecursion IsPart) (sym (reverse_onto a d [])) (all-append (reverse a) (d ∷ []) (all-reverse a p.1) (p.0, tt))

all-slow : (order : ℕ) (dims : List Dim) → AllByRecursion IsPart dims → AllByRecursion IsPart (slow_first order dims)
all-slow zero dims p = p
all-slow (suc order) dims p = all-reverse dims p

-- the k fastest dimensions
abbrev pub fastest : List Dim → ℕ → List Dim
fastest slow k = drop (length slow - k) slow

fastest_none : (slow : List Dim) → fastest slow 0 ≡ []
fastest_none slow = drop_all (length slow - 0) slow (omega arith)

fastest_all : (slow : List Dim) (k : ℕ) → length slow ≤ k → fastest slow k ≡ slow
fastest_all slow k h = let e : length slow - k ≡ 0 = omega arith in ap (λ (n : ℕ). drop n slow) e

fastest_more : (slow : List Dim) (k : ℕ) (d : Dim) → k < length slow → fastest slow (k + 1) ≡ get_or slow (length slow - 1 - k) d ∷ fastest slow k
fastest_more slow k d h =
    let e : length slow - (k + 1) ≡ length slow - 1 - k = omega arith in
    let f : suc (length slow - 1 - k) ≡ length slow - k = omega arith in
    ap (λ (n : ℕ). drop n slow) e ∙ drop-cons slow (length slow - 1 - k) d (omega arith) ∙ ap (λ (n : ℕ). get_or slow (length slow - 1 - k) d ∷ drop n slow) f

pub next_fastest : (slow : List Dim) (k : ℕ) (dim : Dim) → k < length slow → ((d : Dim) → dim ≡ get_or slow (length slow - 1 - k) d) → fastest slow (k + 1) ≡ dim ∷ fastest slow k
next_fastest slow k dim below is = fastest_more slow k dim below ∙ ap (λ (d : Dim). d ∷ fastest slow k) (sym (is dim))

-- ---- the cells of the fastest dimensions are no more than all

cells_grow : (pre ds : List Dim) → AllByRecursion IsPart (pre ++ ds) → cells_in ds ≤ cells_in (pre ++ ds)
cells_grow [] ds p = omega arith
cells_grow (d ∷ pre) ds p =
    let r = cells_grow pre ds p.1 in
    let one : 1 * cells_in (pre ++ ds) ≤ natural d.size * cells_in (pre ++ ds) = mul-le-mul (natural_positive d.size p.0.size) (le_refl (cells_in (pre ++ ds))) in
    omega (arith, r, one)

pub cells_fit : (order : ℕ) (dims : List Dim) (k m a : ℕ) → AllByRecursion IsPart dims → cells_in dims * a ≤ m → cells_in (fastest (slow_first order dims) k) * a ≤ m
cells_fit order dims k m a parts h =
    let slow = slow_first order dims in
    let ds = fastest slow k in
    let pre = take (length slow - k) slow in
    let whole : pre ++ ds ≡ slow = take-append-drop (length slow - k) slow in
    let g = cells_grow pre ds (subst (AllByRecursion IsPart) (sym whole) (all-slow order dims parts)) in
    let cells : cells_in ds ≤ cells_in dims = subst (λ (n : ℕ). cells_in ds ≤ n) (ap cells_in whole ∙ cells-slow order dims) g in
    let wide : cells_in ds * a ≤ cells_in dims * a = mul-le-mul cells (le_refl a) in
    omega (arith, wide, h)

-- ---- products

times_add : (n m : ℕ) (d : ℤ) → pos (n + m) *ℤ d ≡ (pos n *ℤ d) +ℤ (pos m *ℤ d)
times_add zero m d = let e : 0 + m ≡ m = omega arith in ap (λ k. pos k *ℤ d) e ∙ omega (arith, ints, zero-*ℤ d)
times_add (suc n) m d =
    let e : suc n + m ≡ suc (n + m) = omega arith in
    ap (λ k. pos k *ℤ d) e ∙ omega (arith, ints, times_suc (n + m) d, times_add n m d, times_suc n d)

times_times : (n m : ℕ) (d : ℤ) → pos (n * m) *ℤ d ≡ pos n *ℤ (pos m *ℤ d)
times_times zero m d = let e : 0 * m ≡ 0 = omega arith in ap (λ k. pos k *ℤ d) e ∙ zero-*ℤ d ∙ sym (zero-*ℤ (pos m *ℤ d))
times_times (suc n) m d =
    let e : suc n * m ≡ n * m + m = omega arith in
    ap (λ k. pos k *ℤ d) e ∙ omega (arith, ints, times_add (n * m) m d, times_times n m d, times_suc n (pos m *ℤ d))

one_times : (e : ℤ) → pos 1 *ℤ e ≡ e
one_times e = let z = zero-*ℤ e in let s : pos 1 *ℤ e ≡ pos 0 *ℤ e +ℤ e = times_suc 0 e in omega (arith, ints, z, s)

-- ---- how long a step is

pub step_start : (slow : List Dim) (e : ℤ) → e ≡ pos (cells_in (fastest slow 0)) *ℤ e
step_start slow e = sym (ap (λ (ds : List Dim). pos (cells_in ds) *ℤ e) (fastest_none slow) ∙ one_times e)

pub step_next : (dim : Dim) (ds next : List Dim) (step size e : ℤ) → next ≡ dim ∷ ds → IsPart dim → step ≡ pos (cells_in ds) *ℤ e → size ≡ dim.size *ℤ step → size ≡ pos (cells_in next) *ℤ e
step_next dim ds next step size e is p s h =
    let n : dim.size ≡ pos (natural dim.size) = natural_is dim.size (omega (arith, ints, p.size)) in
    h ∙ ap (λ (x : ℤ). x *ℤ step) n ∙ ap (λ (x : ℤ). pos (natural dim.size) *ℤ x) s ∙ sym (times_times (natural dim.size) (cells_in ds) e) ∙ ap (λ (l : List Dim). pos (cells_in l) *ℤ e) (sym is)

pub step_near : (order : ℕ) (dims : List Dim) (k : ℕ) (step e : ℤ) → AllByRecursion IsPart dims → cells_in dims * unsigned_abs e ≤ 2 ^ 62 → step ≡ pos (cells_in (fastest (slow_first order dims) k)) *ℤ e → unsigned_abs step ≤ 2 ^ 62
step_near order dims k step e parts room is =
    let n = cells_in (fastest (slow_first order dims) k) in
    omega (arith, ap unsigned_abs is, unsigned_abs-mul (pos n) e, cells_fit order dims k (2 ^ 62) (unsigned_abs e) parts room)

-- ---- how far a part reaches

part_room : (d : Dim) (j : ℕ) → IsPart d → j < natural d.subsize → suc (natural d.start + j) ≤ natural d.size
part_room d j p h =
    let a = natural_is d.start p.start in
    let b = natural_is d.subsize (omega (arith, ints, p.subsize)) in
    let e = natural_is d.size (omega (arith, ints, p.size)) in
    omega (arith, ints, a, b, e, p.within, h)

pub wider_near : (dim : Dim) (step size : ℤ) (m : ℕ) (rs more : List AddressRange) → IsPart dim → size ≡ dim.size *ℤ step → AllByRecursion (IsNear (m + unsigned_abs step)) rs → AreCopies rs (pos (natural dim.start) *ℤ step) step (natural dim.subsize) more → AllByRecursion (IsNear (m + unsigned_abs size)) more
wider_near dim step size m rs more p e near c =
    let a = unsigned_abs step in
    let n : dim.size ≡ pos (natural dim.size) = natural_is dim.size (omega (arith, ints, p.size)) in
    let far : unsigned_abs size ≡ natural dim.size * a = ap unsigned_abs (e ∙ ap (λ (x : ℤ). x *ℤ step) n) ∙ unsigned_abs-mul (pos (natural dim.size)) step in
    by (natural dim.size) a far (natural_positive dim.size p.size) (λ j h. part_room dim j p h)
  where
    by : (s a : ℕ) → unsigned_abs size ≡ s * unsigned_abs step → 1 ≤ s → ((j : ℕ) → j < natural dim.subsize → suc (natural dim.start + j) ≤ s) → AllByRecursion (IsNear (m + unsigned_abs size)) more
    by zero a far some room = absurd (omega (arith, some))
    by (suc s) a far some room =
        let b = unsigned_abs step in
        let split : suc s * b ≡ s * b + b = grind arith in
        let reach : AreWithin (pos (natural dim.start) *ℤ step) step (natural dim.subsize) (s * b) =
        λ j h.
        let k = natural dim.start + j in
        let is : pos (natural dim.start) *ℤ step +ℤ pos j *ℤ step ≡ pos k *ℤ step = sym (times_add (natural dim.start) j step) in
        let less : k * b ≤ s * b = mul-le-mul (omega (arith, room j h)) (le_refl b) in
        omega (arith, ap unsigned_abs is, unsigned_abs-mul (pos k) step, less) in
        let all = c.near (m + b) (s * b) near reach in
        let same : m + b + s * b ≡ m + unsigned_abs size = omega (arith, far, split) in
        subst (λ (n : ℕ). AllByRecursion (IsNear n) more) same all

-- ---- the loop over the dimensions

-- the ranges of the part in some dimensions; in none it is one cell
abbrev pub IsPartLaid : List Dim → List AddressRange → List Entry → ℕ → Type 0
IsPartLaid [] rs T w = IsLaid rs T w
IsPartLaid (d ∷ ds) rs T w = IsLaid rs (at_cells T (part_cells (d ∷ ds))) (part_weight (d ∷ ds) (element T w))

pub part_start : (slow : List Dim) (rs : List AddressRange) (T : List Entry) (w : ℕ) → IsLaid rs T w → IsPartLaid (fastest slow 0) rs T w
part_start slow rs T w l = subst (λ (ds : List Dim). IsPartLaid ds rs T w) (sym (fastest_none slow)) l

rows_same : (n : ℕ) (f g : ℕ → List Entry) → ((i : ℕ) → f i ≡ g i) → each_below n f ≡ each_below n g
rows_same zero f g h = refl
rows_same (suc n) f g h = ap (λ l. l ++ f n) (rows_same n f g h) ∙ ap (λ l. each_below n g ++ l) (h n)

-- one dimension more is copies of what is there
copies_are : (T : List Entry) (d : Dim) (ds : List Dim) (step : ℤ) → step ≡ pos (cells_in ds) *ℤ extent T →
    copies_map (natural d.subsize) (pos (natural d.start) *ℤ step) step (at_cells T (part_cells ds)) ≡ at_cells T (part_cells (d ∷ ds))
copies_are T d ds step e =
    let U = at_cells T (part_cells ds) in
    rows_same (natural d.subsize) (λ j. moved (pos (natural d.start) *ℤ step +ℤ pos j *ℤ step) U) (λ i. moved (pos (natural d.start + i) *ℤ (pos (cells_in ds) *ℤ extent T)) U)
    (λ i. ap (λ (x : ℤ). moved x U) (sym (times_add (natural d.start) i step) ∙ ap (λ (x : ℤ). pos (natural d.start + i) *ℤ x) e)) ∙
    sym (one_dimension_more T d ds)

one_cell : (T : List Entry) (x : ℤ) → Holds T x ↔ Holds (at_cells T (part_cells [])) x
one_cell T x =
    let z : x -ℤ pos 0 *ℤ extent T ≡ x = omega (arith, ints, zero-*ℤ (extent T)) in
    let there = holds_moved (pos 0 *ℤ extent T) (without_markers T) x in (
      (λ p. holds_left (moved (pos 0 *ℤ extent T) (without_markers T)) [] x (there.1 (subst (Holds (without_markers T)) (sym z) ((unmarked_holds T x).1 p)))),
      (λ p. elim (holds_split (moved (pos 0 *ℤ extent T) (without_markers T)) [] x p) [ inl q ↦ (unmarked_holds T x).0 (subst (Holds (without_markers T)) z (there.0 q)) | inr q ↦ absurd q ]),
    )

one_cell_size : (T : List Entry) → size T ≡ size (at_cells T (part_cells []))
one_cell_size T =
    let whole = size_append (moved (pos 0 *ℤ extent T) (without_markers T)) [] in
    omega (arith, whole, size_moved (pos 0 *ℤ extent T) (without_markers T), size_unmarked T)

pub part_step : (dim : Dim) (ds next : List Dim) (rs more : List AddressRange) (T : List Entry) (w : ℕ) (step : ℤ) → next ≡ dim ∷ ds → step ≡ pos (cells_in ds) *ℤ extent T → IsPartLaid ds rs T w →
    AreCopies rs (pos (natural dim.start) *ℤ step) step (natural dim.subsize) more → IsPartLaid next more T w
part_step dim ds next rs more T w step is e l c = subst (λ (l : List Dim). IsPartLaid l more T w) (sym is) (by ds e l)
  where
    by : (ds : List Dim) → step ≡ pos (cells_in ds) *ℤ extent T → IsPartLaid ds rs T w → IsPartLaid (dim ∷ ds) more T w
    by [] e l =
        let U = at_cells T (part_cells []) in
        let n = natural dim.subsize in
        let m : IsLaid rs U w = laid_same rs T U w (one_cell T) (one_cell_size T) l in
        let made = laid_dense rs more U (pos (natural dim.start) *ℤ step) step n w m c in
        let weight : weigh n (record { weight = w; size = size U; extent = step }) ≡ weigh n (element T w) = ap (λ (k : ℕ). weigh n (record { weight = w; size = k; extent = step })) (sym (one_cell_size T)) ∙ ap (λ (z : ℤ). weigh n (record { weight = w; size = size T; extent = z })) (e ∙ one_times (extent T)) in
        subst (IsLaid more (at_cells T (part_cells (dim ∷ [])))) weight (subst (λ es. IsLaid more es (weigh n (record { weight = w; size = size U; extent = step }))) (copies_are T dim [] step e) made)
    by (d ∷ ds) e l =
        subst (λ es. IsLaid more es (natural dim.subsize * part_weight (d ∷ ds) (element T w))) (copies_are T dim (d ∷ ds) step e) (laid_copies rs more (at_cells T (part_cells (d ∷ ds))) (pos (natural dim.start) *ℤ step) step (natural dim.subsize) (part_weight (d ∷ ds) (element T w)) l c)

pub part_end : (order : ℕ) (dims : List Dim) (k : ℕ) (rs : List AddressRange) (T : List Entry) (w : ℕ) → length dims ≤ k → 1 ≤ length dims → IsPartLaid (fastest (slow_first order dims) k) rs T w →
    IsLaid rs (subarray_map order dims T) (part_weight (slow_first order dims) (element T w))
unfolding subarray_map
part_end order dims k rs T w end some l =
    let slow = slow_first order dims in
    let whole : fastest slow k ≡ slow = fastest_all slow k (omega (arith, length-slow order dims, end)) in
    marked (slow_first order dims) (omega (arith, length-slow order dims, some)) (subst (λ (ds : List Dim). IsPartLaid ds rs T w) whole l)
  where
    marked : (ds : List Dim) → 1 ≤ length ds → IsPartLaid ds rs T w → IsLaid rs (at_cells T (part_cells ds) ++ LowerMarker (pos 0) ∷ UpperMarker (pos (cells_in dims) *ℤ extent T) ∷ []) (part_weight ds (element T w))
    marked [] h l = absurd (omega (arith, h))
    marked (d ∷ ds) h l =
        let es = at_cells T (part_cells (d ∷ ds)) in
        let ub = pos (cells_in dims) *ℤ extent T in
        laid_same rs es (es ++ LowerMarker (pos 0) ∷ UpperMarker ub ∷ []) (part_weight (d ∷ ds) (element T w)) (λ x. let h = two_markers_hold es (pos 0) ub x in (h.1, h.0)) (sym (size_marked es (pos 0) ub)) l
