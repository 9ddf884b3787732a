-- The summary of what each call makes.
use Rattle.std.proofs.Common.{◌≡◌, refl, sym, ◌∙◌, ap, arith, ℕ, zero, suc, ◌+◌, ◌*◌, ◌≤◌, ℤ, pos, ◌+ℤ◌, ◌*ℤ◌, List, [], ◌∷◌, ◌++◌, Option, None, map}
use Rattle.std.specs.List.{flat_map}
use Rattle.std.proofs.lemmas.List.Concat.{flat_map-append}
use Rattle.std.proofs.Common.{append-nil}
use Rattle.std.proofs.lemmas.Int.{ints}
use Rattle.std.proofs.Math.IntN.{zero-*ℤ}
use Rattle.must_type.specs.declared.summary.Span.{Span}
use Rattle.must_type.specs.declared.summary.Summary.{Summary}
use Rattle.must_call.specs.declared.items.Dim.{Dim}
use Rattle.must_type.specs.Maps.{Entry, Element, LowerMarker, UpperMarker, moved, extent, each_below, block, without_markers, size, alignment}
use Rattle.must_type.specs.Constructs.{natural, vector_map, hvector_map, resized_map, subarray_map, cells_in, part_cells, slow_first, at_cells}
use Rattle.must_type.specs.Summaries.{span_join, span_moved, span_repeated, hull, element_span, lower_span, upper_span, summary, no_entries, join, shift, repeated, marked, unmarked}
use Rattle.must_type.proofs.Spans.{span, join_none, join_moved, moved_twice, hull-append}
use Rattle.must_type.proofs.Summed.{same_summary, summary-append, summary-moved, summary-each_below, times_suc, shift_twice, shift_zero, shift_join, shift_alignment, summary_alignment, summary-block, alignment_some}

moved_swap : (d e : ℤ) (s : Option Span) → span_moved e (span_moved d s) ≡ span_moved d (span_moved e s)
moved_swap d e s = moved_twice d e s ∙ ap (λ (x : ℤ). span_moved x s) (omega (arith, ints)) ∙ sym (moved_twice e d s)

span_repeated-moved : (n : ℕ) (stride d : ℤ) (s : Option Span) → span_repeated n stride (span_moved d s) ≡ span_moved d (span_repeated n stride s)
span_repeated-moved zero stride d s = refl
span_repeated-moved (suc n) stride d s = ap (span_join (span_moved d s)) (moved_swap d (pos n *ℤ stride) s) ∙ join_moved d s (span_moved (pos n *ℤ stride) s)

-- repeating commutes with moving
pub repeated-shift : (n : ℕ) (stride d : ℤ) (s : Summary) → repeated n stride (shift d s) ≡ shift d (repeated n stride s)
unfolding repeated shift no_entries
repeated-shift zero stride d s = refl
repeated-shift (suc n) stride d s =
    same_summary (repeated (suc n) stride (shift d s)) (shift d (repeated (suc n) stride s)) refl refl (span_repeated-moved (suc n) stride d s.elements) (span_repeated-moved (suc n) stride d s.lowers) (span_repeated-moved (suc n) stride d s.uppers)

pub repeated_alignment : (n : ℕ) (stride : ℤ) (s : Summary) → 1 ≤ s.alignment → 1 ≤ (repeated n stride s).alignment
unfolding repeated no_entries
repeated_alignment zero stride s h = omega arith
repeated_alignment (suc n) stride s h = h

pub block_alignment : (n : ℕ) (T : List Entry) → 1 ≤ (repeated n (extent T) (summary T)).alignment
block_alignment n T = repeated_alignment n (extent T) (summary T) (summary_alignment T)

-- a block moves with its displacement
pub block-shift : (n : ℕ) (T : List Entry) (d : ℤ) → summary (block n T d) ≡ shift d (repeated n (extent T) (summary T))
block-shift n T d = summary-block n T d ∙ repeated-shift n (extent T) d (summary T)

pub summary-contiguous : (n : ℕ) (T : List Entry) → summary (block n T (pos 0)) ≡ repeated n (extent T) (summary T)
summary-contiguous n T = block-shift n T (pos 0) ∙ shift_zero (repeated n (extent T) (summary T))

pub summary-vector : (count length : ℕ) (stride : ℤ) (T : List Entry) → summary (vector_map count length stride T) ≡ repeated count (stride *ℤ extent T) (repeated length (extent T) (summary T))
unfolding vector_map
summary-vector count length stride T =
    summary-each_below count (stride *ℤ extent T) (repeated length (extent T) (summary T)) (λ i. block length T (pos i *ℤ (stride *ℤ extent T))) (block_alignment length T) (λ i. block-shift length T (pos i *ℤ (stride *ℤ extent T)))

pub summary-hvector : (count length : ℕ) (stride : ℤ) (T : List Entry) → summary (hvector_map count length stride T) ≡ repeated count stride (repeated length (extent T) (summary T))
unfolding hvector_map
summary-hvector count length stride T =
    summary-each_below count stride (repeated length (extent T) (summary T)) (λ i. block length T (pos i *ℤ stride)) (block_alignment length T) (λ i. block-shift length T (pos i *ℤ stride))

-- ---- the basics alone

size-without : (es : List Entry) → size (without_markers es) ≡ size es
size-without [] = refl
size-without (Element b d ∷ es) = omega (arith, size-without es)
size-without (LowerMarker d ∷ es) = size-without es
size-without (UpperMarker d ∷ es) = size-without es

alignment-without : (es : List Entry) → alignment (without_markers es) ≡ alignment es
alignment-without [] = refl
alignment-without (Element b d ∷ es) = omega (arith, alignment-without es)
alignment-without (LowerMarker d ∷ es) = alignment-without es
alignment-without (UpperMarker d ∷ es) = alignment-without es

elements-without : (es : List Entry) → hull element_span (without_markers es) ≡ hull element_span es
elements-without [] = refl
elements-without (Element b d ∷ es) = ap (span_join (element_span (Element b d))) (elements-without es)
elements-without (LowerMarker d ∷ es) = elements-without es
elements-without (UpperMarker d ∷ es) = elements-without es

lowers-without : (es : List Entry) → hull lower_span (without_markers es) ≡ None
lowers-without [] = refl
lowers-without (Element b d ∷ es) = lowers-without es
lowers-without (LowerMarker d ∷ es) = lowers-without es
lowers-without (UpperMarker d ∷ es) = lowers-without es

uppers-without : (es : List Entry) → hull upper_span (without_markers es) ≡ None
uppers-without [] = refl
uppers-without (Element b d ∷ es) = uppers-without es
uppers-without (LowerMarker d ∷ es) = uppers-without es
uppers-without (UpperMarker d ∷ es) = uppers-without es

-- basics with one marker of each bound behind them
pub summary-marks : (lb ub : ℤ) (es : List Entry) → hull lower_span es ≡ None → hull upper_span es ≡ None → summary (es ++ LowerMarker lb ∷ UpperMarker ub ∷ []) ≡ marked lb ub (summary es)
unfolding summary join marked
summary-marks lb ub es l u =
    summary-append es (LowerMarker lb ∷ UpperMarker ub ∷ []) ∙
    same_summary (join (summary es) (summary (LowerMarker lb ∷ UpperMarker ub ∷ []))) (marked lb ub (summary es)) (omega arith) (omega (arith, alignment_some es)) (join_none (hull element_span es)) (ap (λ (h : Option Span). span_join h (span lb lb)) l) (ap (λ (h : Option Span). span_join h (span ub ub)) u)

pub marked-without : (lb ub : ℤ) (es : List Entry) → marked lb ub (summary (without_markers es)) ≡ marked lb ub (summary es)
unfolding summary marked
marked-without lb ub es = same_summary (marked lb ub (summary (without_markers es))) (marked lb ub (summary es)) (size-without es) (alignment-without es) (elements-without es) refl refl

pub summary-resized : (lb extent : ℤ) (T : List Entry) → summary (resized_map lb extent T) ≡ marked lb (lb +ℤ extent) (summary T)
unfolding resized_map
summary-resized lb extent T = summary-marks lb (lb +ℤ extent) (without_markers T) (lowers-without T) (uppers-without T) ∙ marked-without lb (lb +ℤ extent) T

-- ---- parts of arrays

pub times_add : (n m : ℕ) (d : ℤ) → pos (n + m) *ℤ d ≡ (pos n *ℤ d) +ℤ (pos m *ℤ d)
times_add zero m d = let e : 0 + m ≡ m = omega arith in ap (λ k. pos k *ℤ d) e ∙ omega (arith, ints, zero-*ℤ d)
times_add (suc n) m d =
    let e : suc n + m ≡ suc (n + m) = omega arith in
    ap (λ k. pos k *ℤ d) e ∙ omega (arith, ints, times_suc (n + m) d, times_add n m d, times_suc n d)

pub times_times : (n m : ℕ) (d : ℤ) → pos (n * m) *ℤ d ≡ pos n *ℤ (pos m *ℤ d)
times_times zero m d = let e : 0 * m ≡ 0 = omega arith in ap (λ k. pos k *ℤ d) e ∙ zero-*ℤ d ∙ sym (zero-*ℤ (pos m *ℤ d))
times_times (suc n) m d =
    let e : suc n * m ≡ n * m + m = omega arith in
    ap (λ k. pos k *ℤ d) e ∙ omega (arith, ints, times_add (n * m) m d, times_times n m d, times_suc n (pos m *ℤ d))

no_entries_moved : (d : ℤ) → summary [] ≡ shift d (summary [])
unfolding summary shift
no_entries_moved d = refl

cell_moved : (T : List Entry) (o c : ℕ) → summary (moved (pos (o + c) *ℤ extent T) (without_markers T)) ≡ shift (pos o *ℤ extent T) (summary (moved (pos c *ℤ extent T) (without_markers T)))
cell_moved T o c =
    let M = without_markers T in
    let E = extent T in
    let e : pos (o + c) *ℤ E ≡ (pos c *ℤ E) +ℤ (pos o *ℤ E) = omega (arith, ints, times_add o c E) in
    summary-moved (pos (o + c) *ℤ E) M ∙ ap (λ (d : ℤ). shift d (summary M)) e ∙ sym (shift_twice (pos c *ℤ E) (pos o *ℤ E) (summary M)) ∙ ap (shift (pos o *ℤ E)) (sym (summary-moved (pos c *ℤ E) M))

cells_shift : (T : List Entry) (o : ℕ) (cells : List ℕ) → summary (at_cells T (map (λ c. o + c) cells)) ≡ shift (pos o *ℤ extent T) (summary (at_cells T cells))
cells_shift T o [] = no_entries_moved (pos o *ℤ extent T)
cells_shift T o (c ∷ cells) =
    let here = moved (pos c *ℤ extent T) (without_markers T) in
    summary-append (moved (pos (o + c) *ℤ extent T) (without_markers T)) (at_cells T (map (λ k. o + k) cells)) ∙
    ap (λ s. join s (summary (at_cells T (map (λ k. o + k) cells)))) (cell_moved T o c) ∙
    ap (join (shift (pos o *ℤ extent T) (summary here))) (cells_shift T o cells) ∙
    shift_join (pos o *ℤ extent T) (summary here) (summary (at_cells T cells)) ∙
    ap (shift (pos o *ℤ extent T)) (sym (summary-append here (at_cells T cells)))

each_below-flat_map : (g : ℕ → List Entry) (n : ℕ) (f : ℕ → List ℕ) → flat_map g (each_below n f) ≡ each_below n (λ i. flat_map g (f i))
each_below-flat_map g zero f = refl
each_below-flat_map g (suc n) f = flat_map-append g (each_below n f) (f n) ∙ ap (λ es. es ++ flat_map g (f n)) (each_below-flat_map g n f)

-- a dimension more, slower than those before it
pub summary-dimension : (T : List Entry) (d : Dim) (ds : List Dim) →
    summary (at_cells T (part_cells (d ∷ ds))) ≡ repeated (natural d.subsize) (pos (cells_in ds) *ℤ extent T) (shift (pos (natural d.start) *ℤ (pos (cells_in ds) *ℤ extent T)) (summary (at_cells T (part_cells ds))))
summary-dimension T d ds =
    let E = extent T in
    let k = cells_in ds in
    let n = natural d.start in
    let cells = part_cells ds in
    let rest = summary (at_cells T cells) in
    let here : (i : ℕ) → summary (at_cells T (map (λ c. (n + i) * k + c) cells)) ≡ shift (pos i *ℤ (pos k *ℤ E)) (shift (pos n *ℤ (pos k *ℤ E)) rest) = λ i.
    let e : pos ((n + i) * k) *ℤ E ≡ (pos n *ℤ (pos k *ℤ E)) +ℤ (pos i *ℤ (pos k *ℤ E)) = omega (arith, ints, times_times (n + i) k E, times_add n i (pos k *ℤ E)) in
    cells_shift T ((n + i) * k) cells ∙ ap (λ (x : ℤ). shift x rest) e ∙ sym (shift_twice (pos n *ℤ (pos k *ℤ E)) (pos i *ℤ (pos k *ℤ E)) rest) in
    ap summary (each_below-flat_map (λ c. moved (pos c *ℤ E) (without_markers T)) (natural d.subsize) (λ i. map (λ c. (n + i) * k + c) cells)) ∙
    summary-each_below (natural d.subsize) (pos k *ℤ E) (shift (pos n *ℤ (pos k *ℤ E)) rest) (λ i. at_cells T (map (λ c. (n + i) * k + c) cells)) (rw (shift_alignment (pos n *ℤ (pos k *ℤ E)) rest) (summary_alignment (at_cells T cells))) here

pub summary-one_cell : (T : List Entry) → summary (at_cells T (part_cells [])) ≡ unmarked (summary T)
unfolding summary unmarked
summary-one_cell T =
    let M = without_markers T in
    ap summary (append-nil (moved (pos 0 *ℤ extent T) M)) ∙ summary-moved (pos 0 *ℤ extent T) M ∙ ap (λ (d : ℤ). shift d (summary M)) (zero-*ℤ (extent T)) ∙ shift_zero (summary M) ∙
    same_summary (summary M) (unmarked (summary T)) (size-without T) (alignment-without T) (elements-without T) (lowers-without T) (uppers-without T)

lowers_moved-without : (d : ℤ) (es : List Entry) → hull lower_span (moved d (without_markers es)) ≡ None
lowers_moved-without d [] = refl
lowers_moved-without d (Element b at ∷ es) = lowers_moved-without d es
lowers_moved-without d (LowerMarker at ∷ es) = lowers_moved-without d es
lowers_moved-without d (UpperMarker at ∷ es) = lowers_moved-without d es

uppers_moved-without : (d : ℤ) (es : List Entry) → hull upper_span (moved d (without_markers es)) ≡ None
uppers_moved-without d [] = refl
uppers_moved-without d (Element b at ∷ es) = uppers_moved-without d es
uppers_moved-without d (LowerMarker at ∷ es) = uppers_moved-without d es
uppers_moved-without d (UpperMarker at ∷ es) = uppers_moved-without d es

lowers_at_cells : (T : List Entry) (cells : List ℕ) → hull lower_span (at_cells T cells) ≡ None
lowers_at_cells T [] = refl
lowers_at_cells T (c ∷ cells) =
    hull-append lower_span (moved (pos c *ℤ extent T) (without_markers T)) (at_cells T cells) ∙ ap (λ h. span_join h (hull lower_span (at_cells T cells))) (lowers_moved-without (pos c *ℤ extent T) T) ∙ lowers_at_cells T cells

uppers_at_cells : (T : List Entry) (cells : List ℕ) → hull upper_span (at_cells T cells) ≡ None
uppers_at_cells T [] = refl
uppers_at_cells T (c ∷ cells) =
    hull-append upper_span (moved (pos c *ℤ extent T) (without_markers T)) (at_cells T cells) ∙ ap (λ h. span_join h (hull upper_span (at_cells T cells))) (uppers_moved-without (pos c *ℤ extent T) T) ∙ uppers_at_cells T cells

pub summary-subarray : (order : ℕ) (dims : List Dim) (T : List Entry) → summary (subarray_map order dims T) ≡ marked (pos 0) (pos (cells_in dims) *ℤ extent T) (summary (at_cells T (part_cells (slow_first order dims))))
unfolding subarray_map
summary-subarray order dims T =
    let cells = part_cells (slow_first order dims) in
    summary-marks (pos 0) (pos (cells_in dims) *ℤ extent T) (at_cells T cells) (lowers_at_cells T cells) (uppers_at_cells T cells)
