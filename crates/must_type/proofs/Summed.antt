-- Summaries join, move and repeat as the maps do.
use Rattle.std.proofs.Common.{◌≡◌, refl, sym, ◌∙◌, ap, arith, ℕ, zero, suc, ◌+◌, ◌≤◌, max, ℤ, pos, negsuc, ◌+ℤ◌, ◌*ℤ◌, ◌≤ℤ◌, List, [], ◌∷◌, ◌++◌, Option, Some, None, ◌⊎◌, inl, inr}
use Rattle.std.specs.Int.{int_min, int_max}
use Rattle.std.proofs.lemmas.Int.{ints, clamps}
use Rattle.std.proofs.Math.IntN.{zero-*ℤ, suc_ℤ-*ℤ, pos-*ℤ-pos, pos-*ℤ-negsuc}
use Rattle.must_call.specs.Basics.{size_of}
use Rattle.must_type.specs.declared.summary.Span.{Span}
use Rattle.must_type.specs.declared.summary.Summary.{Summary}
use Rattle.must_type.specs.Maps.{Entry, Element, LowerMarker, UpperMarker, moved_entry, moved, size, alignment, extent, each_below, block}
use Rattle.must_type.specs.Summaries.{span_join, span_moved, span_repeated, element_span, lower_span, upper_span, summary, no_entries, join, shift, repeated}
use Rattle.must_type.proofs.Spans.{span, join_moved, moved_zero, moved_twice, hull-append, hull-moved}

pub size-append : (a b : List Entry) → size (a ++ b) ≡ size a + size b
size-append [] b = omega arith
size-append (Element k d ∷ a) b = omega (arith, size-append a b)
size-append (LowerMarker d ∷ a) b = size-append a b
size-append (UpperMarker d ∷ a) b = size-append a b

pub alignment_some : (a : List Entry) → 1 ≤ alignment a
alignment_some [] = omega arith
alignment_some (Element k d ∷ a) = omega (arith, alignment_some a)
alignment_some (LowerMarker d ∷ a) = alignment_some a
alignment_some (UpperMarker d ∷ a) = alignment_some a

pub alignment-append : (a b : List Entry) → alignment (a ++ b) ≡ max (alignment a) (alignment b)
alignment-append [] b = omega (arith, alignment_some b)
alignment-append (Element k d ∷ a) b = omega (arith, alignment-append a b)
alignment-append (LowerMarker d ∷ a) b = alignment-append a b
alignment-append (UpperMarker d ∷ a) b = alignment-append a b

pub size-moved : (d : ℤ) (a : List Entry) → size (moved d a) ≡ size a
size-moved d [] = refl
size-moved d (Element k at ∷ a) = omega (arith, size-moved d a)
size-moved d (LowerMarker at ∷ a) = size-moved d a
size-moved d (UpperMarker at ∷ a) = size-moved d a

pub alignment-moved : (d : ℤ) (a : List Entry) → alignment (moved d a) ≡ alignment a
alignment-moved d [] = refl
alignment-moved d (Element k at ∷ a) = omega (arith, alignment-moved d a)
alignment-moved d (LowerMarker at ∷ a) = alignment-moved d a
alignment-moved d (UpperMarker at ∷ a) = alignment-moved d a

unfoldable made : ℕ → ℕ → Option Span → Option Span → Option Span → Summary
made n a e l u = record { size = n; alignment = a; elements = e; lowers = l; uppers = u }

same : (n m a b : ℕ) (e f l k u v : Option Span) → n ≡ m → a ≡ b → e ≡ f → l ≡ k → u ≡ v → made n a e l u ≡ made m b f k v
same n m a b e f l k u v p q r s t = cc

-- two summaries are equal where their numbers are
pub same_summary : (s t : Summary) → s.size ≡ t.size → s.alignment ≡ t.alignment → s.elements ≡ t.elements → s.lowers ≡ t.lowers → s.uppers ≡ t.uppers → s ≡ t
unfolding made
same_summary s t p q r w x = same s.size t.size s.alignment t.alignment s.elements t.elements s.lowers t.lowers s.uppers t.uppers p q r w x

pub summary-append : (a b : List Entry) → summary (a ++ b) ≡ join (summary a) (summary b)
unfolding summary join
summary-append a b =
    same_summary (summary (a ++ b)) (join (summary a) (summary b)) (size-append a b) (alignment-append a b) (hull-append element_span a b) (hull-append lower_span a b) (hull-append upper_span a b)

pub swap_last : (x y z : ℤ) → (x +ℤ y) +ℤ z ≡ (x +ℤ z) +ℤ y
swap_last x y z = omega (arith, ints)

element_moved : (d : ℤ) (e : Entry) → element_span (moved_entry d e) ≡ span_moved d (element_span e)
element_moved d (Element b at) = ap (λ (h : ℤ). span (at +ℤ d) h) (swap_last at d (pos (size_of b)))
element_moved d (LowerMarker at) = refl
element_moved d (UpperMarker at) = refl

lower_moved : (d : ℤ) (e : Entry) → lower_span (moved_entry d e) ≡ span_moved d (lower_span e)
lower_moved d (Element b at) = refl
lower_moved d (LowerMarker at) = refl
lower_moved d (UpperMarker at) = refl

upper_moved : (d : ℤ) (e : Entry) → upper_span (moved_entry d e) ≡ span_moved d (upper_span e)
upper_moved d (Element b at) = refl
upper_moved d (LowerMarker at) = refl
upper_moved d (UpperMarker at) = refl

pub summary-moved : (d : ℤ) (a : List Entry) → summary (moved d a) ≡ shift d (summary a)
unfolding summary shift
summary-moved d a =
    same_summary (summary (moved d a)) (shift d (summary a)) (size-moved d a) (alignment-moved d a) (hull-moved element_span element_moved d a) (hull-moved lower_span lower_moved d a) (hull-moved upper_span upper_moved d a)

-- ---- progressions

pub times_suc : (n : ℕ) (d : ℤ) → pos (suc n) *ℤ d ≡ pos n *ℤ d +ℤ d
times_suc n d = suc_ℤ-*ℤ (pos n) d

-- a multiple of d lies on d's side of 0
pub times_sign : (n : ℕ) (d : ℤ) → ((pos 0 ≤ℤ d) × (pos 0 ≤ℤ (pos n *ℤ d))) ⊎ ((d ≤ℤ pos 0) × ((pos n *ℤ d) ≤ℤ pos 0))
times_sign n (pos k) = rw (pos-*ℤ-pos n k) (inl (omega (arith, ints), omega (arith, ints)))
times_sign n (negsuc k) = rw (pos-*ℤ-negsuc n k) (inr (omega (arith, ints), omega (arith, ints)))

min_between : (a p d q : ℤ) → q ≡ p +ℤ d → ((pos 0 ≤ℤ d) × (pos 0 ≤ℤ p)) ⊎ ((d ≤ℤ pos 0) × (p ≤ℤ pos 0)) → int_min (int_min a (a +ℤ p)) (a +ℤ q) ≡ int_min a (a +ℤ q)
min_between a p d q e (inl s) = omega (arith, ints, clamps)
min_between a p d q e (inr s) = omega (arith, ints, clamps)

max_between : (a p d q : ℤ) → q ≡ p +ℤ d → ((pos 0 ≤ℤ d) × (pos 0 ≤ℤ p)) ⊎ ((d ≤ℤ pos 0) × (p ≤ℤ pos 0)) → int_max (int_max a (a +ℤ p)) (a +ℤ q) ≡ int_max a (a +ℤ q)
max_between a p d q e (inl s) = omega (arith, ints, clamps)
max_between a p d q e (inr s) = omega (arith, ints, clamps)

min_same : (a : ℤ) → a ≡ int_min a a
min_same a = omega (arith, ints, clamps)

max_same : (a : ℤ) → a ≡ int_max a a
max_same a = omega (arith, ints, clamps)

join_same : (s : Option Span) → s ≡ span_join s s
join_same None = refl
join_same (Some s) = ap (λ (a : ℤ). span a s.high) (min_same s.low) ∙ ap (λ (b : ℤ). span (int_min s.low s.low) b) (max_same s.high)

first_moved : (stride : ℤ) (s : Option Span) → span_moved (pos 0 *ℤ stride) s ≡ s
first_moved stride s = ap (λ (d : ℤ). span_moved d s) (zero-*ℤ stride) ∙ moved_zero s

-- one copy more
pub span_more : (n : ℕ) (stride : ℤ) (s : Option Span) → span_join (span_repeated n stride s) (span_moved (pos n *ℤ stride) s) ≡ span_repeated (suc n) stride s
span_more zero stride s = first_moved stride s ∙ join_same s ∙ ap (span_join s) (sym (first_moved stride s))
span_more (suc n) stride None = refl
span_more (suc n) stride (Some s) =
    let p = pos n *ℤ stride in
    let q = pos (suc n) *ℤ stride in
    ap (λ (a : ℤ). span a (int_max (int_max s.high (s.high +ℤ p)) (s.high +ℤ q))) (min_between s.low p stride q (times_suc n stride) (times_sign n stride)) ∙ ap (λ (b : ℤ). span (int_min s.low (s.low +ℤ q)) b) (max_between s.high p stride q (times_suc n stride) (times_sign n stride))

pub repeated_more : (n : ℕ) (stride : ℤ) (s : Summary) → 1 ≤ s.alignment → join (repeated n stride s) (shift (pos n *ℤ stride) s) ≡ repeated (suc n) stride s
unfolding join repeated shift no_entries
repeated_more zero stride s h =
    same_summary (join (repeated zero stride s) (shift (pos zero *ℤ stride) s)) (repeated (suc zero) stride s) (omega arith) (omega arith) (span_more zero stride s.elements) (span_more zero stride s.lowers) (span_more zero stride s.uppers)
repeated_more (suc n) stride s h =
    same_summary (join (repeated (suc n) stride s) (shift (pos (suc n) *ℤ stride) s)) (repeated (suc (suc n)) stride s) (omega arith) (omega arith) (span_more (suc n) stride s.elements) (span_more (suc n) stride s.lowers) (span_more (suc n) stride s.uppers)

-- the lemma for blocks: maps that stand a stride apart
pub summary-each_below : (n : ℕ) (stride : ℤ) (s : Summary) (f : ℕ → List Entry) → 1 ≤ s.alignment → ((i : ℕ) → summary (f i) ≡ shift (pos i *ℤ stride) s) → summary (each_below n f) ≡ repeated n stride s
unfolding summary repeated no_entries
summary-each_below zero stride s f h same_map = refl
summary-each_below (suc n) stride s f h same_map =
    summary-append (each_below n f) (f n) ∙ ap (λ t. join t (summary (f n))) (summary-each_below n stride s f h same_map) ∙ ap (join (repeated n stride s)) (same_map n) ∙ repeated_more n stride s h

pub shift_twice : (d e : ℤ) (s : Summary) → shift e (shift d s) ≡ shift (d +ℤ e) s
unfolding shift
shift_twice d e s = same_summary (shift e (shift d s)) (shift (d +ℤ e) s) refl refl (moved_twice d e s.elements) (moved_twice d e s.lowers) (moved_twice d e s.uppers)

pub shift_zero : (s : Summary) → shift (pos 0) s ≡ s
unfolding shift
shift_zero s = same_summary (shift (pos 0) s) s refl refl (moved_zero s.elements) (moved_zero s.lowers) (moved_zero s.uppers)

pub shift_join : (d : ℤ) (s t : Summary) → join (shift d s) (shift d t) ≡ shift d (join s t)
unfolding shift join
shift_join d s t = same_summary (join (shift d s) (shift d t)) (shift d (join s t)) refl refl (join_moved d s.elements t.elements) (join_moved d s.lowers t.lowers) (join_moved d s.uppers t.uppers)

pub summary_alignment : (es : List Entry) → 1 ≤ (summary es).alignment
unfolding summary
summary_alignment es = alignment_some es

pub shift_alignment : (d : ℤ) (s : Summary) → (shift d s).alignment ≡ s.alignment
unfolding shift
shift_alignment d s = refl

pub summary-block : (n : ℕ) (T : List Entry) (d : ℤ) → summary (block n T d) ≡ repeated n (extent T) (shift d (summary T))
unfolding block
summary-block n T d =
    summary-each_below n (extent T) (shift d (summary T)) (λ j. moved (d +ℤ pos j *ℤ extent T) T) (rw (shift_alignment d (summary T)) (summary_alignment T)) (λ j. summary-moved (d +ℤ pos j *ℤ extent T) T ∙ sym (shift_twice d (pos j *ℤ extent T) (summary T)))
