-- From the ranges of an old type to those of what a call makes of it.
use Rattle.std.proofs.Common.{◌≡◌, sym, ◌∙◌, ap, subst, arith, inl, inr, ◌↔◌, ℕ, ◌+◌, ◌*◌, ◌<◌, ◌≤◌, ℤ, pos, ◌+ℤ◌, ◌*ℤ◌, List, [], ◌∷◌, ◌++◌, length, get_or, take, append-nil}
use Rattle.std.specs.Prelude.{flat_map, sum_by}
use Rattle.std.specs.Int.RustNames.{unsigned_abs}
use Rattle.std.specs.List.{AllByRecursion}
use Rattle.std.proofs.lemmas.List.{take_more}
use Rattle.std.proofs.lemmas.List.Concat.{flat_map-append}
use Rattle.std.proofs.lemmas.List.Sums.{sum_by-append}
use Rattle.must_type.specs.Maps.{Entry, size, extent, without_markers, block}
use Rattle.must_type.specs.Constructs.{hvector_map, resized_map}
use Rattle.must_type.specs.Weights.{weigh}
use Rattle.must_span.specs.declared.ranges.AddressRange.{AddressRange}
use Rattle.must_span.specs.Bytes.{Holds}
use Rattle.must_span.specs.Steps.{IsNear, AreFew, IsLaid, AreWithin, AreCopies, Repeats, Adds, element}
use Rattle.must_span.proofs.RangeLaws.{covers_left, covers_right, covers_split, all_append, all_weaker}
use Rattle.must_span.proofs.CopyLaws.{abs_sum, abs_times}
use Rattle.must_span.proofs.FewLaws.{none_few, few_append}
use Rattle.must_span.proofs.ByteLaws.{holds_left, holds_right, holds_split, copies_map, copied_bytes, hvector_holds, unmarked_holds, two_markers_hold, nowhere, size_append, size_block, size_copies, size_hvector, size_unmarked, size_marked}

-- maps of the same addresses and the same size
pub laid_same : (rs : List AddressRange) (es fs : List Entry) (w : ℕ) → ((x : ℤ) → Holds es x ↔ Holds fs x) → size es ≡ size fs → IsLaid rs es w → IsLaid rs fs w
laid_same rs es fs w h e l = record {
  filled = l.filled;
  bytes = λ x. ((λ p. (h x).0 ((l.bytes x).0 p)), (λ p. (l.bytes x).1 ((h x).1 p)));
  few = subst (AreFew rs w) e l.few;
}

pub laid_none : (es : List Entry) (w : ℕ) → size es ≡ 0 → IsLaid [] es w
laid_none es w h = record { filled = tt; bytes = λ x. ((λ p. absurd p), (λ p. nowhere es h x p)); few = none_few w (size es) h }

pub laid_append : (a b : List AddressRange) (es fs : List Entry) (v w : ℕ) → IsLaid a es v → IsLaid b fs w → IsLaid (a ++ b) (es ++ fs) (v + w)
laid_append a b es fs v w l m = record {
  filled = all_append _ a b l.filled m.filled;
  bytes = λ x. (
    (λ p. elim (covers_split a b x p) [ inl q ↦ holds_left es fs x ((l.bytes x).0 q) | inr q ↦ holds_right es fs x ((m.bytes x).0 q) ]),
    (λ p. elim (holds_split es fs x p) [ inl q ↦ covers_left a b x ((l.bytes x).1 q) | inr q ↦ covers_right a b x ((m.bytes x).1 q) ]),
  );
  few = subst (AreFew (a ++ b) (v + w)) (sym (size_append es fs)) (few_append a b v w (size es) (size fs) l.few m.few);
}

-- copies of what is laid out
pub laid_copies : (rs more : List AddressRange) (es : List Entry) (at stride : ℤ) (n w : ℕ) → IsLaid rs es w → AreCopies rs at stride n more → IsLaid more (copies_map n at stride es) (n * w)
laid_copies rs more es at stride n w l c = record {
  filled = c.filled l.filled;
  bytes = λ x. ((λ p. (copied_bytes rs n es at stride l.bytes x).0 ((c.covers x).0 p)), (λ p. (c.covers x).1 ((copied_bytes rs n es at stride l.bytes x).1 p)));
  few = subst (AreFew more (n * w)) (sym (size_copies n at stride es)) (c.rows w (size es) l.few);
}

-- the same by the weight of a block
pub laid_dense : (rs more : List AddressRange) (es : List Entry) (at stride : ℤ) (n w : ℕ) → IsLaid rs es w → AreCopies rs at stride n more → IsLaid more (copies_map n at stride es) (weigh n (record { weight = w; size = size es; extent = stride }))
laid_dense rs more es at stride n w l c = record {
  filled = c.filled l.filled;
  bytes = λ x. ((λ p. (copied_bytes rs n es at stride l.bytes x).0 ((c.covers x).0 p)), (λ p. (c.covers x).1 ((copied_bytes rs n es at stride l.bytes x).1 p)));
  few = subst (AreFew more (weigh n (record { weight = w; size = size es; extent = stride }))) (sym (size_copies n at stride es)) (c.block w (size es) l.few);
}

pub laid_block : (rs more : List AddressRange) (T : List Entry) (at stride : ℤ) (n w : ℕ) → IsLaid rs T w → stride ≡ extent T → AreCopies rs at stride n more → IsLaid more (block n T at) (weigh n (element T w))
unfolding block
laid_block rs more T at stride n w l e c = laid_dense rs more T at (extent T) n w l (subst (λ (z : ℤ). AreCopies rs at z n more) e c)

pub laid_rows : (rs row more : List AddressRange) (T : List Entry) (extent_at stride : ℤ) (n length w : ℕ) → IsLaid rs T w → extent_at ≡ extent T → AreCopies rs (pos 0) extent_at length row → AreCopies row (pos 0) stride n more →
    IsLaid more (hvector_map n length stride T) (n * weigh length (element T w))
laid_rows rs row more T e stride n length w l is c d =
    let r : IsLaid row (block length T (pos 0)) (weigh length (element T w)) = laid_block rs row T (pos 0) e length w l is c in
    laid_same more (copies_map n (pos 0) stride (block length T (pos 0))) (hvector_map n length stride T) (n * weigh length (element T w)) (hvector_holds n length stride T)
    (size_copies n (pos 0) stride (block length T (pos 0)) ∙ ap (λ (k : ℕ). n * k) (size_block length T (pos 0)) ∙ sym (size_hvector n length stride T)) (laid_copies row more (block length T (pos 0)) (pos 0) stride n (weigh length (element T w)) r d)

pub laid_resized : (rs : List AddressRange) (T : List Entry) (lb e : ℤ) (w : ℕ) → IsLaid rs T w → IsLaid rs (resized_map lb e T) w
unfolding resized_map
laid_resized rs T lb e w l = laid_same rs T _ w (λ x. ((λ p. (two_markers_hold (without_markers T) lb (lb +ℤ e) x).1 ((unmarked_holds T x).1 p)), (λ p. (unmarked_holds T x).0 ((two_markers_hold (without_markers T) lb (lb +ℤ e) x).0 p)))) (sym (size_marked (without_markers T) lb (lb +ℤ e) ∙ size_unmarked T)) l

-- ---- what a call of `repeat` gave

-- what was put into an empty list
pub put_alone : (old rs new : List AddressRange) (at at' stride stride' : ℤ) (n : ℕ) → old ≡ [] → at ≡ at' → stride ≡ stride' → Repeats old rs at stride n new → AreCopies rs at' stride' n new
put_alone old rs new at at' stride stride' n e f g r =
    subst (λ l. AreCopies rs at' stride' n l) (sym (r.put ∙ ap (λ l. l ++ r.more) e)) (subst (λ (z : ℤ). AreCopies rs z stride' n r.more) f (subst (λ (z : ℤ). AreCopies rs at z n r.more) g r.copies))

pub put_block : (old rs new : List AddressRange) (T : List Entry) (at at' stride stride' : ℤ) (n w : ℕ) → at ≡ at' → stride ≡ stride' → stride' ≡ extent T → IsLaid rs T w → Repeats old rs at stride n new → Adds old new (block n T at') (weigh n (element T w))
put_block old rs new T at at' stride stride' n w f g is l r =
    record { more = r.more; put = r.put; laid = laid_block rs r.more T at' stride n w l (g ∙ is) (subst (λ (z : ℤ). AreCopies rs z stride n r.more) f r.copies) }

pub adds_none : (old : List AddressRange) (T : List Entry) (at : ℤ) (n w : ℕ) → n ≡ 0 → Adds old old (block n T at) (weigh n (element T w))
adds_none old T at n w e = record { more = []; put = sym (append-nil old); laid = laid_none (block n T at) (weigh n (element T w)) (size_block n T at ∙ ap (λ (k : ℕ). k * size T) e ∙ nothing (size T)) }
  where
    nothing : (s : ℕ) → 0 * s ≡ 0
    nothing s = omega arith

-- ---- how far the ranges lie

pub near_weaker : (m n : ℕ) (rs : List AddressRange) → m ≤ n → AllByRecursion (IsNear m) rs → AllByRecursion (IsNear n) rs
near_weaker m n rs h p = all_weaker (IsNear m) (IsNear n) (λ r q. record { low = omega (arith, q.low, h); high = omega (arith, q.high, h) }) rs p

pub within : (at stride : ℤ) (n a k : ℕ) → unsigned_abs at ≤ a → n * unsigned_abs stride ≤ k → AreWithin at stride n (a + k)
within at stride n a k h g j p = abs_sum at (pos j *ℤ stride) a k h (abs_times j n stride k (omega (arith, p)) g)

-- ---- the blocks of an indexed form

pub indexed_more : {P : Type 0} (old new : List AddressRange) (items : List P) (i : ℕ) (d : P) (f : P → List Entry) (g : P → ℕ) → i < length items →
    IsLaid old (flat_map f (take i items)) (sum_by g (take i items)) → Adds old new (f (get_or items i d)) (g (get_or items i d)) → IsLaid new (flat_map f (take (i + 1) items)) (sum_by g (take (i + 1) items))
indexed_more old new items i d f g h l a =
    let it = get_or items i d in
    let more : take (i + 1) items ≡ take i items ++ it ∷ [] = take_more items i d h in
    let maps : flat_map f (take (i + 1) items) ≡ flat_map f (take i items) ++ f it = ap (flat_map f) more ∙ flat_map-append f (take i items) (it ∷ []) ∙ ap (λ es. flat_map f (take i items) ++ es) (append-nil (f it)) in
    let weights : sum_by g (take (i + 1) items) ≡ sum_by g (take i items) + g it = let one : sum_by g (it ∷ []) ≡ g it = omega arith in omega (arith, ap (sum_by g) more, sum_by-append g (take i items) (it ∷ []), one) in
    subst (λ rs. IsLaid rs (flat_map f (take (i + 1) items)) (sum_by g (take (i + 1) items))) (sym a.put)
    (subst (λ (w : ℕ). IsLaid (old ++ a.more) (flat_map f (take (i + 1) items)) w) (sym weights)
    (subst (λ es. IsLaid (old ++ a.more) es (sum_by g (take i items) + g it)) (sym maps) (laid_append old a.more (flat_map f (take i items)) (f it) (sum_by g (take i items)) (g it) l a.laid)))
