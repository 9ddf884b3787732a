-- The numbers of blocks leave room, and blocks add up to the map.
use Rattle.std.proofs.Common.{◌≡◌, refl, sym, ◌∙◌, ap, subst, arith, ℕ, ◌+◌, ◌*◌, ◌≤◌, ◌<◌, ◌^◌, ℤ, List, [], ◌∷◌, ◌++◌, mul-le-mul, take, drop, length, get_or, append-nil, take-append-drop, take_all}
use Rattle.std.proofs.lemmas.List.{take_more}
use Rattle.std.specs.List.{flat_map}
use Rattle.std.proofs.lemmas.List.Concat.{flat_map-append}
use Rattle.must_type.specs.declared.summary.Summary.{Summary}
use Rattle.must_type.specs.declared.facts.Facts.{Facts}
use Rattle.must_type.specs.Maps.{Entry, extent, block, IsBounded}
use Rattle.must_type.specs.Summaries.{summary, no_entries, join, shift, repeated, IsBoundedBy, IsOrdered, Fits}
use Rattle.must_type.specs.Facts.{IsOf, IsModest}
use Rattle.must_type.proofs.Summed.{summary-append, shift_alignment}
use Rattle.must_type.proofs.Distances.{wider_by, shift_bounded, shift_ordered, shifted_size, repeated_bounded, repeated_ordered, repeated_size}
use Rattle.must_type.proofs.FormLaws.{repeated_alignment, block-shift}
use Rattle.must_type.proofs.Reach.{fits_join}

pub run_bounded : (n : ℕ) (e : ℤ) (s : Summary) → n ≤ 2 ^ 31 → IsBounded (2 ^ 63) e → Fits s → IsBoundedBy (2 ^ 95) (repeated n e s)
run_bounded n e s h near fits = wider_by (2 ^ 62 + 2 ^ 31 * 2 ^ 63) (2 ^ 95) (repeated n e s) (omega arith) (repeated_bounded (2 ^ 63) (2 ^ 62) n e s h near fits.near)

pub run_small : (n : ℕ) (e : ℤ) (s : Summary) → n ≤ 2 ^ 31 → Fits s → (repeated n e s).size ≤ 2 ^ 94
run_small n e s h fits =
    let few : n * s.size ≤ 2 ^ 31 * 2 ^ 62 = mul-le-mul h fits.small in
    omega (arith, repeated_size n e s)

pub run_modest : (n : ℕ) (e : ℤ) (s : Summary) → n ≤ 2 ^ 31 → IsBounded (2 ^ 63) e → Fits s → IsOrdered s → 1 ≤ s.alignment → IsModest (repeated n e s)
run_modest n e s h near fits o a =
    record {
      bounded = wider_by (2 ^ 95) (2 ^ 96) (repeated n e s) (omega arith) (run_bounded n e s h near fits);
      ordered = repeated_ordered n e s o;
      aligned = repeated_alignment n e s a;
      small = run_small n e s h fits;
    }

pub block_modest : (n : ℕ) (e d : ℤ) (s : Summary) → n ≤ 2 ^ 31 → IsBounded (2 ^ 63) e → IsBounded (2 ^ 94) d → Fits s → IsOrdered s → 1 ≤ s.alignment → IsModest (shift d (repeated n e s))
block_modest n e d s h near far fits o a =
    record {
      bounded = wider_by (2 ^ 95 + 2 ^ 94) (2 ^ 96) (shift d (repeated n e s)) (omega arith) (shift_bounded (2 ^ 94) (2 ^ 95) d (repeated n e s) far (run_bounded n e s h near fits));
      ordered = shift_ordered d (repeated n e s) (repeated_ordered n e s o);
      aligned = rw (shift_alignment d (repeated n e s)) (repeated_alignment n e s a);
      small = let size : (shift d (repeated n e s)).size ≡ (repeated n e s).size = shifted_size d (repeated n e s) (shift d (repeated n e s)) refl in omega (arith, run_small n e s h fits);
    }

-- what the code makes of a block is the block's summary
pub block_is : (n : ℕ) (d : ℤ) (T : List Entry) (f : Facts) → IsOf T f → shift d (repeated n f.bounds.extent f.summary) ≡ summary (block n T d)
block_is n d T f h =
    ap (λ (e : ℤ). shift d (repeated n e f.summary)) h.extent_is ∙ ap (λ (s : Summary). shift d (repeated n (extent T) s)) h.summary_is ∙ sym (block-shift n T d)

-- one block more
pub block_more : (X : Type 0) (f : X → List Entry) (items : List X) (i : ℕ) (item : X) (all more next : Summary) → take (i + 1) items ≡ take i items ++ item ∷ [] → all ≡ summary (flat_map f (take i items)) → more ≡ summary (f item) → next ≡ join all more → next ≡ summary (flat_map f (take (i + 1) items))
block_more X f items i item all more next t a m n =
    n ∙ ap (λ (s : Summary). join s more) a ∙ ap (join (summary (flat_map f (take i items)))) m ∙ sym (summary-append (flat_map f (take i items)) (f item)) ∙ ap summary (sym (ap (flat_map f) t ∙ flat_map-append f (take i items) (item ∷ []) ∙ ap (λ es. flat_map f (take i items) ++ es) (append-nil (f item))))

-- what begins with blocks that reach too far does so itself
pub front_fits : (a b : List Entry) → Fits (summary (a ++ b)) → Fits (summary a)
front_fits a b h = fits_join (summary a) (summary b) (subst Fits (summary-append a b) h)

pub front_of_items : (X : Type 0) (f : X → List Entry) (items : List X) (i : ℕ) → Fits (summary (flat_map f items)) → Fits (summary (flat_map f (take i items)))
front_of_items X f items i h =
    front_fits (flat_map f (take i items)) (flat_map f (drop i items)) (subst Fits (ap summary (ap (flat_map f) (sym (take-append-drop i items)) ∙ flat_map-append f (take i items) (drop i items))) h)

pub no_entries_fit : Fits no_entries
unfolding no_entries
no_entries_fit = record { small = omega arith; near = record { elements = tt; lowers = tt; uppers = tt } }

pub no_entries_are : no_entries ≡ summary []
unfolding no_entries summary
no_entries_are = refl

-- the block of one item, and all blocks to it
pub item_is : (length : ℕ) (at : ℤ → ℤ) (T : List Entry) (f : Facts) (one : Summary) → IsOf T f → one ≡ shift (at f.bounds.extent) (repeated length f.bounds.extent f.summary) → one ≡ summary (block length T (at (extent T)))
item_is length at T f one h e = e ∙ block_is length (at f.bounds.extent) T f h ∙ ap (λ (x : ℤ). summary (block length T (at x))) h.extent_is

pub next_is : (X : Type 0) (length_of : X → ℕ) (at : X → ℤ → ℤ) (items : List X) (i : ℕ) (item : X) (T : List Entry) (f : Facts) (all one : Summary) → IsOf T f → i < length items → item ≡ get_or items i item →
    all ≡ summary (flat_map (λ it. block (length_of it) T (at it (extent T))) (take i items)) →
    one ≡ shift (at item f.bounds.extent) (repeated (length_of item) f.bounds.extent f.summary) →
    join all one ≡ summary (flat_map (λ it. block (length_of it) T (at it (extent T))) (take (i + 1) items))
next_is X length_of at items i item T f all one h below is a e =
    let t : take (i + 1) items ≡ take i items ++ item ∷ [] = take_more items i item below ∙ ap (λ (x : X). take i items ++ x ∷ []) (sym is) in
    block_more X (λ it. block (length_of it) T (at it (extent T))) items i item all one (join all one) t a (item_is (length_of item) (at item) T f one h e) refl

pub all_items : (X : Type 0) (f : X → List Entry) (items : List X) (i : ℕ) (all : Summary) → length items ≤ i → all ≡ summary (flat_map f (take i items)) → all ≡ summary (flat_map f items)
all_items X f items i all h e = e ∙ ap (λ xs. summary (flat_map f xs)) (take_all i items h)
