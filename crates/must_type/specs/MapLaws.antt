-- Laws of type maps, for the crates that walk trees.
use Rattle.std.proofs.Common.{◌≡◌, refl, sym, ◌∙◌, ap, arith, ℕ, zero, suc, ◌+◌, ◌*◌, ◌≤◌, ℤ, pos, ◌+ℤ◌, ◌*ℤ◌, List, [], ◌∷◌, ◌++◌, length, map, length-append, mul_comm, mul-one}
use Rattle.std.specs.Prelude.{flat_map, reverse}
use Rattle.std.proofs.lemmas.Int.{ints}
use Rattle.std.proofs.lemmas.List.Concat.{flat_map-append}
use Rattle.std.proofs.lemmas.Grind.{reverse_onto}
use Rattle.std.proofs.Math.IntN.{zero-*ℤ}
use Rattle.must_call.specs.declared.basic.Basic.{Basic}
use Rattle.must_call.specs.declared.basic.Basic.TheVariants.{Char}
use Rattle.must_call.specs.declared.items.Dim.{Dim}
use Rattle.must_call.specs.Basics.{size_of}
use Rattle.must_type.specs.Maps.{Entry, Element, LowerMarker, UpperMarker, size, extent, moved, without_markers, each_below}
use Rattle.must_type.specs.Constructs.{natural, cells_in, part_cells, slow_first, at_cells}

-- ---- a map of size 0 has no basics

size_some : (b : Basic) → 1 ≤ size_of b
size_some Char = omega arith
size_some _ = omega arith

pub no_basics : (es : List Entry) → size es ≡ 0 → without_markers es ≡ []
no_basics [] h = refl
no_basics (Element b d ∷ es) h = absurd (omega (arith, size_some b, h))
no_basics (LowerMarker d ∷ es) h = no_basics es h
no_basics (UpperMarker d ∷ es) h = no_basics es h

-- ---- the cells of a part

-- how many cells a part has
abbrev pub cells_of_part : List Dim → ℕ
cells_of_part [] = 1
cells_of_part (d ∷ ds) = natural d.subsize * cells_of_part ds

rows_length : {X : Type 0} (n k : ℕ) (f : ℕ → List X) → ((i : ℕ) → length (f i) ≡ k) → length (each_below n f) ≡ n * k
rows_length zero k f h = omega arith
rows_length (suc n) k f h = length-append (each_below n f) (f n) ∙ omega (arith, rows_length n k f h, h n)

map_length : (f : ℕ → ℕ) (xs : List ℕ) → length (map f xs) ≡ length xs
map_length f [] = refl
map_length f (x ∷ xs) = omega (arith, map_length f xs)

pub cells_length : (dims : List Dim) → length (part_cells dims) ≡ cells_of_part dims
cells_length [] = refl
cells_length (d ∷ ds) = rows_length (natural d.subsize) (cells_of_part ds) (λ i. map (λ c. (natural d.start + i) * cells_in ds + c) (part_cells ds)) (λ i. map_length (λ c. (natural d.start + i) * cells_in ds + c) (part_cells ds) ∙ cells_length ds)

count_append : (a b : List Dim) → cells_of_part (a ++ b) ≡ cells_of_part a * cells_of_part b
count_append [] b = omega arith
count_append (d ∷ a) b = let e = count_append a b in grind (arith, e)

count_reverse : (a : List Dim) → cells_of_part (reverse a) ≡ cells_of_part a
count_reverse [] = refl
count_reverse (d ∷ a) =
    ap cells_of_part (reverse_onto a d []) ∙ count_append (reverse a) (d ∷ []) ∙ ap (λ (n : ℕ). n * (natural d.subsize * 1)) (count_reverse a) ∙ omega (arith, mul_comm (cells_of_part a) (natural d.subsize * 1), mul-one (natural d.subsize))

-- the order of the dimensions doesn't change their number
pub cells_slow : (order : ℕ) (dims : List Dim) → cells_of_part (slow_first order dims) ≡ cells_of_part dims
cells_slow zero dims = refl
cells_slow (suc order) dims = count_reverse dims

-- ---- one dimension more, slower than the others

times_suc : (n : ℕ) (d : ℤ) → pos (suc n) *ℤ d ≡ pos n *ℤ d +ℤ d
times_suc n d = grind (arith, ints)

times_add : (n m : ℕ) (d : ℤ) → pos (n + m) *ℤ d ≡ (pos n *ℤ d) +ℤ (pos m *ℤ d)
times_add zero m d = let e : 0 + m ≡ m = omega arith in ap (λ k. pos k *ℤ d) e ∙ omega (arith, ints, zero-*ℤ d)
times_add (suc n) m d =
    let e : suc n + m ≡ suc (n + m) = omega arith in
    ap (λ k. pos k *ℤ d) e ∙ omega (arith, ints, times_suc (n + m) d, times_add n m d, times_suc n d)

times_times : (n m : ℕ) (d : ℤ) → pos (n * m) *ℤ d ≡ pos n *ℤ (pos m *ℤ d)
times_times zero m d = let e : 0 * m ≡ 0 = omega arith in ap (λ k. pos k *ℤ d) e ∙ zero-*ℤ d ∙ sym (zero-*ℤ (pos m *ℤ d))
times_times (suc n) m d =
    let e : suc n * m ≡ n * m + m = omega arith in
    ap (λ k. pos k *ℤ d) e ∙ omega (arith, ints, times_add (n * m) m d, times_times n m d, times_suc n (pos m *ℤ d))

moved_append : (d : ℤ) (xs ys : List Entry) → moved d (xs ++ ys) ≡ moved d xs ++ moved d ys
moved_append d [] ys = refl
moved_append d (Element b e ∷ xs) ys = ap (λ l. Element b (e +ℤ d) ∷ l) (moved_append d xs ys)
moved_append d (LowerMarker e ∷ xs) ys = ap (λ l. LowerMarker (e +ℤ d) ∷ l) (moved_append d xs ys)
moved_append d (UpperMarker e ∷ xs) ys = ap (λ l. UpperMarker (e +ℤ d) ∷ l) (moved_append d xs ys)

sum_swap : (e d f : ℤ) → e +ℤ (d +ℤ f) ≡ e +ℤ f +ℤ d
sum_swap e d f = omega (arith, ints)

-- moved twice
moved_sum : (d f : ℤ) (es : List Entry) → moved (d +ℤ f) es ≡ moved d (moved f es)
moved_sum d f [] = refl
moved_sum d f (Element b e ∷ es) = ap (λ x. Element b x ∷ moved (d +ℤ f) es) (sum_swap e d f) ∙ ap (λ l. Element b (e +ℤ f +ℤ d) ∷ l) (moved_sum d f es)
moved_sum d f (LowerMarker e ∷ es) = ap (λ x. LowerMarker x ∷ moved (d +ℤ f) es) (sum_swap e d f) ∙ ap (λ l. LowerMarker (e +ℤ f +ℤ d) ∷ l) (moved_sum d f es)
moved_sum d f (UpperMarker e ∷ es) = ap (λ x. UpperMarker x ∷ moved (d +ℤ f) es) (sum_swap e d f) ∙ ap (λ l. UpperMarker (e +ℤ f +ℤ d) ∷ l) (moved_sum d f es)

-- cells that begin later are the cells, moved
cells_moved : (T : List Entry) (o : ℕ) (cells : List ℕ) → at_cells T (map (λ c. o + c) cells) ≡ moved (pos o *ℤ extent T) (at_cells T cells)
cells_moved T o [] = refl
cells_moved T o (c ∷ cells) =
    let M = without_markers T in
    let E = extent T in
    ap (λ d. moved d M ++ at_cells T (map (λ k. o + k) cells)) (times_add o c E) ∙ ap (λ l. l ++ at_cells T (map (λ k. o + k) cells)) (moved_sum (pos o *ℤ E) (pos c *ℤ E) M) ∙
    ap (λ l. moved (pos o *ℤ E) (moved (pos c *ℤ E) M) ++ l) (cells_moved T o cells) ∙ sym (moved_append (pos o *ℤ E) (moved (pos c *ℤ E) M) (at_cells T cells))

rows_flat : (g : ℕ → List Entry) (n : ℕ) (f : ℕ → List ℕ) → flat_map g (each_below n f) ≡ each_below n (λ i. flat_map g (f i))
rows_flat g zero f = refl
rows_flat g (suc n) f = flat_map-append g (each_below n f) (f n) ∙ ap (λ es. es ++ flat_map g (f n)) (rows_flat g n f)

rows_same : {X : Type 0} (n : ℕ) (f g : ℕ → List X) → ((i : ℕ) → f i ≡ g i) → each_below n f ≡ each_below n g
rows_same zero f g h = refl
rows_same (suc n) f g h = ap (λ l. l ++ f n) (rows_same n f g h) ∙ ap (λ l. each_below n g ++ l) (h n)

-- The part in one dimension more is the part in the others at each of its places; a step goes over all their cells.
pub one_dimension_more : (T : List Entry) (d : Dim) (ds : List Dim) →
    at_cells T (part_cells (d ∷ ds)) ≡ each_below (natural d.subsize) (λ i. moved (pos (natural d.start + i) *ℤ (pos (cells_in ds) *ℤ extent T)) (at_cells T (part_cells ds)))
one_dimension_more T d ds =
    let E = extent T in
    let k = cells_in ds in
    let cells = part_cells ds in
    rows_flat (λ c. moved (pos c *ℤ E) (without_markers T)) (natural d.subsize) (λ i. map (λ c. (natural d.start + i) * k + c) cells) ∙
    rows_same (natural d.subsize) (λ i. at_cells T (map (λ c. (natural d.start + i) * k + c) cells)) (λ i. moved (pos (natural d.start + i) *ℤ (pos k *ℤ E)) (at_cells T cells)) (λ i. cells_moved T ((natural d.start + i) * k) cells ∙ ap (λ x. moved x (at_cells T cells)) (times_times (natural d.start + i) k E))
