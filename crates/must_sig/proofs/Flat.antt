-- The basic types of the maps that calls make.
use Rattle.std.proofs.Common.{◌≡◌, refl, sym, ◌∙◌, ap, arith, ℕ, zero, suc, ◌+◌, ◌*◌, ◌≤◌, ◌<◌, List, [], ◌∷◌, ◌++◌, Some, length, get_or, take, append_assoc, append-nil}
use Rattle.std.specs.Prelude.{flat_map, slice_get, ℤ, pos, ◌+ℤ◌, ◌*ℤ◌}
use Rattle.must_call.specs.declared.basic.Basic.{Basic}
use Rattle.must_call.specs.declared.basic.Basic.TheVariants.{Char}
use Rattle.must_call.specs.Basics.{size_of}
use Rattle.must_type.specs.declared.construct.StructItem.{StructItem}
use Rattle.must_type.specs.declared.construct.Construct.{Construct}
use Rattle.must_type.specs.declared.construct.Construct.TheVariants.{Contiguous, Vector, Hvector, Indexed, Hindexed, IndexedBlock, HindexedBlock, Struct, Dup, Resized, Subarray}
use Rattle.must_type.specs.Maps.{Entry, Element, LowerMarker, UpperMarker, size, moved, without_markers, each_below, block, extent}
use Rattle.must_type.specs.MapLaws.{no_basics}
use Rattle.must_type.specs.Constructs.{natural, map_of, struct_map, vector_map, hvector_map, indexed_map, hindexed_map, indexed_block_map, hindexed_block_map, resized_map, subarray_map, part_cells, slow_first, cells_in}
use Rattle.must_type.specs.Olds.{HasOneOld}
use Rattle.must_sig.specs.Signatures.{repeated, basics_of}
use Rattle.must_sig.proofs.Periods.{repeated_suc, repeated_zero, repeated_more}

pub basics_append : (xs ys : List Entry) → basics_of (xs ++ ys) ≡ basics_of xs ++ basics_of ys
basics_append [] ys = refl
basics_append (Element b d ∷ xs) ys = ap (λ l. b ∷ l) (basics_append xs ys)
basics_append (LowerMarker d ∷ xs) ys = basics_append xs ys
basics_append (UpperMarker d ∷ xs) ys = basics_append xs ys

basics_moved : (d : ℤ) (es : List Entry) → basics_of (moved d es) ≡ basics_of es
basics_moved d [] = refl
basics_moved d (Element b e ∷ es) = ap (λ l. b ∷ l) (basics_moved d es)
basics_moved d (LowerMarker e ∷ es) = basics_moved d es
basics_moved d (UpperMarker e ∷ es) = basics_moved d es

basics_unmarked : (es : List Entry) → basics_of (without_markers es) ≡ basics_of es
basics_unmarked [] = refl
basics_unmarked (Element b e ∷ es) = ap (λ l. b ∷ l) (basics_unmarked es)
basics_unmarked (LowerMarker e ∷ es) = basics_unmarked es
basics_unmarked (UpperMarker e ∷ es) = basics_unmarked es

pub repeated_one : {X : Type 0} (xs : List X) → repeated 1 xs ≡ xs
repeated_one xs = repeated_suc 0 xs ∙ ap (λ l. xs ++ l) (repeated_zero xs) ∙ append-nil xs

pub repeated_add : {X : Type 0} (m n : ℕ) (xs : List X) → repeated m xs ++ repeated n xs ≡ repeated (m + n) xs
repeated_add zero n xs = let e : n ≡ 0 + n = omega arith in ap (λ l. l ++ repeated n xs) (repeated_zero xs) ∙ ap (λ k. repeated k xs) e
repeated_add (suc m) n xs =
    let e : suc (m + n) ≡ suc m + n = omega arith in
    ap (λ l. l ++ repeated n xs) (repeated_suc m xs) ∙ append_assoc xs (repeated m xs) (repeated n xs) ∙ ap (λ l. xs ++ l) (repeated_add m n xs) ∙ sym (repeated_suc (m + n) xs) ∙ ap (λ k. repeated k xs) e

pub repeated_twice : {X : Type 0} (m n : ℕ) (xs : List X) → repeated m (repeated n xs) ≡ repeated (m * n) xs
repeated_twice zero n xs = let e : 0 ≡ 0 * n = omega arith in repeated_zero (repeated n xs) ∙ sym (repeated_zero xs) ∙ ap (λ k. repeated k xs) e
repeated_twice (suc m) n xs =
    let e : n + m * n ≡ suc m * n = omega arith in
    repeated_suc m (repeated n xs) ∙ ap (λ l. repeated n xs ++ l) (repeated_twice m n xs) ∙ repeated_add n (m * n) xs ∙ ap (λ k. repeated k xs) e

-- some number of copies
abbrev pub AreCopies : List Basic → List Basic → Type 0
AreCopies u xs = (k : ℕ) × (xs ≡ repeated k u)

copies_append : (u : List Basic) (xs ys : List Entry) → AreCopies u (basics_of xs) → AreCopies u (basics_of ys) → AreCopies u (basics_of (xs ++ ys))
copies_append u xs ys (k, e) (n, f) = (k + n, basics_append xs ys ∙ ap (λ l. l ++ basics_of ys) e ∙ ap (λ l. repeated k u ++ l) f ∙ repeated_add k n u)

copies_none : (u : List Basic) → AreCopies u []
copies_none u = (0, sym (repeated_zero u))

copies_one : (u xs : List Basic) → xs ≡ u → AreCopies u xs
copies_one u xs e = (1, e ∙ sym (repeated_one u))

copies_each : (u : List Basic) (n : ℕ) (f : ℕ → List Entry) → ((i : ℕ) → AreCopies u (basics_of (f i))) → AreCopies u (basics_of (each_below n f))
copies_each u zero f h = copies_none u
copies_each u (suc n) f h = copies_append u (each_below n f) (f n) (copies_each u n f h) (h n)

copies_flat : {A : Type 0} (u : List Basic) (f : A → List Entry) (items : List A) → ((a : A) → AreCopies u (basics_of (f a))) → AreCopies u (basics_of (flat_map f items))
copies_flat u f [] h = copies_none u
copies_flat u f (a ∷ items) h = copies_append u (f a) (flat_map f items) (h a) (copies_flat u f items h)

pub basics_block : (n : ℕ) (T : List Entry) (d : ℤ) → basics_of (block n T d) ≡ repeated n (basics_of T)
unfolding block
basics_block zero T d = sym (repeated_zero (basics_of T))
basics_block (suc n) T d =
    let at = d +ℤ pos n *ℤ extent T in
    basics_append (block n T d) (moved at T) ∙ ap (λ l. l ++ basics_of (moved at T)) (basics_block n T d) ∙ ap (λ l. repeated n (basics_of T) ++ l) (basics_moved at T) ∙ sym (repeated_more n (basics_of T))

copies_block : (n : ℕ) (T : List Entry) (d : ℤ) → AreCopies (basics_of T) (basics_of (block n T d))
copies_block n T d = (n, basics_block n T d)

copies_bare : (T : List Entry) (d : ℤ) → AreCopies (basics_of T) (basics_of (moved d (without_markers T)))
copies_bare T d = copies_one (basics_of T) (basics_of (moved d (without_markers T))) (basics_moved d (without_markers T) ∙ basics_unmarked T)

-- what a call makes of one old type is some number of copies of it
pub copies_of_old : (call : Construct) (T : List Entry) (Ts : List (List Entry)) → HasOneOld call → AreCopies (basics_of T) (basics_of (map_of call (T ∷ Ts)))
unfolding vector_map hvector_map indexed_map hindexed_map indexed_block_map hindexed_block_map resized_map subarray_map
copies_of_old (Contiguous count old) T Ts h = copies_block _ T _
copies_of_old (Vector count l stride old) T Ts h = copies_each (basics_of T) (natural count) (λ i. block (natural l) T (pos i *ℤ (stride *ℤ extent T))) (λ i. copies_block (natural l) T (pos i *ℤ (stride *ℤ extent T)))
copies_of_old (Hvector count l stride old) T Ts h = copies_each (basics_of T) (natural count) (λ i. block (natural l) T (pos i *ℤ stride)) (λ i. copies_block (natural l) T (pos i *ℤ stride))
copies_of_old (Indexed blocks old) T Ts h = copies_flat (basics_of T) _ blocks (λ it. copies_block _ T _)
copies_of_old (Hindexed blocks old) T Ts h = copies_flat (basics_of T) _ blocks (λ it. copies_block _ T _)
copies_of_old (IndexedBlock l disps old) T Ts h = copies_flat (basics_of T) _ disps (λ it. copies_block _ T _)
copies_of_old (HindexedBlock l disps old) T Ts h = copies_flat (basics_of T) _ disps (λ it. copies_block _ T _)
copies_of_old (Struct blocks) T Ts h = absurd h
copies_of_old (Dup old) T Ts h = copies_one (basics_of T) (basics_of T) refl
copies_of_old (Resized lb extent old) T Ts h = copies_append (basics_of T) (without_markers T) _ (copies_one (basics_of T) (basics_of (without_markers T)) (basics_unmarked T)) (copies_none (basics_of T))
copies_of_old (Subarray order dims old) T Ts h =
    let part = λ (c : ℕ). moved (pos c *ℤ extent T) (without_markers T) in
    let cells = part_cells (slow_first order dims) in
    copies_append (basics_of T) (flat_map part cells) (LowerMarker (pos 0) ∷ UpperMarker (pos (cells_in dims) *ℤ extent T) ∷ []) (copies_flat (basics_of T) part cells (λ c. copies_bare T (pos c *ℤ extent T))) (copies_none (basics_of T))

-- The bytes of basic types.
abbrev pub bytes : List Basic → ℕ
bytes [] = 0
bytes (b ∷ bs) = size_of b + bytes bs

some_bytes : (b : Basic) → 1 ≤ size_of b
some_bytes Char = omega arith
some_bytes _ = omega arith

pub bytes_length : (bs : List Basic) → length bs ≤ bytes bs
bytes_length [] = omega arith
bytes_length (b ∷ bs) = omega (arith, some_bytes b, bytes_length bs)

pub bytes_append : (xs ys : List Basic) → bytes (xs ++ ys) ≡ bytes xs + bytes ys
bytes_append [] ys = omega arith
bytes_append (x ∷ xs) ys = omega (arith, bytes_append xs ys)

pub bytes_repeated : (n : ℕ) (xs : List Basic) → bytes (repeated n xs) ≡ n * bytes xs
bytes_repeated zero xs = ap bytes (repeated_zero xs) ∙ omega arith
bytes_repeated (suc n) xs = ap bytes (repeated_suc n xs) ∙ bytes_append xs (repeated n xs) ∙ omega (arith, bytes_repeated n xs)

pub bytes_size : (es : List Entry) → size es ≡ bytes (basics_of es)
bytes_size [] = refl
bytes_size (Element b d ∷ es) = ap (λ n. size_of b + n) (bytes_size es)
bytes_size (LowerMarker d ∷ es) = bytes_size es
bytes_size (UpperMarker d ∷ es) = bytes_size es

pub no_bytes : (es : List Entry) → size es ≡ 0 → basics_of es ≡ []
no_bytes es h = sym (basics_unmarked es) ∙ ap basics_of (no_basics es h)

-- The basic types of the blocks of a `Struct`.
abbrev pub row_basics : List StructItem → List (List Entry) → List Basic
row_basics [] maps = []
row_basics (it ∷ blocks) [] = []
row_basics (it ∷ blocks) (T ∷ maps) = repeated (natural it.block) (basics_of T) ++ row_basics blocks maps

pub basics_struct : (blocks : List StructItem) (maps : List (List Entry)) → basics_of (struct_map blocks maps) ≡ row_basics blocks maps
basics_struct [] maps = refl
basics_struct (it ∷ blocks) [] = refl
basics_struct (it ∷ blocks) (T ∷ maps) =
    basics_append (block (natural it.block) T it.disp) (struct_map blocks maps) ∙ ap (λ l. l ++ basics_of (struct_map blocks maps)) (basics_block (natural it.block) T it.disp) ∙ ap (λ l. repeated (natural it.block) (basics_of T) ++ l) (basics_struct blocks maps)

pub row_more : (blocks : List StructItem) (maps : List (List Entry)) (i : ℕ) (d : StructItem) (T : List Entry) → i < length blocks → slice_get maps i ≡ Some T →
    row_basics (take (suc i) blocks) maps ≡ row_basics (take i blocks) maps ++ repeated (natural (get_or blocks i d).block) (basics_of T)
row_more [] maps i d T h e = absurd (omega arith)
row_more (it ∷ blocks) [] i d T h e = cc
row_more (it ∷ blocks) (S ∷ maps) zero d T h e = let same : S ≡ T = cc in append-nil (repeated (natural it.block) (basics_of S)) ∙ ap (λ x. repeated (natural it.block) (basics_of x)) same
row_more (it ∷ blocks) (S ∷ maps) (suc i) d T h e =
    let u = repeated (natural it.block) (basics_of S) in
    ap (λ l. u ++ l) (row_more blocks maps i d T (omega arith) e) ∙ sym (append_assoc u (row_basics (take i blocks) maps) (repeated (natural (get_or blocks i d).block) (basics_of T)))

-- the first blocks have no more bytes than all
pub row_front : (blocks : List StructItem) (maps : List (List Entry)) (i : ℕ) → bytes (row_basics (take i blocks) maps) ≤ bytes (row_basics blocks maps)
row_front [] maps zero = omega arith
row_front [] maps (suc i) = omega arith
row_front (it ∷ blocks) maps zero = omega arith
row_front (it ∷ blocks) [] (suc i) = omega arith
row_front (it ∷ blocks) (T ∷ maps) (suc i) =
    let u = repeated (natural it.block) (basics_of T) in
    omega (arith, row_front blocks maps i, bytes_append u (row_basics (take i blocks) maps), bytes_append u (row_basics blocks maps))
