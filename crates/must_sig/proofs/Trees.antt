-- The basic types of a type, from those of its old types.
use Rattle.std.proofs.Common.{◌≡◌, refl, sym, ◌∙◌, ap, subst, arith, ℕ, zero, suc, ◌+◌, ◌*◌, ◌/◌, ◌≤◌, ◌<◌, ◌^◌, List, [], ◌∷◌, ◌++◌, Some, map, length, get_or, take, length-append, mul-div_cancel}
use Rattle.std.specs.Prelude.{slice_get, pos}
use Rattle.must_call.specs.declared.basic.Basic.{Basic}
use Rattle.must_type.specs.declared.construct.StructItem.{StructItem}
use Rattle.must_type.specs.declared.construct.Construct.{Construct}
use Rattle.must_type.specs.declared.construct.Construct.TheVariants.{Struct}
use Rattle.must_type.specs.Maps.{Entry, Element, LowerMarker, UpperMarker, size}
use Rattle.must_type.specs.Constructs.{natural, map_of}
use Rattle.must_type.specs.Allowed.{IsCount, IsAllowed}
use Rattle.must_type.specs.Olds.{HasOneOld}
use Rattle.must_type.specs.ConstructLaws.{one_number}
use Rattle.must_type.specs.Making.{IsMadeBy}
use Rattle.must_type.specs.Tree.{TypeTree, type_map, old_maps}
use Rattle.must_sig.specs.declared.run.Run.{Run}
use Rattle.must_sig.specs.Signatures.{repeated, basics_of, laid}
use Rattle.must_sig.specs.Runs.{AreRuns, AreMerged, StandFor}
use Rattle.must_sig.proofs.Ahead.{repeated_nil}
use Rattle.must_sig.proofs.Periods.{repeated_zero, repeated_length}
use Rattle.must_sig.proofs.Flat.{AreCopies, copies_of_old, bytes, bytes_size, bytes_repeated, bytes_length, bytes_append, no_bytes, repeated_twice, row_basics, basics_struct, row_more, row_front}

pub none_stand : (n : ℕ) (T : List Entry) → size T ≡ 0 → StandFor [] 0 n (basics_of T)
none_stand n T e = record { same = repeated_zero [] ∙ sym (ap (repeated n) (no_bytes T e) ∙ repeated_nil n); short = omega arith; some = omega arith; filled = tt; merged = tt }

pub basic_stands : (n : ℕ) (b : Basic) (T : List Entry) → T ≡ Element b (pos 0) ∷ [] → StandFor (record { basic = b; length = 1 } ∷ []) n n (basics_of T)
basic_stands n b T e =
    let u : basics_of T ≡ b ∷ [] = ap basics_of e in
    let one : length (b ∷ []) ≡ 1 = refl in
    let times : n * 1 ≡ n = omega arith in
    record { same = ap (repeated n) (sym u); short = omega (arith, ap length u, one); some = omega (arith, times); filled = (omega arith, tt); merged = (tt, tt) }

some_basics : (T : List Entry) → 0 < size T → 1 ≤ length (basics_of T)
some_basics [] h = absurd (omega arith)
some_basics (Element b d ∷ T) h = omega arith
some_basics (LowerMarker d ∷ T) h = some_basics T h
some_basics (UpperMarker d ∷ T) h = some_basics T h

at_least : (n k : ℕ) → 1 ≤ k → n ≤ n * k
at_least n k h = grind (arith, h)

pub struct_stands : (n : ℕ) (runs : List Run) (T : List Entry) → laid runs ≡ basics_of T → 0 < size T → AreRuns runs → AreMerged runs → StandFor runs n n (basics_of T)
struct_stands n runs T e p r m =
    record { same = ap (repeated n) e; short = omega (arith, ap length e); some = at_least n (length (laid runs)) (omega (arith, some_basics T p, ap length e)); filled = r; merged = m }

old_copies : (T : List Entry) (maps : List (List Entry)) (O : List Entry) (call : Construct) → T ≡ map_of call maps → HasOneOld call → slice_get maps 0 ≡ Some O → AreCopies (basics_of O) (basics_of T)
old_copies T [] O call e h g = cc
old_copies T (M ∷ maps) O call e h g =
    let same : M ≡ O = cc in
    subst (λ x. AreCopies (basics_of x) (basics_of T)) same (subst (λ x. AreCopies (basics_of M) (basics_of x)) (sym e) (copies_of_old call M maps h))

-- what the walk needs of an old type: how often it stands in the type, by the sizes
pub record IsOld (T O : List Entry) (n count : ℕ) : Type 0 where
  pub sized : 0 < size O
  pub same : repeated count (basics_of O) ≡ repeated n (basics_of T)
  pub less : length (basics_of O) ≤ length (basics_of T)
  pub short : count * size O ≤ 2 ^ 62
  pub fits : count < 2 ^ 64

old_size : (T O : List Entry) (k : ℕ) → basics_of T ≡ repeated k (basics_of O) → size T ≡ k * size O
old_size T O k e = bytes_size T ∙ ap bytes e ∙ bytes_repeated k (basics_of O) ∙ ap (λ m. k * m) (sym (bytes_size O))

positive : (k s m : ℕ) → m ≡ k * s → 0 < m → (0 < k) × (0 < s)
positive zero s m e h = let z : 0 * s ≡ 0 = omega arith in absurd (omega (arith, e, h, z))
positive (suc k) zero m e h = let z : suc k * 0 ≡ 0 = omega arith in absurd (omega (arith, e, h, z))
positive (suc k) (suc s) m e h = (omega arith, omega arith)

bounded : (c s : ℕ) → 0 < s → c * s ≤ 2 ^ 62 → c < 2 ^ 64
bounded c s p h = let l : c * 1 ≤ c * s = grind (arith, p) in omega (arith, l, h)

pub is_old : (t : TypeTree) (O : List Entry) (call : Construct) (n here there : ℕ) → IsMadeBy t call → HasOneOld call → slice_get (old_maps t) 0 ≡ Some O →
    n * size (type_map t) ≤ 2 ^ 62 → here ≡ size (type_map t) → there ≡ size O → 0 < here → IsOld (type_map t) O n (n * (here / there))
is_old t O call n here there m h g s eh et p =
    let T = type_map t in
    let c = old_copies T (old_maps t) O call m.map_is h g in
    let k = c.0 in
    let z = size O in
    let sz : size T ≡ k * z = old_size T O k c.1 in
    let both = positive k z (size T) sz (omega (arith, eh, p)) in
    let q : here / there ≡ k = ap (λ (a : ℕ). a / there) (eh ∙ sz) ∙ ap (λ (b : ℕ). k * z / b) et ∙ mul-div_cancel k both.1 in
    let count : n * (here / there) ≡ n * k = ap (λ (a : ℕ). n * a) q in
    let flat : n * k * z ≡ n * size T = grind (arith, sz) in
    let short : n * (here / there) * z ≤ 2 ^ 62 = omega (arith, s, ap (λ (a : ℕ). a * z) count, flat) in
    let l = length (basics_of O) in
    let more : 1 * l ≤ k * l = grind (arith, both.0) in
    record {
      sized = both.1;
      same = ap (λ (a : ℕ). repeated a (basics_of O)) count ∙ sym (repeated_twice n k (basics_of O)) ∙ ap (repeated n) (sym c.1);
      less = omega (arith, more, ap length c.1, repeated_length k (basics_of O));
      short = short;
      fits = bounded (n * (here / there)) z both.1 short;
    }

pub old_sized : (t : TypeTree) (O : List Entry) (call : Construct) (here : ℕ) → IsMadeBy t call → HasOneOld call → slice_get (old_maps t) 0 ≡ Some O → here ≡ size (type_map t) → 0 < here → 0 < size O
old_sized t O call here m h g e p =
    let c = old_copies (type_map t) (old_maps t) O call m.map_is h g in
    (positive c.0 (size O) (size (type_map t)) (old_size (type_map t) O c.0 c.1) (omega (arith, e, p))).1

pub old_stands : (T O : List Entry) (n count : ℕ) (runs : List Run) (times : ℕ) → IsOld T O n count → StandFor runs times count (basics_of O) → StandFor runs times n (basics_of T)
old_stands T O n count runs times o s = record { same = s.same ∙ o.same; short = omega (arith, s.short, o.less); some = s.some; filled = s.filled; merged = s.merged }

pub has_old : (t : TypeTree) (call : Construct) → IsMadeBy t call → HasOneOld call → 0 < length (old_maps t)
has_old t call m h = omega (arith, m.olds, one_number call h)

-- ---- the blocks of a Struct

numbers_length : (blocks : List StructItem) → length (map (λ it. it.old.number) blocks) ≡ length blocks
numbers_length [] = refl
numbers_length (it ∷ blocks) = omega (arith, numbers_length blocks)

pub has_block : (t : TypeTree) (blocks : List StructItem) (i : ℕ) → IsMadeBy t (Struct blocks) → i < length blocks → i < length (old_maps t)
has_block t blocks i m h = omega (arith, m.olds, numbers_length blocks, h)

counts : (blocks : List StructItem) (i : ℕ) (d : StructItem) → i < length blocks → IsAllowed (Struct blocks) → IsCount (get_or blocks i d).block
counts [] i d h a = absurd (omega arith)
counts (it ∷ blocks) zero d h a = a.0
counts (it ∷ blocks) (suc i) d h a = counts blocks i d (omega arith) a.1

pub block_count : (t : TypeTree) (blocks : List StructItem) (i : ℕ) (d : StructItem) → IsMadeBy t (Struct blocks) → i < length blocks → IsCount (get_or blocks i d).block
block_count t blocks i d m h = counts blocks i d h m.allowed

struct_is : (t : TypeTree) (blocks : List StructItem) → IsMadeBy t (Struct blocks) → basics_of (type_map t) ≡ row_basics blocks (old_maps t)
struct_is t blocks m = ap basics_of m.map_is ∙ basics_struct blocks (old_maps t)

next_block : (t : TypeTree) (O : List Entry) (blocks : List StructItem) (i : ℕ) (d : StructItem) → slice_get (old_maps t) i ≡ Some O → i < length blocks →
    row_basics (take (i + 1) blocks) (old_maps t) ≡ row_basics (take i blocks) (old_maps t) ++ repeated (natural (get_or blocks i d).block) (basics_of O)
next_block t O blocks i d e h = let s : i + 1 ≡ suc i = omega arith in ap (λ (n : ℕ). row_basics (take n blocks) (old_maps t)) s ∙ row_more blocks (old_maps t) i d O h e

-- the bytes of the blocks so far and of one more are at most those of all
front_bytes : (t : TypeTree) (O : List Entry) (blocks : List StructItem) (i n : ℕ) (d : StructItem) → IsMadeBy t (Struct blocks) → slice_get (old_maps t) i ≡ Some O → i < length blocks → n ≡ natural (get_or blocks i d).block →
    bytes (row_basics (take i blocks) (old_maps t) ++ repeated n (basics_of O)) ≤ size (type_map t)
front_bytes t O blocks i n d m e h c =
    let next : row_basics (take i blocks) (old_maps t) ++ repeated n (basics_of O) ≡ row_basics (take (i + 1) blocks) (old_maps t) = ap (λ (k : ℕ). row_basics (take i blocks) (old_maps t) ++ repeated k (basics_of O)) c ∙ sym (next_block t O blocks i d e h) in
    omega (arith, ap bytes next, row_front blocks (old_maps t) (i + 1), ap bytes (struct_is t blocks m), bytes_size (type_map t))

pub block_room : (t : TypeTree) (O : List Entry) (blocks : List StructItem) (i n : ℕ) (d : StructItem) → IsMadeBy t (Struct blocks) → size (type_map t) ≤ 2 ^ 62 → slice_get (old_maps t) i ≡ Some O → i < length blocks → n ≡ natural (get_or blocks i d).block →
    n * size O ≤ 2 ^ 62
block_room t O blocks i n d m s e h c =
    let so_far = row_basics (take i blocks) (old_maps t) in
    omega (arith, s, front_bytes t O blocks i n d m e h c, bytes_append so_far (repeated n (basics_of O)), bytes_repeated n (basics_of O), ap (λ (k : ℕ). n * k) (bytes_size O))

pub runs_room : (t : TypeTree) (O : List Entry) (blocks : List StructItem) (i n : ℕ) (d : StructItem) (xs : List Basic) (runs : List Run) (times : ℕ) → IsMadeBy t (Struct blocks) → size (type_map t) ≤ 2 ^ 62 → slice_get (old_maps t) i ≡ Some O → i < length blocks → n ≡ natural (get_or blocks i d).block →
    xs ≡ row_basics (take i blocks) (old_maps t) → StandFor runs times n (basics_of O) → length xs + times * length (laid runs) ≤ 2 ^ 62
runs_room t O blocks i n d xs runs times m s e h c x st =
    let so_far = row_basics (take i blocks) (old_maps t) in
    let more = repeated n (basics_of O) in
    omega (arith, s, front_bytes t O blocks i n d m e h c, bytes_length (so_far ++ more), length-append so_far more, ap length x, ap length st.same, repeated_length times (laid runs))

pub block_more : (t : TypeTree) (O : List Entry) (blocks : List StructItem) (i n : ℕ) (d : StructItem) (xs : List Basic) (runs : List Run) (times : ℕ) → slice_get (old_maps t) i ≡ Some O → i < length blocks → n ≡ natural (get_or blocks i d).block →
    xs ≡ row_basics (take i blocks) (old_maps t) → StandFor runs times n (basics_of O) → xs ++ repeated times (laid runs) ≡ row_basics (take (i + 1) blocks) (old_maps t)
block_more t O blocks i n d xs runs times e h c x st =
    ap (λ l. l ++ repeated times (laid runs)) x ∙ ap (λ l. row_basics (take i blocks) (old_maps t) ++ l) (st.same ∙ ap (λ (k : ℕ). repeated k (basics_of O)) c) ∙ sym (next_block t O blocks i d e h)

take_whole : (blocks : List StructItem) (i : ℕ) → length blocks ≤ i → take i blocks ≡ blocks
take_whole [] zero h = refl
take_whole [] (suc i) h = refl
take_whole (it ∷ blocks) zero h = absurd (omega arith)
take_whole (it ∷ blocks) (suc i) h = ap (λ l. it ∷ l) (take_whole blocks i (omega arith))

pub all_blocks : (t : TypeTree) (blocks : List StructItem) (i : ℕ) (xs : List Basic) → IsMadeBy t (Struct blocks) → length blocks ≤ i → xs ≡ row_basics (take i blocks) (old_maps t) → xs ≡ basics_of (type_map t)
all_blocks t blocks i xs m h e = e ∙ ap (λ (bs : List StructItem). row_basics bs (old_maps t)) (take_whole blocks i h) ∙ sym (struct_is t blocks m)

pub basics_short : (T : List Entry) → length (basics_of T) ≤ size T
basics_short T = omega (arith, bytes_length (basics_of T), bytes_size T)
