-- The old types of a tree, by their place.
use Rattle.std.proofs.Common.{◌≡◌, refl, sym, ◌∙◌, ap, subst, arith, ℕ, zero, suc, ◌+◌, ◌≤◌, ◌<◌, ◌^◌, max, List, [], ◌∷◌, ◌++◌, Some, None, length, get_or, take, append-nil, append_assoc}
use Rattle.std.proofs.lemmas.Int.{ints}
use Rattle.std.specs.declared.rc.Rc.{Rc}
use Rattle.std.specs.declared.alloc.Global.{Global}
use Rattle.must_type.specs.declared.facts.Facts.{Facts}
use Rattle.must_type.specs.Maps.{Entry, block, extent, IsBounded, lower, upper}
use Rattle.must_type.specs.declared.summary.Summary.{Summary}
use Rattle.must_type.specs.Summaries.{summary, join, shift, repeated, Fits}
use Rattle.must_type.specs.declared.construct.StructItem.{StructItem}
use Rattle.must_type.specs.Constructs.{struct_map, natural}
use Rattle.must_type.specs.Tree.{TypeTree, Trees, Elementary, Made, old_at, height, greatest_height, none, more, row_get, row_length, type_map, type_maps, depth, greatest_depth, weight}
use Rattle.must_type.specs.View.{trees_of}
use Rattle.must_type.specs.Facts.{facts_of, bounds_of, IsSettled, IsOf}
use Rattle.must_type.specs.Making.{IsMakeable}
use Rattle.must_type.proofs.Summed.{summary_alignment, summary-append}
use Rattle.must_type.proofs.Layouts.{block_is, front_fits}
use Rattle.must_type.proofs.Reach.{ordered, within_fits}

abbrev pub Shared : Type 0
Shared = Rc TypeTree Global

row_found : (olds : List Shared) (i : ℕ) (d : Shared) → i < length olds → row_get (trees_of olds) i ≡ Some (get_or olds i d).value
row_found [] i d h = absurd (omega arith)
row_found (t ∷ ts) zero d h = refl
row_found (t ∷ ts) (suc i) d h = row_found ts i d (omega arith)

row_past : (olds : List Shared) (i : ℕ) → length olds ≤ i → row_get (trees_of olds) i ≡ None
row_past [] i h = refl
row_past (t ∷ ts) zero h = absurd (omega arith)
row_past (t ∷ ts) (suc i) h = row_past ts i (omega arith)

pub old_found : (olds now : List Shared) (i : ℕ) (old : Shared) → now ≡ olds → i < length now → old ≡ get_or now i old → row_get (trees_of olds) i ≡ Some old.value
old_found olds now i old e h o = ap (λ (l : List Shared). row_get (trees_of l) i) (sym e) ∙ row_found now i old h ∙ ap (λ (r : Shared). Some r.value) (sym o)

pub old_past : (olds now : List Shared) (i : ℕ) → now ≡ olds → length now ≤ i → row_get (trees_of olds) i ≡ None
old_past olds now i e h = ap (λ (l : List Shared). row_get (trees_of l) i) (sym e) ∙ row_past now i h

pub row_length_is : (olds : List Shared) → row_length (trees_of olds) ≡ length olds
row_length_is [] = refl
row_length_is (t ∷ ts) = omega (arith, row_length_is ts)

pub facts_are_of : (t : TypeTree) → IsOf (type_map t) (facts_of t)
unfolding facts_of bounds_of
facts_are_of t = record { summary_is = refl; extent_is = refl }

extent_near : (es : List Entry) → IsBounded (2 ^ 62) (lower es) → IsBounded (2 ^ 62) (upper es) → IsBounded (2 ^ 63) (extent es)
unfolding extent
extent_near es l u = record { low = omega (arith, ints, l.high, u.low); high = omega (arith, ints, l.low, u.high) }

pub facts_settled : (t : TypeTree) → IsMakeable t → IsSettled (facts_of t)
unfolding facts_of bounds_of
facts_settled t h =
    record { fits = (within_fits t h.reach).0; ordered = ordered (type_map t); aligned = summary_alignment (type_map t); near = extent_near (type_map t) h.reach.lower_near h.reach.upper_near }

pub facts_depth : (t : TypeTree) → (facts_of t).depth ≡ depth t
unfolding facts_of
facts_depth t = refl

pub depth_more : (olds : List Shared) (i : ℕ) (d : Shared) → i < length olds → greatest_depth (trees_of (take (suc i) olds)) ≡ max (greatest_depth (trees_of (take i olds))) (depth (get_or olds i d).value)
depth_more [] i d h = absurd (omega arith)
depth_more (t ∷ ts) zero d h = omega arith
depth_more (t ∷ ts) (suc i) d h = let e = depth_more ts i d (omega arith) in omega (arith, e)

pub struct_more : (blocks : List StructItem) (olds : List Shared) (i : ℕ) (b : StructItem) (d : Shared) → i < length blocks → i < length olds →
    struct_map (take (suc i) blocks) (type_maps (trees_of olds)) ≡ struct_map (take i blocks) (type_maps (trees_of olds)) ++ block (natural (get_or blocks i b).block) (type_map (get_or olds i d).value) (get_or blocks i b).disp
struct_more [] olds i b d h k = absurd (omega arith)
struct_more (it ∷ blocks) [] i b d h k = absurd (omega arith)
struct_more (it ∷ blocks) (t ∷ olds) zero b d h k = append-nil (block (natural it.block) (type_map t.value) it.disp)
struct_more (it ∷ blocks) (t ∷ olds) (suc i) b d h k =
    ap (λ es. block (natural it.block) (type_map t.value) it.disp ++ es) (struct_more blocks olds i b d (omega arith) (omega arith)) ∙ sym (append_assoc (block (natural it.block) (type_map t.value) it.disp) (struct_map (take i blocks) (type_maps (trees_of olds))) (block (natural (get_or blocks i b).block) (type_map (get_or olds i d).value) (get_or blocks i b).disp))

-- the first blocks, and what follows
pub struct_front : (blocks : List StructItem) (olds : List (List Entry)) (i : ℕ) → (rest : List Entry) × (struct_map blocks olds ≡ struct_map (take i blocks) olds ++ rest)
struct_front [] olds zero = ([], refl)
struct_front [] olds (suc i) = ([], refl)
struct_front (it ∷ blocks) olds zero = (struct_map (it ∷ blocks) olds, refl)
struct_front (it ∷ blocks) [] (suc i) = ([], refl)
struct_front (it ∷ blocks) (T ∷ olds) (suc i) =
    let r = struct_front blocks olds i in
    (r.0, ap (λ es. block (natural it.block) T it.disp ++ es) r.1 ∙ sym (append_assoc (block (natural it.block) T it.disp) (struct_map (take i blocks) olds) r.0))

-- one block of a `Struct` more
pub struct_step : (blocks : List StructItem) (olds : List Shared) (i : ℕ) (b : StructItem) (f : Facts) (all one : Summary) → i < length blocks → i < length olds →
    ((d : Shared) → IsOf (type_map (get_or olds i d).value) f) →
    all ≡ summary (struct_map (take i blocks) (type_maps (trees_of olds))) →
    one ≡ shift (get_or blocks i b).disp (repeated (natural (get_or blocks i b).block) f.bounds.extent f.summary) →
    join all one ≡ summary (struct_map (take (i + 1) blocks) (type_maps (trees_of olds)))
struct_step blocks [] i b f all one h k is a o = absurd (omega arith)
struct_step blocks (t ∷ ts) i b f all one h k is a o =
    let olds = t ∷ ts in
    let T = type_map (get_or olds i t).value in
    let it = get_or blocks i b in
    let one_is : one ≡ summary (block (natural it.block) T it.disp) = o ∙ block_is (natural it.block) it.disp T f (is t) in
    let next : i + 1 ≡ suc i = omega arith in
    ap (λ (s : Summary). join s one) a ∙ ap (join (summary (struct_map (take i blocks) (type_maps (trees_of olds))))) one_is ∙
    sym (summary-append (struct_map (take i blocks) (type_maps (trees_of olds))) (block (natural it.block) T it.disp)) ∙
    ap summary (sym (ap (λ (n : ℕ). struct_map (take n blocks) (type_maps (trees_of olds))) next ∙ struct_more blocks olds i b t h k))

pub struct_front_fits : (blocks : List StructItem) (olds : List (List Entry)) (i : ℕ) → Fits (summary (struct_map blocks olds)) → Fits (summary (struct_map (take i blocks) olds))
struct_front_fits blocks olds i h =
    let r = struct_front blocks olds i in
    front_fits (struct_map (take i blocks) olds) r.0 (subst Fits (ap summary r.1) h)

pub depth_step : (olds : List Shared) (i depth_so_far next : ℕ) (f : Facts) → i < length olds → ((d : Shared) → f ≡ facts_of (get_or olds i d).value) →
    depth_so_far ≡ greatest_depth (trees_of (take i olds)) → next ≡ max depth_so_far f.depth → next ≡ greatest_depth (trees_of (take (i + 1) olds))
depth_step [] i so next f h is a n = absurd (omega arith)
depth_step (t ∷ ts) i so next f h is a n =
    let olds = t ∷ ts in
    let e : i + 1 ≡ suc i = omega arith in
    let d : f.depth ≡ depth (get_or olds i t).value = ap (λ (g : Facts). g.depth) (is t) ∙ facts_depth (get_or olds i t).value in
    n ∙ ap (λ (m : ℕ). max m f.depth) a ∙ ap (max (greatest_depth (trees_of (take i olds)))) d ∙ sym (ap (λ (k : ℕ). greatest_depth (trees_of (take k olds))) e ∙ depth_more olds i t h)

pub facts_weight : (t : TypeTree) → (facts_of t).weight ≡ weight t
unfolding facts_of
facts_weight t = refl

row_lower : (ts : Trees) (i : ℕ) (u : TypeTree) → row_get ts i ≡ Some u → height u ≤ greatest_height ts
row_lower none i u e = cc
row_lower (more t ts) zero u e = let same : t ≡ u = cc in omega (arith, ap height same)
row_lower (more t ts) (suc i) u e = let h = row_lower ts i u e in omega (arith, h)

pub old_lower : (t u : TypeTree) (i : ℕ) → old_at t i ≡ Some u → height u < height t
old_lower (Elementary b) u i e = cc
old_lower (Made origin call olds) u i e = let h = row_lower olds i u e in omega (arith, h)
