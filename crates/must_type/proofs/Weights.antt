-- The weights of blocks, rows and parts, which end at 2 ^ 64.
use Rattle.std.proofs.Common.{◌≡◌, refl, sym, ◌∙◌, ap, arith, ℕ, zero, suc, ◌+◌, ◌-◌, ◌*◌, ◌≤◌, ◌<◌, ◌^◌, min, List, [], ◌∷◌, length, get_or, take, mul-le-mul, le_refl, length-drop, ◌⊎◌, inl, inr}
use Rattle.std.proofs.lemmas.Bool.{cases_lt}
use Rattle.must_type.specs.declared.facts.Facts.{Facts}
use Rattle.must_call.specs.declared.items.Dim.{Dim}
use Rattle.must_type.specs.declared.construct.StructItem.{StructItem}
use Rattle.must_type.specs.Maps.{size, extent}
use Rattle.must_type.specs.Constructs.{natural}
use Rattle.must_type.specs.Weights.{Old, old_of, weigh, part_weight, struct_weight}
use Rattle.must_type.specs.Allowed.{IsPart}
use Rattle.must_type.specs.Summaries.{summary}
use Rattle.must_type.specs.Tree.{TypeTree, type_map, weight, weighed}
use Rattle.must_type.specs.View.{trees_of}
use Rattle.must_type.specs.Facts.{facts_of, bounds_of, weighed_facts}
use Rattle.must_type.proofs.Rows.{Shared}
use Rattle.must_type.proofs.Parts.{fastest, fastest_none, fastest_more, natural_positive}

min_more : (a w c : ℕ) → min (min a c + w) c ≡ min (a + w) c
min_more a w c = omega arith

min_cases : (n a c : ℕ) → 1 ≤ n → (a < c) ⊎ (c ≤ a) → min (n * min a c) c ≡ min (n * a) c
min_cases n a c h (inl p) = let e : min a c ≡ a = omega arith in ap (λ m. min (n * m) c) e
min_cases n a c h (inr p) =
    let e : min a c ≡ c = omega arith in
    let f : 1 * c ≤ n * c = mul-le-mul h (le_refl c) in
    let g : n * c ≤ n * a = mul-le-mul (le_refl n) p in
    ap (λ m. min (n * m) c) e ∙ omega (arith, f, g)

pub min_times : (n a c : ℕ) → 1 ≤ n → min (n * min a c) c ≡ min (n * a) c
min_times n a c h = min_cases n a c h (cases_lt a c)

pub weighed_is : (t : TypeTree) → weighed_facts (facts_of t) ≡ record { weight = weight t; size = size (type_map t); extent = extent (type_map t) }
unfolding facts_of bounds_of summary
weighed_is t = refl

pub first_weighed : (olds : List Shared) (f : Facts) → 0 < length olds → ((d : Shared) → f ≡ facts_of (get_or olds 0 d).value) → weighed_facts f ≡ old_of (weighed (trees_of olds))
first_weighed [] f h is = absurd (omega arith)
first_weighed (t ∷ ts) f h is = ap weighed_facts (is t) ∙ weighed_is t.value

struct_weight_more : (blocks : List StructItem) (olds : List Shared) (i : ℕ) (b : StructItem) (d : Shared) → i < length blocks → i < length olds →
    struct_weight (take (suc i) blocks) (weighed (trees_of olds)) ≡ struct_weight (take i blocks) (weighed (trees_of olds)) + weigh (natural (get_or blocks i b).block) (weighed_facts (facts_of (get_or olds i d).value))
struct_weight_more [] olds i b d h k = absurd (omega arith)
struct_weight_more (it ∷ blocks) [] i b d h k = absurd (omega arith)
struct_weight_more (it ∷ blocks) (t ∷ olds) zero b d h k =
    let e = ap (weigh (natural it.block)) (weighed_is t.value) in
    omega (arith, e)
struct_weight_more (it ∷ blocks) (t ∷ olds) (suc i) b d h k = let e = struct_weight_more blocks olds i b d (omega arith) (omega arith) in omega (arith, e)

pub struct_weight_step : (blocks : List StructItem) (olds : List Shared) (i : ℕ) (b : StructItem) (f : Facts) (total one next : ℕ) → i < length blocks → i < length olds →
    ((d : Shared) → f ≡ facts_of (get_or olds i d).value) →
    total ≡ min (struct_weight (take i blocks) (weighed (trees_of olds))) (2 ^ 64) →
    one ≡ weigh (natural (get_or blocks i b).block) (weighed_facts f) →
    next ≡ min (total + one) (2 ^ 64) →
    next ≡ min (struct_weight (take (i + 1) blocks) (weighed (trees_of olds))) (2 ^ 64)
struct_weight_step blocks [] i b f total one next h k is a o n = absurd (omega arith)
struct_weight_step blocks (t ∷ ts) i b f total one next h k is a o n =
    let olds = t ∷ ts in
    let e : i + 1 ≡ suc i = omega arith in
    let so_far = struct_weight (take i blocks) (weighed (trees_of olds)) in
    let m : struct_weight (take (i + 1) blocks) (weighed (trees_of olds)) ≡ so_far + one =
    ap (λ (j : ℕ). struct_weight (take j blocks) (weighed (trees_of olds))) e ∙ struct_weight_more blocks olds i b t h k ∙ ap (λ (g : Facts). so_far + weigh (natural (get_or blocks i b).block) (weighed_facts g)) (sym (is t)) ∙ ap (λ (w : ℕ). so_far + w) (sym o) in
    n ∙ ap (λ (w : ℕ). min (w + one) (2 ^ 64)) a ∙ min_more so_far one (2 ^ 64) ∙ ap (λ (w : ℕ). min w (2 ^ 64)) (sym m)

pub part_weight_first : (slow : List Dim) (dim : Dim) (T : Old) → 0 < length slow → ((d : Dim) → dim ≡ get_or slow (length slow - 1 - 0) d) → part_weight (fastest slow 1) T ≡ weigh (natural dim.subsize) T
part_weight_first slow dim T h is =
    ap (λ (ds : List Dim). part_weight ds T) (fastest_more slow 0 dim h ∙ ap (λ (d : Dim). d ∷ fastest slow 0) (sym (is dim)) ∙ ap (λ (ds : List Dim). dim ∷ ds) (fastest_none slow))

part_weight_more : (d : Dim) (ds : List Dim) (T : Old) → 1 ≤ length ds → part_weight (d ∷ ds) T ≡ natural d.subsize * part_weight ds T
part_weight_more d [] T h = absurd (omega arith)
part_weight_more d (e ∷ ds) T h = refl

pub part_weight_step : (slow : List Dim) (k : ℕ) (dim : Dim) (T : Old) (total next : ℕ) → 1 ≤ k → k < length slow → ((d : Dim) → dim ≡ get_or slow (length slow - 1 - k) d) → IsPart dim →
    total ≡ min (part_weight (fastest slow k) T) (2 ^ 64) → next ≡ min (natural dim.subsize * total) (2 ^ 64) → next ≡ min (part_weight (fastest slow (k + 1)) T) (2 ^ 64)
part_weight_step slow k dim T total next one below is p a n =
    let ds = fastest slow k in
    let l : 1 ≤ length ds = omega (arith, length-drop (length slow - k) slow) in
    let m : part_weight (fastest slow (k + 1)) T ≡ natural dim.subsize * part_weight ds T =
    ap (λ (es : List Dim). part_weight es T) (fastest_more slow k dim below ∙ ap (λ (d : Dim). d ∷ ds) (sym (is dim))) ∙ part_weight_more dim ds T l in
    n ∙ ap (λ (w : ℕ). min (natural dim.subsize * w) (2 ^ 64)) a ∙ min_times (natural dim.subsize) (part_weight ds T) (2 ^ 64) (natural_positive dim.subsize p.subsize) ∙ ap (λ (w : ℕ). min w (2 ^ 64)) (sym m)
