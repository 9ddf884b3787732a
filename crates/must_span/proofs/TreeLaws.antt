-- From a tree to the map of its call, and how near the ranges of a type lie.
use Rattle.std.proofs.Common.{◌≡◌, refl, sym, ◌∙◌, ap, subst, arith, inl, inr, ℕ, zero, suc, ◌+◌, ◌*◌, ◌<◌, ◌≤◌, ◌^◌, ℤ, pos, negsuc, ◌-ℤ◌, ◌*ℤ◌, ◌≤ℤ◌, List, [], ◌∷◌, ◌++◌, Some, length, get_or, take, append-nil, append_assoc}
use Rattle.std.specs.Prelude.{slice_get}
use Rattle.std.specs.Int.RustNames.{unsigned_abs}
use Rattle.std.specs.List.{AllByRecursion}
use Rattle.std.proofs.lemmas.Int.{ints, unsigned_abs-mul}
use Rattle.must_type.specs.declared.construct.StructItem.{StructItem}
use Rattle.must_type.specs.declared.construct.Construct.{Construct}
use Rattle.must_type.specs.declared.construct.Construct.TheVariants.{Struct, Subarray}
use Rattle.must_type.specs.Maps.{Entry, Element, LowerMarker, UpperMarker, lower, upper, extent, block, IsBounded}
use Rattle.must_type.specs.Constructs.{natural, map_of, struct_map, subarray_map, at_cells, part_cells, slow_first, cells_in}
use Rattle.must_type.specs.ConstructLaws.{one_number}
use Rattle.must_type.specs.Weights.{Old, weigh, weight_of, struct_weight}
use Rattle.must_type.specs.Olds.{HasOneOld}
use Rattle.must_type.specs.Making.{IsMadeBy, IsMakeable}
use Rattle.must_type.specs.Tree.{TypeTree, type_map, weight, as_old, old_maps, old_weights, IsNearEntry, IsWithinReach}
use Rattle.must_span.specs.declared.ranges.AddressRange.{AddressRange}
use Rattle.must_span.specs.declared.laid.Laid.{Laid}
use Rattle.must_span.specs.Ranges.{Covers, IsFilled}
use Rattle.must_span.specs.Bytes.{Holds}
use Rattle.must_span.specs.Steps.{IsNear, IsLaid, AreUsable, Adds, HasRoom, element}
use Rattle.must_span.proofs.LaidLaws.{laid_append}

-- ---- how near the ranges of a type lie

abs_from : (z : ℤ) (m : ℕ) → (pos 0 -ℤ pos m) ≤ℤ z → z ≤ℤ pos m → unsigned_abs z ≤ m
abs_from (pos n) m h g = omega (arith, ints, g)
abs_from (negsuc n) m h g = omega (arith, ints, h)

holds_near : (es : List Entry) → AllByRecursion IsNearEntry es → (x : ℤ) → Holds es x → IsBounded (2 ^ 62) x
holds_near [] p x h = absurd h
holds_near (Element b d ∷ es) p x (inl h) = record { low = omega (arith, ints, h.0, p.0.begins.low); high = omega (arith, ints, h.1, p.0.ends.high) }
holds_near (LowerMarker d ∷ es) p x (inl h) = absurd h
holds_near (UpperMarker d ∷ es) p x (inl h) = absurd h
holds_near (e ∷ es) p x (inr h) = holds_near es p.1 x h

near_by : (rs : List AddressRange) → AllByRecursion IsFilled rs → ((x : ℤ) → Covers rs x → IsBounded (2 ^ 62) x) → AllByRecursion (IsNear (2 ^ 63)) rs
near_by [] f h = tt
near_by (r ∷ rs) f h =
    let low = h r.low (inl (record { from = omega (arith, ints); below = f.0 })) in
    let last = h (r.high -ℤ pos 1) (inl (record { from = omega (arith, ints, f.0); below = omega (arith, ints) })) in
    (record { low = abs_from r.low (2 ^ 63) (omega (arith, ints, low.low)) (omega (arith, ints, low.high)); high = abs_from r.high (2 ^ 63) (omega (arith, ints, last.low)) (omega (arith, ints, last.high)) }, near_by rs f.1 (λ x q. h x (inr q)))

extent_near : (t : TypeTree) → IsWithinReach t → unsigned_abs (extent (type_map t)) ≤ 2 ^ 63
unfolding extent
extent_near t r = abs_from (upper (type_map t) -ℤ lower (type_map t)) (2 ^ 63) (omega (arith, ints, r.lower_near.high, r.upper_near.low)) (omega (arith, ints, r.lower_near.low, r.upper_near.high))

pub usable : (t : TypeTree) (l : Laid) → IsMakeable t → l.extent ≡ extent (type_map t) → IsLaid l.ranges.items (type_map t) (weight t) → AreUsable l
usable t l m e laid = record {
  filled = laid.filled;
  near = near_by l.ranges.items laid.filled (λ x q. holds_near (type_map t) m.reach.entries_near x ((laid.bytes x).0 q));
  extent_near = subst (λ (z : ℤ). unsigned_abs z ≤ 2 ^ 63) (sym e) (extent_near t m.reach);
}

-- ---- a call with one old type

same_map : (call : Construct) (T : List Entry) (rest : List (List Entry)) → HasOneOld call → map_of call (T ∷ rest) ≡ map_of call (T ∷ [])
same_map (Struct blocks) T rest h = absurd h
same_map _ T rest h = refl

same_weight : (call : Construct) (T : Old) (rest : List Old) → HasOneOld call → weight_of call (T ∷ rest) ≡ weight_of call (T ∷ [])
same_weight (Struct blocks) T rest h = absurd h
same_weight _ T rest h = refl

only_map : (call : Construct) (maps : List (List Entry)) (T : List Entry) → HasOneOld call → slice_get maps 0 ≡ Some T → map_of call maps ≡ map_of call (T ∷ [])
only_map call [] T h g = cc
only_map call (M ∷ maps) T h g = let e : M ≡ T = cc in same_map call M maps h ∙ ap (λ x. map_of call (x ∷ [])) e

only_weight : (call : Construct) (olds : List Old) (T : Old) → HasOneOld call → slice_get olds 0 ≡ Some T → weight_of call olds ≡ weight_of call (T ∷ [])
only_weight call [] T h g = cc
only_weight call (M ∷ olds) T h g = let e : M ≡ T = cc in same_weight call M olds h ∙ ap (λ x. weight_of call (x ∷ [])) e

pub made_laid : (t o : TypeTree) (call : Construct) (rs : List AddressRange) → IsMadeBy t call → HasOneOld call → slice_get (old_maps t) 0 ≡ Some (type_map o) → slice_get (old_weights t) 0 ≡ Some (as_old o) →
    IsLaid rs (map_of call (type_map o ∷ [])) (weight_of call (element (type_map o) (weight o) ∷ [])) → IsLaid rs (type_map t) (weight t)
made_laid t o call rs m h g k l =
    let e : type_map t ≡ map_of call (type_map o ∷ []) = m.map_is ∙ only_map call (old_maps t) (type_map o) h g in
    let f : weight t ≡ weight_of call (as_old o ∷ []) = m.weight_is ∙ only_weight call (old_weights t) (as_old o) h k in
    subst (λ es. IsLaid rs es (weight t)) (sym e) (subst (IsLaid rs (map_of call (type_map o ∷ []))) (sym f) l)

pub has_old : (t : TypeTree) (call : Construct) → IsMadeBy t call → HasOneOld call → 0 < length (old_maps t)
has_old t call m h = omega (arith, m.olds, one_number call h)

-- the array of a part within reach is within reach
last_near : (es : List Entry) (lb ub : ℤ) → AllByRecursion IsNearEntry (es ++ LowerMarker lb ∷ UpperMarker ub ∷ []) → IsBounded (2 ^ 62) ub
last_near [] lb ub p = p.1.0.begins
last_near (e ∷ es) lb ub p = last_near es lb ub p.1

room_of : (call : Construct) (T : List Entry) (e : ℤ) → e ≡ extent T → AllByRecursion IsNearEntry (map_of call (T ∷ [])) → HasRoom e call
unfolding subarray_map
room_of (Subarray order dims old) T e is p =
    let near = last_near (at_cells T (part_cells (slow_first order dims))) (pos 0) (pos (cells_in dims) *ℤ extent T) p in
    let far = abs_from (pos (cells_in dims) *ℤ extent T) (2 ^ 62) near.low near.high in
    subst (λ (z : ℤ). cells_in dims * unsigned_abs z ≤ 2 ^ 62) (sym is) (omega (arith, unsigned_abs-mul (pos (cells_in dims)) (extent T), far))
room_of _ T e is p = tt

pub has_room : (t o : TypeTree) (call : Construct) (e : ℤ) → IsMadeBy t call → HasOneOld call → IsMakeable t → slice_get (old_maps t) 0 ≡ Some (type_map o) → e ≡ extent (type_map o) → HasRoom e call
has_room t o call e m h made g is = room_of call (type_map o) e is (subst (AllByRecursion IsNearEntry) (m.map_is ∙ only_map call (old_maps t) (type_map o) h g) made.reach.entries_near)

-- ---- the blocks of a Struct

struct_map_more : (blocks : List StructItem) (maps : List (List Entry)) (i : ℕ) (d : StructItem) (T : List Entry) → slice_get maps i ≡ Some T → i < length blocks →
    struct_map (take (suc i) blocks) maps ≡ struct_map (take i blocks) maps ++ block (natural (get_or blocks i d).block) T (get_or blocks i d).disp
struct_map_more [] maps i d T g h = absurd (omega arith)
struct_map_more (it ∷ blocks) [] i d T g h = cc
struct_map_more (it ∷ blocks) (M ∷ maps) zero d T g h = let e : M ≡ T = cc in append-nil (block (natural it.block) M it.disp) ∙ ap (λ x. block (natural it.block) x it.disp) e
struct_map_more (it ∷ blocks) (M ∷ maps) (suc i) d T g h =
    ap (λ es. block (natural it.block) M it.disp ++ es) (struct_map_more blocks maps i d T g (omega arith)) ∙ sym (append_assoc (block (natural it.block) M it.disp) (struct_map (take i blocks) maps) (block (natural (get_or blocks i d).block) T (get_or blocks i d).disp))

struct_weight_more : (blocks : List StructItem) (olds : List Old) (i : ℕ) (d : StructItem) (T : Old) → slice_get olds i ≡ Some T → i < length blocks → struct_weight (take (suc i) blocks) olds ≡ struct_weight (take i blocks) olds + weigh (natural (get_or blocks i d).block) T
struct_weight_more [] olds i d T g h = absurd (omega arith)
struct_weight_more (it ∷ blocks) [] i d T g h = cc
struct_weight_more (it ∷ blocks) (M ∷ olds) zero d T g h = let e : M ≡ T = cc in omega (arith, ap (weigh (natural it.block)) e)
struct_weight_more (it ∷ blocks) (M ∷ olds) (suc i) d T g h = omega (arith, struct_weight_more blocks olds i d T g (omega arith))

pub struct_more : (t o : TypeTree) (blocks : List StructItem) (i n : ℕ) (at : ℤ) (d : StructItem) (old new : List AddressRange) → slice_get (old_maps t) i ≡ Some (type_map o) → slice_get (old_weights t) i ≡ Some (as_old o) → i < length blocks →
    n ≡ natural (get_or blocks i d).block → at ≡ (get_or blocks i d).disp → IsLaid old (struct_map (take i blocks) (old_maps t)) (struct_weight (take i blocks) (old_weights t)) → Adds old new (block n (type_map o) at) (weigh n (as_old o)) →
    IsLaid new (struct_map (take (i + 1) blocks) (old_maps t)) (struct_weight (take (i + 1) blocks) (old_weights t))
struct_more t o blocks i n at d old new g k h e f l a =
    let s : i + 1 ≡ suc i = omega arith in
    let maps : struct_map (take (i + 1) blocks) (old_maps t) ≡ struct_map (take i blocks) (old_maps t) ++ block n (type_map o) at =
    ap (λ (m : ℕ). struct_map (take m blocks) (old_maps t)) s ∙ struct_map_more blocks (old_maps t) i d (type_map o) g h ∙ ap (λ (m : ℕ). struct_map (take i blocks) (old_maps t) ++ block m (type_map o) (get_or blocks i d).disp) (sym e) ∙ ap (λ (z : ℤ). struct_map (take i blocks) (old_maps t) ++ block n (type_map o) z) (sym f) in
    let weights : struct_weight (take (i + 1) blocks) (old_weights t) ≡ struct_weight (take i blocks) (old_weights t) + weigh n (as_old o) =
    ap (λ (m : ℕ). struct_weight (take m blocks) (old_weights t)) s ∙ struct_weight_more blocks (old_weights t) i d (as_old o) k h ∙ ap (λ (m : ℕ). struct_weight (take i blocks) (old_weights t) + weigh m (as_old o)) (sym e) in
    subst (λ rs. IsLaid rs (struct_map (take (i + 1) blocks) (old_maps t)) (struct_weight (take (i + 1) blocks) (old_weights t))) (sym a.put)
    (subst (λ es. IsLaid (old ++ a.more) es (struct_weight (take (i + 1) blocks) (old_weights t))) (sym maps)
    (subst (IsLaid (old ++ a.more) (struct_map (take i blocks) (old_maps t) ++ block n (type_map o) at)) (sym weights)
    (laid_append old a.more (struct_map (take i blocks) (old_maps t)) (block n (type_map o) at) (struct_weight (take i blocks) (old_weights t)) (weigh n (as_old o)) l a.laid)))

take_whole : (blocks : List StructItem) (i : ℕ) → length blocks ≤ i → take i blocks ≡ blocks
take_whole [] zero h = refl
take_whole [] (suc i) h = refl
take_whole (it ∷ blocks) zero h = absurd (omega arith)
take_whole (it ∷ blocks) (suc i) h = ap (λ l. it ∷ l) (take_whole blocks i (omega arith))

pub struct_end : (t : TypeTree) (blocks : List StructItem) (i : ℕ) (rs : List AddressRange) → IsMadeBy t (Struct blocks) → length blocks ≤ i → IsLaid rs (struct_map (take i blocks) (old_maps t)) (struct_weight (take i blocks) (old_weights t)) → IsLaid rs (type_map t) (weight t)
struct_end t blocks i rs m h l =
    let all = take_whole blocks i h in
    subst (λ es. IsLaid rs es (weight t)) (ap (λ bs. struct_map bs (old_maps t)) all ∙ sym m.map_is) (subst (IsLaid rs (struct_map (take i blocks) (old_maps t))) (ap (λ bs. struct_weight bs (old_weights t)) all ∙ sym m.weight_is) l)
