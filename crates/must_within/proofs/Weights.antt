-- The weights of types and of parts that are light.
use Rattle.std.proofs.Common.{◌≡◌, ℕ, zero, suc, ◌+◌, ◌*◌, ◌≤◌, ◌==◌, Bool, true, false, cond, ◌&&◌, List, [], ◌∷◌, Option, Some, None, refl, arith, leb-true}
use Rattle.std.specs.Prelude.{nat_le, filter_map, sum_by, is_some, if◌then◌else◌}
use Rattle.std.specs.List.{list_all, cons_option}
use Rattle.std.proofs.lemmas.Nat.{mul-le}
use Rattle.std.proofs.lemmas.List.Sums.{sum_by-cons}
use Rattle.must_call.specs.declared.field.Side.{Side}
use Rattle.must_call.specs.declared.field.Field.{Field}
use Rattle.must_call.specs.declared.field.Field.TheVariants as field
use Rattle.must_call.specs.declared.body.Body.{Body}
use Rattle.must_call.specs.Values.{Value, Typed}
use Rattle.must_type.specs.Maps.{lower, upper, extent}
use Rattle.must_type.specs.Weights.{is_dense}
use Rattle.must_type.specs.Tree.{TypeTree, weight, as_old}
use Rattle.must_type.specs.Table.{tree_at, predefined, message_weight}
use Rattle.must_rules.specs.Facts.{Facts, Comm}
use Rattle.must_rules.specs.Significant.{comm_of}
use Rattle.must_rules.specs.Breaches.{part_in}
use Rattle.must_rules.specs.UsableParts.{is_usable}
use Rattle.must_rules.specs.Parts.{Part, part_at, part_told, with_both, type_named, datatype_of, part_weight}

pub both : (a b : Bool) → a && b ≡ true → (a ≡ true) × (b ≡ true)
both true b e = (refl, e)
both false b e = let bad : false ≡ true = e in absurd cc

-- ---- types

-- one element takes two ranges at most
abbrev pub is_light : Option TypeTree → Bool
is_light None = true
is_light (Some t) = nat_le (weight t) 2

abbrev pub AreLight : (ℕ → Option TypeTree) → Type 0
AreLight types = (handle : ℕ) → is_light (types handle) ≡ true

light_at : (slots : List (Option TypeTree)) → list_all is_light slots ≡ true → (n : ℕ) → is_light (tree_at slots n) ≡ true
light_at [] all n = refl
light_at (t ∷ slots) all zero = (both (is_light t) (list_all is_light slots) all).0
light_at (t ∷ slots) all (suc n) = light_at slots (both (is_light t) (list_all is_light slots) all).1 n

pub predefined_light : AreLight (tree_at predefined)
unfolding lower upper extent
predefined_light = light_at predefined refl

-- ---- messages

weigh_at : (a b : Bool) (count w : ℕ) → w ≤ 2 → cond a 0 (cond b 1 (count * w)) ≤ 2 * count + 1
weigh_at true b count w few = omega arith
weigh_at false true count w few = omega arith
weigh_at false false count w few = omega (arith, mul-le count w count 2 (omega arith) few)

pub message_few : (count : ℕ) (t : TypeTree) → nat_le (weight t) 2 ≡ true → message_weight count t ≤ 2 * count + 1
message_few count t light = weigh_at (count == 0) (is_dense (as_old t)) count (weight t) (leb-true (weight t) 2 light)

-- ---- parts

-- each part that a call can have with a light type weighs so much at most
abbrev pub IsBounded : Facts → Body → ℕ → Type 0
IsBounded facts b most = (s : Side) (address : ℕ) (c : Comm) (t : TypeTree) → nat_le (weight t) 2 ≡ true → part_weight (part_at facts b s address c t) ≤ most

abbrev is_buffer : Field → Bool
is_buffer (field.Buffer s) = true
is_buffer _ = false

-- so much for each buffer
abbrev pub for_buffers : ℕ → List Typed → ℕ
for_buffers most [] = 0
for_buffers most (t ∷ ts) = cond (is_buffer t.0) (most + for_buffers most ts) (for_buffers most ts)

named_light : (types : ℕ → Option TypeTree) → AreLight types → (o : Option ℕ) → is_light (type_named types o) ≡ true
named_light types light None = refl
named_light types light (Some handle) = light handle

both_few : (facts : Facts) (b : Body) (s : Side) (address most n : ℕ) (c : Option Comm) (t : Option TypeTree) (rest : List Part) → IsBounded facts b most → is_light t ≡ true → sum_by part_weight rest ≤ n
    → sum_by part_weight (cons_option (with_both (part_at facts b s address) c t) rest) ≤ most + n
both_few facts b s address most n None t rest bounded light few = omega (arith, few)
both_few facts b s address most n (Some c) None rest bounded light few = omega (arith, few)
both_few facts b s address most n (Some c) (Some t) rest bounded light few =
    let here = bounded s address c t light in
    omega (arith, few, here, sum_by-cons part_weight (part_at facts b s address c t) rest)

buffer_few : (u : Bool) (facts : Facts) (b : Body) (s : Side) (address most n : ℕ) (c : Option Comm) (t : Option TypeTree) (rest : List Part) → IsBounded facts b most → is_light t ≡ true → sum_by part_weight rest ≤ n
    → sum_by part_weight (cons_option (if u then with_both (part_at facts b s address) c t else None) rest) ≤ most + n
buffer_few true facts b s address most n c t rest bounded light few = both_few facts b s address most n c t rest bounded light few
buffer_few false facts b s address most n c t rest bounded light few = omega (arith, few)

field_few : (facts : Facts) (types : ℕ → Option TypeTree) (b : Body) (most n : ℕ) (f : Field) (v : Value f) (rest : List Part) → IsBounded facts b most → AreLight types → sum_by part_weight rest ≤ n
    → sum_by part_weight (cons_option (part_told facts types b f v) rest) ≤ cond (is_buffer f) (most + n) n
field_few facts types b most n (field.Buffer s) address rest bounded light few =
    buffer_few (is_usable facts (λ h. is_some (types h)) b (part_in b (field.Buffer s))) facts b s address most n (comm_of facts b) (datatype_of types b s) rest bounded (named_light types light _) few
field_few facts types b most n _ v rest bounded light few = few

pub fields_few : (facts : Facts) (types : ℕ → Option TypeTree) (b : Body) (most : ℕ) → IsBounded facts b most → AreLight types → (ts : List Typed)
    → sum_by part_weight (filter_map (λ t. part_told facts types b t.0 t.1) ts) ≤ for_buffers most ts
fields_few facts types b most bounded light [] = omega arith
fields_few facts types b most bounded light (t ∷ ts) =
    field_few facts types b most (for_buffers most ts) t.0 t.1 (filter_map (λ (u : Typed). part_told facts types b u.0 u.1) ts) bounded light (fields_few facts types b most bounded light ts)
