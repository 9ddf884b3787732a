-- A rule of arguments finds one thing at the most at a part of a call.
use Rattle.std.proofs.Common.{◌≡◌, ℕ, suc, ◌+◌, ◌<◌, ◌≤◌, ℤ, pos, Bool, true, false, cond, ◌&&◌, ◌||◌, not, List, [], ◌∷◌, ◌++◌, length, Option, Some, None, refl, sym, ap, subst, ◌∙◌, inl, inr, arith, nat_eq, nat_lt, eq-eqb, lt-ltb, option_map}
use Rattle.std.specs.Prelude.{◌⊎◌}
use Rattle.std.specs.List.{list_any}
use Rattle.std.specs.Set.{is_member}
use Rattle.std.proofs.lemmas.List.{append-nil}
use Rattle.must_base.specs.Listing.{Has}
use Rattle.must_call.specs.declared.kind.Kind.{Kind}
use Rattle.must_call.specs.declared.life.Life.{Life}
use Rattle.must_call.specs.declared.life.Life.TheVariants.{Never, Live, Freed, Predefined}
use Rattle.must_call.specs.declared.field.Int.TheVariants as int
use Rattle.must_call.specs.declared.field.Ints.TheVariants as ints
use Rattle.must_call.specs.declared.field.Item.TheVariants as item
use Rattle.must_call.specs.declared.field.Field.{Field}
use Rattle.must_call.specs.declared.field.Field.TheVariants.{I32, Items}
use Rattle.must_call.specs.declared.body.Body.{Body}
use Rattle.must_call.specs.declared.body.Body.TheVariants.{Frame, Point, Finish, Derive, Object, Collective, Persist, Started}
use Rattle.must_call.specs.declared.frame.Frame.TheVariants.{Init}
use Rattle.must_call.specs.declared.point.Point.TheVariants.{Send}
use Rattle.must_call.specs.declared.finish.Finish.TheVariants.{Wait}
use Rattle.must_call.specs.declared.derive.Derive.TheVariants.{TypeContiguous}
use Rattle.must_call.specs.declared.object.Object.TheVariants.{OpCreate}
use Rattle.must_call.specs.declared.collective.Collective.TheVariants.{Barrier}
use Rattle.must_call.specs.declared.persist.Persist.TheVariants.{Start}
use Rattle.must_call.specs.declared.started.Started.TheVariants.{Ibarrier}
use Rattle.must_call.specs.Values.{Value, Typed}
use Rattle.must_call.specs.Bodies.{inputs_of}
use Rattle.must_call.specs.Kinds.{kind_of}
use Rattle.must_call.specs.Handles.{ClassedHandle, typed_handles}
use Rattle.must_find.specs.declared.rule.Rule.{Rule}
use Rattle.must_find.specs.declared.rule.Rule.TheVariants.{A1, A2, A3, A4, A5, A6, A7, H1, H2, H3, H4, H5}
use Rattle.must_find.specs.Rules.{rule_place}
use Rattle.must_rules.specs.Making.{started_of}
use Rattle.must_rules.specs.Facts.{Facts, size_of_comm}
use Rattle.must_rules.specs.Significant.{side, comm_of, significant_in}
use Rattle.must_rules.specs.Breaches.{Breach, breach, breach_with, told, sends, part_of, asked_from, same_rule}
use Rattle.must_rules.specs.ArgumentRules.{negative_count, peer_outside, tag_outside, root_outside, wrong_block, wrong_color, index_told, wrong_member, wrong_ranks}
use Rattle.must_rules.specs.ArgumentHandles.{StartOf, may_complete, frees_object, is_of_buffer, unknown, predefined, by_life, wrong_handle, wrong_handles, active, active_from, active_requests}
use Rattle.must_rules.specs.Clear.{wrong_value, wrong_field, wrong_arguments, is_clear, argument_breaches}

-- ---- lists with one thing at the most at a rule and a part

abbrev AreOnce : List Breach → Type 0
AreOnce bs = (x y : Breach) → Has bs x → Has bs y → x.rule ≡ y.rule → x.part ≡ y.part → x ≡ y

abbrev AreApart : List Breach → List Breach → Type 0
AreApart xs ys = (x y : Breach) → Has xs x → Has ys y → x.rule ≡ y.rule → x.part ≡ y.part → ⊥

has_append : (xs ys : List Breach) (z : Breach) → Has (xs ++ ys) z → Has xs z ⊎ Has ys z
has_append [] ys z h = inr h
has_append (x ∷ xs) ys z (inl e) = inl (inl e)
has_append (x ∷ xs) ys z (inr h) = elim (has_append xs ys z h) [ inl there ↦ inl (inr there) | inr there ↦ inr there ]

once_append : (xs ys : List Breach) → AreOnce xs → AreOnce ys → AreApart xs ys → AreOnce (xs ++ ys)
once_append xs ys a b apart = λ x y hx hy r p.
    elim (has_append xs ys x hx) [
      | inl ax ↦ elim (has_append xs ys y hy) [ inl ay ↦ a x y ax ay r p | inr ay ↦ absurd (apart x y ax ay r p) ]
      | inr ax ↦ elim (has_append xs ys y hy) [ inl ay ↦ absurd (apart y x ay ax (sym r) (sym p)) | inr ay ↦ b x y ax ay r p ]
    ]

-- one breach at the most, of which P holds
record IsOne (P : Breach → Type 0) (bs : List Breach) : Type 0 where
  one : (x y : Breach) → Has bs x → Has bs y → x ≡ y
  each : (x : Breach) → Has bs x → P x

nothing : (P : Breach → Type 0) → IsOne P []
nothing P = record { one = λ x y h k. absurd h; each = λ x h. absurd h }

single : (P : Breach → Type 0) (b : Breach) → P b → IsOne P (b ∷ [])
single P b p = record {
  one = λ x y h k. elim h [ inl e ↦ elim k [ inl f ↦ e ∙ sym f | inr none ↦ absurd none ] | inr none ↦ absurd none ];
  each = λ x h. elim h [ inl e ↦ subst P (sym e) p | inr none ↦ absurd none ];
}

one_is_once : (P : Breach → Type 0) (bs : List Breach) → IsOne P bs → AreOnce bs
one_is_once P bs o = λ x y h k r p. o.one x y h k

-- ---- sorts of rules, so that breaches of two sorts are never of one rule

abbrev sort : Rule → ℕ
sort A1 = 1
sort A2 = 1
sort A3 = 1
sort A4 = 1
sort A5 = 1
sort A7 = 1
sort A6 = 2
sort H1 = 3
sort H2 = 3
sort H3 = 3
sort H4 = 3
sort H5 = 4
sort _ = 0

-- the rule on values that a field may break
abbrev rule_asked : Field → Option Rule
rule_asked (I32 (int.Count s)) = Some A1
rule_asked (I32 int.Copies) = Some A1
rule_asked (Items (item.Amount s)) = Some A1
rule_asked (Items (item.Int ints.Counts)) = Some A1
rule_asked (I32 int.Dest) = Some A2
rule_asked (I32 int.Source) = Some A2
rule_asked (I32 (int.Tag s)) = Some A3
rule_asked (I32 int.Root) = Some A4
rule_asked (I32 int.Block) = Some A5
rule_asked (Items item.Block) = Some A5
rule_asked (Items item.ByteBlock) = Some A5
rule_asked (Items item.StructBlock) = Some A5
rule_asked (Items item.Dim) = Some A5
rule_asked (I32 int.Color) = Some A7
rule_asked _ = None

abbrev sort_asked : Option Rule → ℕ
sort_asked None = 1
sort_asked (Some r) = sort r

asked_sort : (f : Field) → sort_asked (rule_asked f) ≡ 1
asked_sort (I32 int.Color) = refl
asked_sort (Items item.Dim) = refl
asked_sort (Items (item.Int ints.Counts)) = refl
asked_sort _ = refl

sort_of : (f : Field) (r : Rule) → rule_asked f ≡ Some r → sort r ≡ 1
sort_of f r e = ap sort_asked (sym e) ∙ asked_sort f

apart_sorts : (m n : ℕ) (x y : Breach) → sort x.rule ≡ m → sort y.rule ≡ n → x.rule ≡ y.rule → m ≡ n
apart_sorts m n x y a b e = sym a ∙ ap sort e ∙ b

-- ---- values

record IsOfField (f : Field) (part : ℕ) (x : Breach) : Type 0 where
  asked : rule_asked f ≡ Some x.rule
  part_is : x.part ≡ part

told_one : (f : Field) (rule : Rule) (part : ℕ) (o : Option ℤ) → rule_asked f ≡ Some rule → IsOne (IsOfField f part) (told rule part o)
told_one f rule part None e = nothing (IsOfField f part)
told_one f rule part (Some z) e = single (IsOfField f part) (breach rule part z) (record { asked = e; part_is = refl })

told_front : (f : Field) (rule : Rule) (part : ℕ) (o : Option ℤ) → rule_asked f ≡ Some rule → IsOne (IsOfField f part) (told rule part o ++ [])
told_front f rule part o e = subst (IsOne (IsOfField f part)) (sym (append-nil (told rule part o))) (told_one f rule part o e)

-- a field breaks one rule at the most
value_one : (tag_ub : ℤ) (n : Option ℕ) (part : ℕ) (f : Field) (v : Value f) → IsOne (IsOfField f part) (wrong_value tag_ub n part (f, v))
value_one tag_ub n part (I32 (int.Count s)) v = told_front (I32 (int.Count s)) A1 part (negative_count n (I32 (int.Count s)) v) refl
value_one tag_ub n part (I32 int.Copies) v = told_front (I32 int.Copies) A1 part (negative_count n (I32 int.Copies) v) refl
value_one tag_ub n part (Items (item.Amount s)) v = told_front (Items (item.Amount s)) A1 part (negative_count n (Items (item.Amount s)) v) refl
value_one tag_ub n part (Items (item.Int ints.Counts)) v = told_front (Items (item.Int ints.Counts)) A1 part (negative_count n (Items (item.Int ints.Counts)) v) refl
value_one tag_ub n part (I32 int.Dest) v = told_front (I32 int.Dest) A2 part (peer_outside n (I32 int.Dest) v) refl
value_one tag_ub n part (I32 int.Source) v = told_front (I32 int.Source) A2 part (peer_outside n (I32 int.Source) v) refl
value_one tag_ub n part (I32 (int.Tag s)) v = told_front (I32 (int.Tag s)) A3 part (tag_outside tag_ub (I32 (int.Tag s)) v) refl
value_one tag_ub n part (I32 int.Root) v = told_front (I32 int.Root) A4 part (root_outside n (I32 int.Root) v) refl
value_one tag_ub n part (I32 int.Block) v = told_front (I32 int.Block) A5 part (wrong_block (I32 int.Block) v) refl
value_one tag_ub n part (Items item.Block) v = told_front (Items item.Block) A5 part (wrong_block (Items item.Block) v) refl
value_one tag_ub n part (Items item.ByteBlock) v = told_front (Items item.ByteBlock) A5 part (wrong_block (Items item.ByteBlock) v) refl
value_one tag_ub n part (Items item.StructBlock) v = told_front (Items item.StructBlock) A5 part (wrong_block (Items item.StructBlock) v) refl
value_one tag_ub n part (Items item.Dim) v = told_front (Items item.Dim) A5 part (wrong_block (Items item.Dim) v) refl
value_one tag_ub n part (I32 int.Color) v = told_one (I32 int.Color) A7 part (wrong_color (I32 int.Color) v) refl
value_one tag_ub n part f v = nothing (IsOfField f part)

-- ---- handles

record IsOfHandle (part : ℕ) (x : Breach) : Type 0 where
  sort_is : sort x.rule ≡ 3
  part_is : x.part ≡ part

unless_handle : (part : ℕ) (b : Bool) (x : Breach) → IsOfHandle part x → IsOne (IsOfHandle part) (cond b [] (x ∷ []))
unless_handle part true x p = nothing (IsOfHandle part)
unless_handle part false x p = single (IsOfHandle part) x p

if_handle : (part : ℕ) (b : Bool) (x : Breach) → IsOfHandle part x → IsOne (IsOfHandle part) (cond b (x ∷ []) [])
if_handle part true x p = single (IsOfHandle part) x p
if_handle part false x p = nothing (IsOfHandle part)

ended : (P : Breach → Type 0) (bs : List Breach) → IsOne P bs → IsOne P (bs ++ [])
ended P bs o = subst (IsOne P) (sym (append-nil bs)) o

life_one : (facts : Facts) (k : Kind) (of_buffer : Bool) (part h : ℕ) (life : Life) → IsOne (IsOfHandle part) (by_life facts k of_buffer part h life)
life_one facts k of_buffer part h Never =
    ended (IsOfHandle part) (unknown k part h Never) (unless_handle part (may_complete k && nat_eq h 0) (breach H1 part (pos h)) (record { sort_is = refl; part_is = refl }))
life_one facts k of_buffer part h (Freed made freed) = single (IsOfHandle part) (breach_with H2 part freed (pos h)) (record { sort_is = refl; part_is = refl })
life_one facts k of_buffer part h Predefined =
    ended (IsOfHandle part) (predefined k part h Predefined) (if_handle part (frees_object k) (breach H3 part (pos h)) (record { sort_is = refl; part_is = refl }))
life_one facts k of_buffer part h (Live made) =
    if_handle part (of_buffer && not (facts.committed h)) (breach_with H4 part made (pos h)) (record { sort_is = refl; part_is = refl })

record IsAmong (i n : ℕ) (x : Breach) : Type 0 where
  sort_is : sort x.rule ≡ 3
  from : i ≤ x.part
  below : x.part < i + n

handles_among : (facts : Facts) (k : Kind) (of_buffer : Bool) (i : ℕ) (hs : List ClassedHandle) (x : Breach) → Has (wrong_handles facts k of_buffer i hs) x → IsAmong i (length hs) x
handles_among facts k of_buffer i [] x h = absurd h
handles_among facts k of_buffer i (c ∷ hs) x h =
    elim (has_append (wrong_handle facts k of_buffer i c) (wrong_handles facts k of_buffer (suc i) hs) x h) [
      | inl here ↦ (let p = (life_one facts k of_buffer i c.1 (facts.life c.0 c.1)).each x here in record { sort_is = p.sort_is; from = omega (arith, p.part_is); below = omega (arith, p.part_is) })
      | inr there ↦ (let p = handles_among facts k of_buffer (suc i) hs x there in record { sort_is = p.sort_is; from = omega (arith, p.from); below = omega (arith, p.below) })
    ]

handles_once : (facts : Facts) (k : Kind) (of_buffer : Bool) (i : ℕ) (hs : List ClassedHandle) → AreOnce (wrong_handles facts k of_buffer i hs)
handles_once facts k of_buffer i [] = λ x y h. absurd h
handles_once facts k of_buffer i (c ∷ hs) =
    let here = life_one facts k of_buffer i c.1 (facts.life c.0 c.1) in
    once_append (wrong_handle facts k of_buffer i c) (wrong_handles facts k of_buffer (suc i) hs)
    (one_is_once (IsOfHandle i) (wrong_handle facts k of_buffer i c) here)
    (handles_once facts k of_buffer (suc i) hs)
    (λ x y hx hy r p.
    let a = here.each x hx in
    let b = handles_among facts k of_buffer (suc i) hs y hy in
    omega (arith, a.part_is, b.from, p))

-- ---- a field

field_once : (facts : Facts) (k : Kind) (n : Option ℕ) (part : Field → ℕ) (i : ℕ) (t : Typed) → AreOnce (wrong_field facts k n part i t)
field_once facts k n part i t =
    let value = value_one facts.tag_ub n (part t.0) t.0 t.1 in
    once_append (wrong_value facts.tag_ub n (part t.0) t) (wrong_handles facts k (is_of_buffer t.0) i (typed_handles t))
    (one_is_once (IsOfField t.0 (part t.0)) (wrong_value facts.tag_ub n (part t.0) t) value)
    (handles_once facts k (is_of_buffer t.0) i (typed_handles t))
    (λ x y hx hy r p.
    let a = value.each x hx in
    let b = handles_among facts k (is_of_buffer t.0) i (typed_handles t) y hy in
    let no : 1 ≡ 3 = apart_sorts 1 3 x y (sort_of t.0 x.rule a.asked) b.sort_is r in
    omega (arith, no))

-- ---- the fields of a call

-- two fields that may break one rule at one part
abbrev are_alike : Option Rule → Option Rule → Bool
are_alike (Some r) (Some q) = same_rule r q
are_alike _ _ = false

abbrev meet : Bool → Typed → Typed → Bool
meet sends t u = are_alike (rule_asked t.0) (rule_asked u.0) && nat_eq (part_of sends (side t.0)) (part_of sends (side u.0))

abbrev none_meet : Bool → List Typed → Bool
none_meet sends [] = true
none_meet sends (t ∷ ts) = not (list_any (meet sends t) ts) && none_meet sends ts

inputs_apart : (b : Body) → none_meet (sends (inputs_of b)) (inputs_of b) ≡ true
inputs_apart (Frame Init) = refl
inputs_apart (Frame _) = refl
inputs_apart (Point (Send buf count dtype dest tag comm)) = refl
inputs_apart (Point _) = refl
inputs_apart (Finish (Wait request status)) = refl
inputs_apart (Finish _) = refl
inputs_apart (Derive (TypeContiguous count old made)) = refl
inputs_apart (Derive _) = refl
inputs_apart (Object (OpCreate commute made)) = refl
inputs_apart (Object _) = refl
inputs_apart (Collective (Barrier comm)) = refl
inputs_apart (Collective _) = refl
inputs_apart (Persist (Start request)) = refl
inputs_apart (Persist _) = refl
inputs_apart (Started (Ibarrier comm request)) = refl
inputs_apart (Started _) = refl

or_true : (a b : Bool) → b ≡ true → (a || b) ≡ true
or_true true b e = refl
or_true false b e = e

any_has : {X : Type 0} (p : X → Bool) (xs : List X) (x : X) → Has xs x → p x ≡ true → list_any p xs ≡ true
any_has p [] x h e = absurd h
any_has p (y ∷ xs) x (inl same) e = ap (λ b. b || list_any p xs) (ap p (sym same) ∙ e)
any_has p (y ∷ xs) x (inr h) e = or_true (p y) (list_any p xs) (any_has p xs x h e)

both : (a b : Bool) → (a && b) ≡ true → (a ≡ true) × (b ≡ true)
both true true e = (refl, refl)
both true false e = let bad : false ≡ true = e in absurd cc
both false b e = let bad : false ≡ true = e in absurd cc

not_any : (b : Bool) → not b ≡ true → b ≡ true → ⊥
not_any true e f = let bad : false ≡ true = e in cc
not_any false e f = let bad : false ≡ true = f in cc

-- a breach of the fields: of a value of one of them, or of a handle from the number i on
record IsOfValues (sends : Bool) (ts : List Typed) (x : Breach) : Type 0 where
  typed : Typed
  there : Has ts typed
  is : IsOfField typed.0 (part_of sends (side typed.0)) x

record IsOfHandles (i : ℕ) (x : Breach) : Type 0 where
  sort_is : sort x.rule ≡ 3
  from : i ≤ x.part

abbrev IsOfFields : Bool → ℕ → List Typed → Breach → Type 0
IsOfFields sends i ts x = IsOfValues sends ts x ⊎ IsOfHandles i x

abbrev field_rule : Facts → Kind → Option ℕ → Bool → ℕ → Typed → List Breach
field_rule facts k n sends i t = wrong_field facts k n (λ f. part_of sends (side f)) i t

record IsAtField (sends : Bool) (i : ℕ) (t : Typed) (x : Breach) : Type 0 where
  is : IsOfField t.0 (part_of sends (side t.0)) x ⊎ IsAmong i (length (typed_handles t)) x

at_field : (facts : Facts) (k : Kind) (n : Option ℕ) (sends : Bool) (i : ℕ) (t : Typed) (x : Breach) → Has (field_rule facts k n sends i t) x → IsAtField sends i t x
at_field facts k n sends i t x h =
    let part = part_of sends (side t.0) in
    elim (has_append (wrong_value facts.tag_ub n part t) (wrong_handles facts k (is_of_buffer t.0) i (typed_handles t)) x h) [
      | inl here ↦ record { is = inl ((value_one facts.tag_ub n part t.0 t.1).each x here) }
      | inr there ↦ record { is = inr (handles_among facts k (is_of_buffer t.0) i (typed_handles t) x there) }
    ]

has_if : (b : Bool) (bs : List Breach) (x : Breach) → Has (cond b bs []) x → Has bs x
has_if true bs x h = h
has_if false bs x h = absurd h

once_if : (b : Bool) (bs : List Breach) → AreOnce bs → AreOnce (cond b bs [])
once_if true bs o = o
once_if false bs o = λ x y h. absurd h

of_fields : (facts : Facts) (k : Kind) (n : Option ℕ) (sends : Bool) (test : Field → Bool) (i : ℕ) (ts : List Typed) (x : Breach)
    → Has (asked_from test (field_rule facts k n sends) i ts) x → IsOfFields sends i ts x
of_fields facts k n sends test i [] x h = absurd h
of_fields facts k n sends test i (t ∷ ts) x h =
    elim (has_append (cond (test t.0) (field_rule facts k n sends i t) []) (asked_from test (field_rule facts k n sends) (i + length (typed_handles t)) ts) x h) [
      | inl here ↦ elim (at_field facts k n sends i t x (has_if (test t.0) (field_rule facts k n sends i t) x here)).is [
        | inl value ↦ inl (record { typed = t; there = inl refl; is = value })
        | inr among ↦ inr (record { sort_is = among.sort_is; from = among.from })
      ]
      | inr there ↦ elim (of_fields facts k n sends test (i + length (typed_handles t)) ts x there) [
        | inl values ↦ inl (record { typed = values.typed; there = inr values.there; is = values.is })
        | inr handles ↦ inr (record { sort_is = handles.sort_is; from = omega (arith, handles.from) })
      ]
    ]

-- a field and a later one don't meet
fields_apart : (sends : Bool) (i : ℕ) (t : Typed) (ts : List Typed) (x y : Breach) → not (list_any (meet sends t) ts) ≡ true
    → IsAtField sends i t x → IsOfFields sends (i + length (typed_handles t)) ts y → x.rule ≡ y.rule → x.part ≡ y.part → ⊥
fields_apart sends i t ts x y apart at of r p =
    elim at.is [
      | inl a ↦ elim of [
        | inl b ↦ (let u = b.typed in
            let alike : are_alike (rule_asked t.0) (rule_asked u.0) ≡ true =
            ap (λ o. are_alike o (rule_asked u.0)) a.asked ∙ ap (are_alike (Some x.rule)) b.is.asked ∙ eq-eqb (rule_place x.rule) (rule_place y.rule) (ap rule_place r) in
            let parts : nat_eq (part_of sends (side t.0)) (part_of sends (side u.0)) ≡ true =
            eq-eqb (part_of sends (side t.0)) (part_of sends (side u.0)) (sym a.part_is ∙ p ∙ b.is.part_is) in
            not_any (list_any (meet sends t) ts) apart (any_has (meet sends t) ts u b.there (ap (λ c. c && nat_eq (part_of sends (side t.0)) (part_of sends (side u.0))) alike ∙ parts)))
        | inr b ↦ (let no : 1 ≡ 3 = apart_sorts 1 3 x y (sort_of t.0 x.rule a.asked) b.sort_is r in omega (arith, no))
      ]
      | inr a ↦ elim of [
        | inl b ↦ (let no : 3 ≡ 1 = apart_sorts 3 1 x y a.sort_is (sort_of b.typed.0 y.rule b.is.asked) r in omega (arith, no))
        | inr b ↦ omega (arith, a.below, b.from, p)
      ]
    ]

asked_once : (facts : Facts) (k : Kind) (n : Option ℕ) (sends : Bool) (test : Field → Bool) (i : ℕ) (ts : List Typed) → none_meet sends ts ≡ true
    → AreOnce (asked_from test (field_rule facts k n sends) i ts)
asked_once facts k n sends test i [] apart = λ x y h. absurd h
asked_once facts k n sends test i (t ∷ ts) apart =
    let here = cond (test t.0) (field_rule facts k n sends i t) [] in
    let behind = asked_from test (field_rule facts k n sends) (i + length (typed_handles t)) ts in
    let a = both (not (list_any (meet sends t) ts)) (none_meet sends ts) apart in
    once_append here behind
    (once_if (test t.0) (field_rule facts k n sends i t) (field_once facts k n (λ f. part_of sends (side f)) i t))
    (asked_once facts k n sends test (i + length (typed_handles t)) ts a.1)
    (λ x y hx hy r p.
    fields_apart sends i t ts x y a.0
    (at_field facts k n sends i t x (has_if (test t.0) (field_rule facts k n sends i t) x hx))
    (of_fields facts k n sends test (i + length (typed_handles t)) ts y hy)
    r p)

-- ---- a call

record IsOfStart (i : ℕ) (x : Breach) : Type 0 where
  sort_is : sort x.rule ≡ 4
  from : i ≤ x.part

record IsStart (part : ℕ) (x : Breach) : Type 0 where
  sort_is : sort x.rule ≡ 4
  part_is : x.part ≡ part

active_one : (here : ℕ) (again : Bool) (part h : ℕ) (o : Option ℕ) → IsOne (IsStart part) (active here again part h o)
active_one here again part h (Some start) = single (IsStart part) (breach_with H5 part start (pos h)) (record { sort_is = refl; part_is = refl })
active_one here true part h None = single (IsStart part) (breach_with H5 part here (pos h)) (record { sort_is = refl; part_is = refl })
active_one here false part h None = nothing (IsStart part)

of_starts : (start_of : StartOf) (here : ℕ) (clear : Bool) (before : List ℕ) (i : ℕ) (hs : List ℕ) (x : Breach) → Has (active_from start_of here clear before i hs) x → IsOfStart i x
of_starts start_of here clear before i [] x h = absurd h
of_starts start_of here clear before i (r ∷ hs) x h =
    let again = clear && is_member nat_eq before r in
    elim (has_append (active here again i r (start_of r)) (active_from start_of here clear (before ++ r ∷ []) (suc i) hs) x h) [
      | inl first ↦ (let p = (active_one here again i r (start_of r)).each x first in record { sort_is = p.sort_is; from = omega (arith, p.part_is) })
      | inr there ↦ (let p = of_starts start_of here clear (before ++ r ∷ []) (suc i) hs x there in record { sort_is = p.sort_is; from = omega (arith, p.from) })
    ]

starts_once : (start_of : StartOf) (here : ℕ) (clear : Bool) (before : List ℕ) (i : ℕ) (hs : List ℕ) → AreOnce (active_from start_of here clear before i hs)
starts_once start_of here clear before i [] = λ x y h. absurd h
starts_once start_of here clear before i (r ∷ hs) =
    let again = clear && is_member nat_eq before r in
    let first = active_one here again i r (start_of r) in
    once_append (active here again i r (start_of r)) (active_from start_of here clear (before ++ r ∷ []) (suc i) hs)
    (one_is_once (IsStart i) (active here again i r (start_of r)) first)
    (starts_once start_of here clear (before ++ r ∷ []) (suc i) hs)
    (λ x y hx hy e p.
    let a = first.each x hx in
    let b = of_starts start_of here clear (before ++ r ∷ []) (suc i) hs y hy in
    omega (arith, a.part_is, b.from, p))

record IsOfRanks (x : Breach) : Type 0 where
  sort_is : sort x.rule ≡ 2

ranks_one : (o : Option ℤ) → IsOne IsOfRanks (told A6 0 o)
ranks_one None = nothing IsOfRanks
ranks_one (Some z) = single IsOfRanks (breach A6 0 z) (record { sort_is = refl })

-- the sort of what the fields say is none of the others
fields_sort : (sends : Bool) (i : ℕ) (ts : List Typed) (x : Breach) → IsOfFields sends i ts x → (sort x.rule ≡ 1) ⊎ (sort x.rule ≡ 3)
fields_sort sends i ts x (inl values) = inl (sort_of values.typed.0 x.rule values.is.asked)
fields_sort sends i ts x (inr handles) = inr handles.sort_is

abbrev fields_of : Facts → Body → List Breach
fields_of facts b = asked_from (significant_in facts b) (field_rule facts (kind_of b) (option_map size_of_comm (comm_of facts b)) (sends (inputs_of b))) 0 (inputs_of b)

handed : (facts : Facts) (b : Body) (x : Breach) → Has (fields_of facts b) x → IsOfFields (sends (inputs_of b)) 0 (inputs_of b) x
handed facts b x h = of_fields facts (kind_of b) (option_map size_of_comm (comm_of facts b)) (sends (inputs_of b)) (significant_in facts b) 0 (inputs_of b) x h

arguments_once : (facts : Facts) (b : Body) → AreOnce (wrong_arguments facts b)
arguments_once facts b =
    let ranks = ranks_one (index_told (wrong_member facts b)) in
    once_append (wrong_ranks facts b) (fields_of facts b)
    (one_is_once IsOfRanks (wrong_ranks facts b) ranks)
    (asked_once facts (kind_of b) (option_map size_of_comm (comm_of facts b)) (sends (inputs_of b)) (significant_in facts b) 0 (inputs_of b) (inputs_apart b))
    (λ x y hx hy r p. elim (fields_sort (sends (inputs_of b)) 0 (inputs_of b) y (handed facts b y hy)) [
      | inl one ↦ (let no : 2 ≡ 1 = apart_sorts 2 1 x y (ranks.each x hx).sort_is one r in omega (arith, no))
      | inr three ↦ (let no : 2 ≡ 3 = apart_sorts 2 3 x y (ranks.each x hx).sort_is three r in omega (arith, no))
    ])

-- a breach of the rules A1 to A7 and H1 to H4
record IsOfArguments (x : Breach) : Type 0 where
  from : 1 ≤ sort x.rule
  below : sort x.rule < 4

arguments_sort : (facts : Facts) (b : Body) (x : Breach) → Has (wrong_arguments facts b) x → IsOfArguments x
arguments_sort facts b x h =
    elim (has_append (wrong_ranks facts b) (fields_of facts b) x h) [
      | inl ranks ↦ (let e = ((ranks_one (index_told (wrong_member facts b))).each x ranks).sort_is in record { from = omega (arith, e); below = omega (arith, e) })
      | inr fields ↦ elim (fields_sort (sends (inputs_of b)) 0 (inputs_of b) x (handed facts b x fields)) [
        | inl e ↦ record { from = omega (arith, e); below = omega (arith, e) }
        | inr e ↦ record { from = omega (arith, e); below = omega (arith, e) }
      ]
    ]

-- a rule finds one thing at the most at a part of a call
pub breaches_once : (facts : Facts) (start_of : StartOf) (here : ℕ) (b : Body) (x y : Breach) → Has (argument_breaches facts start_of here b) x → Has (argument_breaches facts start_of here b) y
    → x.rule ≡ y.rule → x.part ≡ y.part → x ≡ y
breaches_once facts start_of here b =
    once_append (wrong_arguments facts b) (active_requests start_of here (is_clear facts b) b)
    (arguments_once facts b)
    (starts_once start_of here (is_clear facts b) [] 0 (started_of b))
    (λ x y hx hy r p.
    let a = arguments_sort facts b x hx in
    let s = of_starts start_of here (is_clear facts b) [] 0 (started_of b) y hy in
    let same : sort x.rule ≡ sort y.rule = ap sort r in
    omega (arith, a.below, s.sort_is, same))

-- the rules that these breaches break are A1 to A7 and H1 to H5
abbrev pub is_of_arguments : Rule → Bool
is_of_arguments r = nat_lt 0 (sort r)

pub breaches_of_arguments : (facts : Facts) (start_of : StartOf) (here : ℕ) (b : Body) (x : Breach) → Has (argument_breaches facts start_of here b) x → is_of_arguments x.rule ≡ true
breaches_of_arguments facts start_of here b x h =
    elim (has_append (wrong_arguments facts b) (active_requests start_of here (is_clear facts b) b) x h) [
      | inl arguments ↦ lt-ltb 0 (sort x.rule) (arguments_sort facts b x arguments).from
      | inr starts ↦ (let s = of_starts start_of here (is_clear facts b) [] 0 (started_of b) x starts in lt-ltb 0 (sort x.rule) (omega (arith, s.sort_is)))
    ]
