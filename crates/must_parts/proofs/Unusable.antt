-- A call without a usable part has no parts.
use Rattle.std.proofs.Common.{◌≡◌, ◌⊎◌, inl, inr, ℕ, ◌+◌, Bool, true, false, cond, List, [], ◌∷◌, Option, None, refl, sym, ap, subst, ◌∙◌}
use Rattle.std.specs.Prelude.{is_some, filter_map}
use Rattle.std.specs.List.{cons_option}
use Rattle.must_call.specs.declared.field.Side.{Side}
use Rattle.must_call.specs.declared.field.Side.TheVariants.{Send, Receive, Both}
use Rattle.must_call.specs.declared.field.Field.{Field}
use Rattle.must_call.specs.declared.field.Field.TheVariants.{Buffer}
use Rattle.must_call.specs.declared.body.Body.{Body}
use Rattle.must_call.specs.Values.{Value, Typed}
use Rattle.must_call.specs.Bodies.{inputs_of}
use Rattle.must_type.specs.Tree.{TypeTree}
use Rattle.must_rules.specs.Facts.{Facts}
use Rattle.must_rules.specs.Breaches as breaches
use Rattle.must_rules.specs.Breaches.{part_of, part_in}
use Rattle.must_rules.specs.UsableParts.{is_usable, usable_parts}
use Rattle.must_rules.specs.Significant.{side, comm_of}
use Rattle.must_rules.specs.Parts.{Part, with_both, part_at, part_told, datatype_of, parts_of}
use Rattle.must_parts.proofs.Usable.{bits}

none_first : (a b : Bool) → bits a b ≡ 0 → a ≡ false
none_first false b e = refl
none_first true true e = absurd cc
none_first true false e = absurd cc

none_second : (a b : Bool) → bits a b ≡ 0 → b ≡ false
none_second a false e = refl
none_second true true e = absurd cc
none_second false true e = absurd cc

either_part : (both : Bool) (s : Side) → (part_of both s ≡ 0) ⊎ (part_of both s ≡ 1)
either_part true Receive = inr refl
either_part true Send = inl refl
either_part true Both = inl refl
either_part false s = inl refl

unusable : (facts : Facts) (sound : ℕ → Bool) (b : Body) (f : Field) → usable_parts facts sound b ≡ 0 → is_usable facts sound b (part_in b f) ≡ false
unusable facts sound b f none = elim (either_part (breaches.sends (inputs_of b)) (side f)) [
  | inl first ↦ ap (is_usable facts sound b) first ∙ none_first (is_usable facts sound b 0) (is_usable facts sound b 1) none
  | inr second ↦ ap (is_usable facts sound b) second ∙ none_second (is_usable facts sound b 0) (is_usable facts sound b 1) none
]

untold : (facts : Facts) (types : ℕ → Option TypeTree) (b : Body) (f : Field) (v : Value f) → usable_parts facts (λ h. is_some (types h)) b ≡ 0 → part_told facts types b f v ≡ None
untold facts types b (Buffer s) address none =
    ap (λ (u : Bool). cond u (with_both (part_at facts b s address) (comm_of facts b) (datatype_of types b s)) None) (unusable facts (λ h. is_some (types h)) b (Buffer s) none)
untold facts types b _ v none = refl

none_told : (facts : Facts) (types : ℕ → Option TypeTree) (b : Body) (ts : List Typed) → usable_parts facts (λ h. is_some (types h)) b ≡ 0 → filter_map (λ (t : Typed). part_told facts types b t.0 t.1) ts ≡ []
none_told facts types b [] none = refl
none_told facts types b (t ∷ ts) none = ap (λ (o : Option Part). cons_option o (filter_map (λ (u : Typed). part_told facts types b u.0 u.1) ts)) (untold facts types b t.0 t.1 none) ∙ none_told facts types b ts none

pub no_parts : (facts : Facts) (types : ℕ → Option TypeTree) (b : Body) → usable_parts facts (λ h. is_some (types h)) b ≡ 0 → parts_of facts types b ≡ []
unfolding parts_of
no_parts facts types b none = none_told facts types b (inputs_of b) none
