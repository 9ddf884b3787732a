-- Fields that are asked one after another.
use Rattle.std.proofs.Common.{◌≡◌, ℕ, ◌+◌, ◌<◌, Bool, true, false, ◌&&◌, List, [], ◌∷◌, ◌++◌, map, take, get_or, length, Option, Some, None, refl, sym, ap, ◌∙◌}
use Rattle.std.specs.Option.{option_map}
use Rattle.must_call.specs.declared.field.Field.{Field}
use Rattle.must_call.specs.Values.{Typed}
use Rattle.must_type.specs.Tree.{TypeTree}
use Rattle.must_rules.specs.Facts.{Facts}
use Rattle.must_rules.specs.Significant.{or_else}
use Rattle.must_args.specs.AskingLaws.{seen_more}
use Rattle.must_items.specs.CollectiveItems.{is_sound_here, all_sound}

pub map_or : {X Y : Type 0} (f : X → Y) (a b : Option X) → option_map f (or_else a b) ≡ or_else (option_map f a) (option_map f b)
map_or f (Some x) b = refl
map_or f None b = refl

and-true : (b : Bool) → (b && true) ≡ b
and-true true = refl
and-true false = refl

and-and : (a b c : Bool) → (a && (b && c)) ≡ ((a && b) && c)
and-and true b c = refl
and-and false b c = refl

sound_more : (facts : Facts) (types : ℕ → Option TypeTree) (s : Field → Bool) (ts : List Typed) (t : Typed) → all_sound facts types s (ts ++ t ∷ []) ≡ (all_sound facts types s ts && is_sound_here facts types s t)
sound_more facts types s [] t = and-true (is_sound_here facts types s t)
sound_more facts types s (x ∷ ts) t =
    ap (λ b. is_sound_here facts types s x && b) (sound_more facts types s ts t) ∙ and-and (is_sound_here facts types s x) (all_sound facts types s ts) (is_sound_here facts types s t)

-- one field more is sound
pub sound_step : {A : Type 0} (f : A → Typed) (xs : List A) (j : ℕ) (x : A) → j < length xs → x ≡ get_or xs j x → (facts : Facts) (types : ℕ → Option TypeTree) (s : Field → Bool) (old new : Bool)
    → old ≡ all_sound facts types s (map f (take j xs)) → new ≡ (old && is_sound_here facts types s (f x)) → new ≡ all_sound facts types s (map f (take (j + 1) xs))
sound_step f xs j x within is facts types s old new before step =
    step ∙ ap (λ b. b && is_sound_here facts types s (f x)) before ∙ sym (ap (all_sound facts types s) (seen_more f xs j x x within is) ∙ sound_more facts types s (map f (take j xs)) (f x))
