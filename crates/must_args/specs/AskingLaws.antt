-- Fields that are asked one after another: what the first says that answers.
use Rattle.std.proofs.Common.{◌≡◌, ℕ, ◌+◌, ◌<◌, ◌≤◌, List, [], ◌∷◌, ◌++◌, map, length, take, get_or, Option, Some, None, refl, sym, ap, ◌∙◌}
use Rattle.std.proofs.lemmas.List.{take_more, take_all, map-append}
use Rattle.must_call.specs.declared.field.Field.{Field}
use Rattle.must_call.specs.Values.{Value, Typed}
use Rattle.must_rules.specs.Significant.{or_else, first_told}

-- ---- a list that is gone over

pub all_there : {A B : Type 0} (f : A → B) (xs : List A) (i : ℕ) → length xs ≤ i → map f (take i xs) ≡ map f xs
all_there f xs i all = ap (map f) (take_all i xs all)

-- ---- the first field that answers

or_else-none : {X : Type 0} (o : Option X) → or_else o None ≡ o
or_else-none (Some x) = refl
or_else-none None = refl

or_else-or_else : {X : Type 0} (o p q : Option X) → or_else o (or_else p q) ≡ or_else (or_else o p) q
or_else-or_else (Some x) p q = refl
or_else-or_else None p q = refl

pub told_more : {X : Type 0} (ask : (f : Field) → Value f → Option X) (ts : List Typed) (t : Typed) → first_told ask (ts ++ t ∷ []) ≡ or_else (first_told ask ts) (ask t.0 t.1)
told_more ask [] t = or_else-none (ask t.0 t.1)
told_more ask (x ∷ ts) t = ap (or_else (ask x.0 x.1)) (told_more ask ts t) ∙ or_else-or_else (ask x.0 x.1) (first_told ask ts) (ask t.0 t.1)

-- ---- one more

pub front_more : {A : Type 0} (xs : List A) (j : ℕ) (x d : A) → j < length xs → x ≡ get_or xs j d → take (j + 1) xs ≡ take j xs ++ x ∷ []
front_more xs j x d within is = take_more xs j d within ∙ ap (λ y. take j xs ++ y ∷ []) (sym is)

pub seen_more : {A B : Type 0} (f : A → B) (xs : List A) (j : ℕ) (x d : A) → j < length xs → x ≡ get_or xs j d → map f (take (j + 1) xs) ≡ map f (take j xs) ++ f x ∷ []
seen_more f xs j x d within is = ap (map f) (front_more xs j x d within is) ∙ map-append f (take j xs) (x ∷ [])

module _ {A : Type 0} (f : A → Typed) (xs : List A) (j : ℕ) (x : A) (within : j < length xs) (is : x ≡ get_or xs j x) where
  pub told_step : {X : Type 0} (ask : (r : Field) → Value r → Option X) (old new : Option X) → old ≡ first_told ask (map f (take j xs)) → new ≡ or_else old (ask (f x).0 (f x).1) → new ≡ first_told ask (map f (take (j + 1) xs))
  told_step ask old new before step =
      step ∙ ap (λ o. or_else o (ask (f x).0 (f x).1)) before ∙ sym (ap (first_told ask) (seen_more f xs j x x within is) ∙ told_more ask (map f (take j xs)) (f x))
