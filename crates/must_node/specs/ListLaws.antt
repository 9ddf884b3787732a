-- Lists: one item more, and what passes a test.
use Rattle.std.proofs.Common.{◌≡◌, ℕ, suc, ◌+◌, ◌<◌, Bool, true, false, cond, not, List, [], ◌∷◌, ◌++◌, length, map, take, get_or, Some, refl, sym, ap, ◌∙◌, inl, inr, append_assoc}
use Rattle.std.specs.Prelude.{filter, slice_get, ◌⊎◌, ◌↔◌}
use Rattle.std.specs.List.{AllByRecursion, flat_map}
use Rattle.std.proofs.lemmas.List.{append-nil, map-append, take_more}
use Rattle.std.proofs.lemmas.List.Elements.{filter-append}
use Rattle.must_base.specs.Listing.{Has}

pub flat_push : {X A : Type 0} (f : X → List A) (xs : List X) (x : X) → flat_map f (xs ++ x ∷ []) ≡ flat_map f xs ++ f x
flat_push f [] x = append-nil (f x)
flat_push f (y ∷ ys) x = ap (λ l. f y ++ l) (flat_push f ys x) ∙ sym (append_assoc (f y) (flat_map f ys) (f x))

pub flat_append : {X A : Type 0} (f : X → List A) (xs ys : List X) → flat_map f (xs ++ ys) ≡ flat_map f xs ++ flat_map f ys
flat_append f [] ys = refl
flat_append f (x ∷ xs) ys = ap (λ l. f x ++ l) (flat_append f xs ys) ∙ sym (append_assoc (f x) (flat_map f xs) (flat_map f ys))

pub flat_same : {X A : Type 0} (f g : X → List A) (xs : List X) → ((x : X) → Has xs x → f x ≡ g x) → flat_map f xs ≡ flat_map g xs
flat_same f g [] same = refl
flat_same f g (x ∷ xs) same = ap (λ l. l ++ flat_map f xs) (same x (inl refl)) ∙ ap (λ l. g x ++ l) (flat_same f g xs (λ y h. same y (inr h)))

pub has_push : {X : Type 0} (xs : List X) (x y : X) → Has (xs ++ x ∷ []) y ↔ (Has xs y ⊎ (y ≡ x))
has_push [] x y = (λ h. elim h [ inl e ↦ inr e | inr n ↦ absurd n ], λ h. elim h [ inl n ↦ absurd n | inr e ↦ inl e ])
has_push (z ∷ zs) x y = (
  λ h. elim h [ inl e ↦ inl (inl e) | inr t ↦ elim ((has_push zs x y).0 t) [ inl there ↦ inl (inr there) | inr e ↦ inr e ] ],
  λ h. elim h [ inl there ↦ elim there [ inl e ↦ inl e | inr t ↦ inr ((has_push zs x y).1 (inl t)) ] | inr e ↦ inr ((has_push zs x y).1 (inr e)) ],
)

pub has_behind : {X : Type 0} (xs ys : List X) (y : X) → Has ys y → Has (xs ++ ys) y
has_behind [] ys y h = h
has_behind (x ∷ xs) ys y h = inr (has_behind xs ys y h)

pub has_front : {X : Type 0} (xs ys : List X) (y : X) → Has xs y → Has (xs ++ ys) y
has_front [] ys y h = absurd h
has_front (x ∷ xs) ys y (inl e) = inl e
has_front (x ∷ xs) ys y (inr h) = inr (has_front xs ys y h)

pub has_index : (ranks : List ℕ) (rank : ℕ) → Has ranks rank → (k : ℕ) × (slice_get ranks k ≡ Some rank)
has_index [] rank h = absurd h
has_index (r ∷ rs) rank (inl e) = (0, ap Some (sym e))
has_index (r ∷ rs) rank (inr h) = let p = has_index rs rank h in (suc p.0, p.1)

pub all_join : {X : Type 0} (P : X → Type 0) (xs ys : List X) → AllByRecursion P xs → AllByRecursion P ys → AllByRecursion P (xs ++ ys)
all_join P [] ys a b = b
all_join P (x ∷ xs) ys a b = (a.0, all_join P xs ys a.1 b)

pub all_front : {X : Type 0} (P : X → Type 0) (xs ys : List X) → AllByRecursion P (xs ++ ys) → AllByRecursion P xs
all_front P [] ys a = tt
all_front P (x ∷ xs) ys a = (a.0, all_front P xs ys a.1)

pub all_weaker : {X : Type 0} (P Q : X → Type 0) (xs : List X) → ((x : X) → P x → Q x) → AllByRecursion P xs → AllByRecursion Q xs
all_weaker P Q [] f a = tt
all_weaker P Q (x ∷ xs) f a = (f x a.0, all_weaker P Q xs f a.1)

-- ---- what passes a test

pub kept_push : {X : Type 0} (p : X → Bool) (xs : List X) (x : X) → p x ≡ true → filter p (xs ++ x ∷ []) ≡ filter p xs ++ x ∷ []
kept_push p xs x e = filter-append p xs (x ∷ []) ∙ ap (λ b. filter p xs ++ cond b (x ∷ []) []) e

pub left_push : {X : Type 0} (p : X → Bool) (xs : List X) (x : X) → p x ≡ false → filter p (xs ++ x ∷ []) ≡ filter p xs
left_push p xs x e = filter-append p xs (x ∷ []) ∙ ap (λ b. filter p xs ++ cond b (x ∷ []) []) e ∙ append-nil (filter p xs)

pub none_pass : {X : Type 0} (p : X → Bool) (xs : List X) → AllByRecursion (λ x. p x ≡ false) xs → filter p xs ≡ []
none_pass p [] a = refl
none_pass p (x ∷ xs) a = ap (λ b. cond b (x ∷ filter p xs) (filter p xs)) a.0 ∙ none_pass p xs a.1

pub all_stay : {X : Type 0} (p : X → Bool) (xs : List X) → AllByRecursion (λ x. p x ≡ false) xs → filter (λ x. not (p x)) xs ≡ xs
all_stay p [] a = refl
all_stay p (x ∷ xs) a = ap (λ b. cond (not b) (x ∷ filter (λ y. not (p y)) xs) (filter (λ y. not (p y)) xs)) a.0 ∙ ap (λ l. x ∷ l) (all_stay p xs a.1)

pub all_pass : {X : Type 0} (xs : List X) → filter (λ x. true) xs ≡ xs
all_pass [] = refl
all_pass (x ∷ xs) = ap (λ l. x ∷ l) (all_pass xs)

both_pass : {X : Type 0} (p r : X → Bool) (x : X) (b c : Bool) (l m : List X) → p x ≡ b → r x ≡ c → (r x ≡ true → p x ≡ true) → filter r l ≡ m → filter r (cond b (x ∷ l) l) ≡ cond c (x ∷ m) m
both_pass p r x true true l m pb rc h e = ap (λ d. cond d (x ∷ filter r l) (filter r l)) rc ∙ ap (λ w. x ∷ w) e
both_pass p r x true false l m pb rc h e = ap (λ d. cond d (x ∷ filter r l) (filter r l)) rc ∙ e
both_pass p r x false true l m pb rc h e = absurd (let n : true ≡ false = sym (h rc) ∙ pb in cc)
both_pass p r x false false l m pb rc h e = e

-- a wider test before a narrower one changes nothing
pub filter_in : {X : Type 0} (p r : X → Bool) (xs : List X) → ((x : X) → r x ≡ true → p x ≡ true) → filter r (filter p xs) ≡ filter r xs
filter_in p r [] h = refl
filter_in p r (x ∷ xs) h = both_pass p r x (p x) (r x) (filter p xs) (filter r xs) refl refl (h x) (filter_in p r xs h)

none_pass_one : {X : Type 0} (p r : X → Bool) (x : X) (b c : Bool) (l : List X) → p x ≡ b → r x ≡ c → (r x ≡ true → p x ≡ true → ⊥) → filter r l ≡ [] → filter r (cond b (x ∷ l) l) ≡ []
none_pass_one p r x true true l pb rc h e = absurd (h rc pb)
none_pass_one p r x true false l pb rc h e = ap (λ d. cond d (x ∷ filter r l) (filter r l)) rc ∙ e
none_pass_one p r x false c l pb rc h e = e

-- nothing passes two tests that exclude one another
pub filter_out : {X : Type 0} (p r : X → Bool) (xs : List X) → ((x : X) → r x ≡ true → p x ≡ true → ⊥) → filter r (filter p xs) ≡ []
filter_out p r [] h = refl
filter_out p r (x ∷ xs) h = none_pass_one p r x (p x) (r x) (filter p xs) refl refl (h x) (filter_out p r xs h)

swap_one : {X : Type 0} (p r : X → Bool) (x : X) (b c : Bool) (l m : List X) → p x ≡ b → r x ≡ c → filter r l ≡ filter p m → filter r (cond b (x ∷ l) l) ≡ filter p (cond c (x ∷ m) m)
swap_one p r x true true l m pb rc e = ap (λ d. cond d (x ∷ filter r l) (filter r l)) rc ∙ ap (λ w. x ∷ w) e ∙ sym (ap (λ d. cond d (x ∷ filter p m) (filter p m)) pb)
swap_one p r x true false l m pb rc e = ap (λ d. cond d (x ∷ filter r l) (filter r l)) rc ∙ e
swap_one p r x false true l m pb rc e = e ∙ sym (ap (λ d. cond d (x ∷ filter p m) (filter p m)) pb)
swap_one p r x false false l m pb rc e = e

-- two tests in either order
pub filter_swap : {X : Type 0} (p r : X → Bool) (xs : List X) → filter r (filter p xs) ≡ filter p (filter r xs)
filter_swap p r [] = refl
filter_swap p r (x ∷ xs) = swap_one p r x (p x) (r x) (filter p xs) (filter r xs) refl refl (filter_swap p r xs)

-- lists that are put together keep what passes
pub filter_flat : {X A : Type 0} (p : A → Bool) (f : X → List A) (xs : List X) → filter p (flat_map f xs) ≡ flat_map (λ x. filter p (f x)) xs
filter_flat p f [] = refl
filter_flat p f (x ∷ xs) = filter-append p (f x) (flat_map f xs) ∙ ap (λ l. filter p (f x) ++ l) (filter_flat p f xs)

-- ---- a list that is gone over

pub front_more : {X : Type 0} (xs : List X) (i : ℕ) (x d : X) → i < length xs → x ≡ get_or xs i d → take (i + 1) xs ≡ take i xs ++ x ∷ []
front_more xs i x d within is = take_more xs i d within ∙ ap (λ y. take i xs ++ y ∷ []) (sym is)

pub mapped_more : {X Y : Type 0} (f : X → Y) (xs : List X) (i : ℕ) (x d : X) → i < length xs → x ≡ get_or xs i d → map f (take (i + 1) xs) ≡ map f (take i xs) ++ f x ∷ []
mapped_more f xs i x d within is = ap (map f) (front_more xs i x d within is) ∙ map-append f (take i xs) (x ∷ [])

pub flat_more : {X Y : Type 0} (f : X → List Y) (xs : List X) (i : ℕ) (x d : X) → i < length xs → x ≡ get_or xs i d → flat_map f (take (i + 1) xs) ≡ flat_map f (take i xs) ++ f x
flat_more f xs i x d within is = ap (flat_map f) (front_more xs i x d within is) ∙ flat_push f (take i xs) x
