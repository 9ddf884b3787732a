-- Numbers in a list are places in its lanes, where the list comes in order.
use Rattle.std.proofs.Common.{◌≡◌, ℕ, zero, suc, Bool, true, false, cond, ◌&&◌, List, [], ◌∷◌, ◌++◌, length, Some, None, refl, sym, ap, subst, ◌∙◌, inl, inr}
use Rattle.std.specs.Prelude.{slice_get, filter}
use Rattle.std.specs.List.{AllByRecursion}
use Rattle.must_base.specs.Listing.{Has}
use Rattle.must_base.specs.ListingLaws.{all_has}

-- what x of p knows of a later y
abbrev pub IsAfter : {X : Type 0} → (X → Bool) → (X → X → Bool) → X → X → Type 0
IsAfter p before x y = p y ≡ true → (before x y ≡ true) × (before y x ≡ false)

-- of what passes p, each is before all later ones
abbrev pub Chain : {X : Type 0} → (X → Bool) → (X → X → Bool) → List X → Type 0
Chain p before [] = Unit {0}
Chain p before (x ∷ xs) = (p x ≡ true → AllByRecursion (IsAfter p before x) xs) × Chain p before xs

abbrev pub counted_before : {X : Type 0} → (X → Bool) → (X → X → Bool) → List X → X → ℕ
counted_before p before xs x = length (filter (λ y. p y && before y x) xs)

one_more : {X : Type 0} (p : X → Bool) (before : X → X → Bool) (x y : X) (ys : List X) → p y ≡ true → before y x ≡ true → counted_before p before (y ∷ ys) x ≡ suc (counted_before p before ys x)
one_more p before x y ys e h = rw (e, h) refl

no_more : {X : Type 0} (p : X → Bool) (before : X → X → Bool) (x y : X) (ys : List X) → p y ≡ false → counted_before p before (y ∷ ys) x ≡ counted_before p before ys x
no_more p before x y ys e = rw e refl

none_more : {X : Type 0} (p : X → Bool) (before : X → X → Bool) (x y : X) (ys : List X) → p y ≡ true → before y x ≡ false → counted_before p before (y ∷ ys) x ≡ counted_before p before ys x
none_more p before x y ys e h = rw (e, h) refl

none_counted_at : {X : Type 0} (p : X → Bool) (before : X → X → Bool) (x y : X) (ys : List X) (b : Bool) → p y ≡ b → IsAfter p before x y → counted_before p before ys x ≡ 0 → counted_before p before (y ∷ ys) x ≡ 0
none_counted_at p before x y ys true e h n = none_more p before x y ys e (h e).1 ∙ n
none_counted_at p before x y ys false e h n = no_more p before x y ys e ∙ n

none_counted : {X : Type 0} (p : X → Bool) (before : X → X → Bool) (x : X) (xs : List X) → AllByRecursion (IsAfter p before x) xs → counted_before p before xs x ≡ 0
none_counted p before x [] all = refl
none_counted p before x (y ∷ ys) all = none_counted_at p before x y ys (p y) refl all.0 (none_counted p before x ys all.1)

kept : {X : Type 0} (p : X → Bool) (x : X) (xs : List X) → p x ≡ true → filter p (x ∷ xs) ≡ x ∷ filter p xs
kept p x xs e = rw e

left_out : {X : Type 0} (p : X → Bool) (x : X) (xs : List X) → p x ≡ false → filter p (x ∷ xs) ≡ filter p xs
left_out p x xs e = rw e

head_count : {X : Type 0} (p : X → Bool) (before : X → X → Bool) → ((x : X) → before x x ≡ false) → (x : X) (xs : List X) → Chain p before (x ∷ xs) → p x ≡ true → counted_before p before (x ∷ xs) x ≡ 0
head_count p before irr x xs ch e = none_more p before x x xs e (irr x) ∙ none_counted p before x xs (ch.0 e)

at_head : {X : Type 0} (p : X → Bool) (before : X → X → Bool) → ((x : X) → before x x ≡ false) → (x : X) (xs : List X) → Chain p before (x ∷ xs) → p x ≡ true
    → slice_get (filter p (x ∷ xs)) (counted_before p before (x ∷ xs) x) ≡ Some x
at_head p before irr x xs ch e = rw (kept p x xs e, head_count p before irr x xs ch e) refl

at_tail : {X : Type 0} (p : X → Bool) (before : X → X → Bool) (x y : X) (ys : List X) (b : Bool) → p y ≡ b → (p y ≡ true → before y x ≡ true)
    → slice_get (filter p ys) (counted_before p before ys x) ≡ Some x → slice_get (filter p (y ∷ ys)) (counted_before p before (y ∷ ys) x) ≡ Some x
at_tail p before x y ys true e h is = rw (kept p y ys e, one_more p before x y ys e (h e)) is
at_tail p before x y ys false e h is = rw (left_out p y ys e, no_more p before x y ys e) is

-- what stands there stands in its lane at its number
pub place_at : {X : Type 0} (p : X → Bool) (before : X → X → Bool) → ((x : X) → before x x ≡ false) → (xs : List X) (x : X) → Chain p before xs → Has xs x → p x ≡ true
    → slice_get (filter p xs) (counted_before p before xs x) ≡ Some x
place_at p before irr [] x ch h e = absurd h
place_at p before irr (y ∷ ys) x ch (inl is) e =
    subst (λ w. slice_get (filter p (y ∷ ys)) (counted_before p before (y ∷ ys) w) ≡ Some w) (sym is) (at_head p before irr y ys ch (sym (ap p is) ∙ e))
place_at p before irr (y ∷ ys) x ch (inr h) e =
    at_tail p before x y ys (p y) refl (λ py. (all_has (IsAfter p before y) ys x (ch.0 py) h e).0) (place_at p before irr ys x ch.1 h e)

-- what stands in a lane at some place
pub record IsAt {X : Type 0} (p : X → Bool) (before : X → X → Bool) (xs : List X) (n : ℕ) (x : X) : Type 0 where
  pub there : Has xs x
  pub passes : p x ≡ true
  pub count : counted_before p before xs x ≡ n

pub some_is : {X : Type 0} (x y : X) → Some x ≡ Some y → x ≡ y
some_is x y e = cc

pub none_is : {X : Type 0} (y : X) → None ≡ Some y → ⊥
none_is y e = cc

nothing_at : {X : Type 0} (n : ℕ) (x : X) → slice_get [] n ≡ Some x → ⊥
nothing_at n x e = none_is x e

count_at_head : {X : Type 0} (p : X → Bool) (before : X → X → Bool) → ((x : X) → before x x ≡ false) → (y : X) (ys : List X) → Chain p before (y ∷ ys) → p y ≡ true → (x : X) → x ≡ y → IsAt p before (y ∷ ys) 0 x
count_at_head p before irr y ys ch e x is = subst (λ w. IsAt p before (y ∷ ys) 0 w) (sym is) (record { there = inl refl; passes = e; count = head_count p before irr y ys ch e })

place_of_by : {X : Type 0} (p : X → Bool) (before : X → X → Bool) → ((x : X) → before x x ≡ false) → (y : X) (ys : List X) (n : ℕ) (x : X) (b : Bool) → p y ≡ b → Chain p before (y ∷ ys) → slice_get (cond b (y ∷ filter p ys) (filter p ys)) n ≡ Some x
    → ((m : ℕ) → slice_get (filter p ys) m ≡ Some x → IsAt p before ys m x) → IsAt p before (y ∷ ys) n x
place_of_by p before irr y ys zero x true e ch is rest = count_at_head p before irr y ys ch e x (sym (some_is y x is))
place_of_by p before irr y ys (suc n) x true e ch is rest =
    let r = rest n is in
    record { there = inr r.there; passes = r.passes; count = one_more p before x y ys e (all_has (IsAfter p before y) ys x (ch.0 e) r.there r.passes).0 ∙ ap suc r.count }
place_of_by p before irr y ys n x false e ch is rest =
    let r = rest n is in
    record { there = inr r.there; passes = r.passes; count = no_more p before x y ys e ∙ r.count }

pub place_of : {X : Type 0} (p : X → Bool) (before : X → X → Bool) → ((x : X) → before x x ≡ false) → (xs : List X) (n : ℕ) (x : X) → Chain p before xs → slice_get (filter p xs) n ≡ Some x → IsAt p before xs n x
place_of p before irr [] n x ch is = absurd (nothing_at n x is)
place_of p before irr (y ∷ ys) n x ch is = place_of_by p before irr y ys n x (p y) refl ch is (λ m here. place_of p before irr ys m x ch.1 here)

-- lists with one element more at the end
pub get_before : {X : Type 0} (xs zs : List X) (n : ℕ) (y : X) → slice_get xs n ≡ Some y → slice_get (xs ++ zs) n ≡ Some y
get_before [] zs n y e = absurd (nothing_at n y e)
get_before (x ∷ xs) zs zero y e = e
get_before (x ∷ xs) zs (suc n) y e = get_before xs zs n y e

pub get_last : {X : Type 0} (xs : List X) (x : X) → slice_get (xs ++ x ∷ []) (length xs) ≡ Some x
get_last [] x = refl
get_last (y ∷ xs) x = get_last xs x

pub has_before : {X : Type 0} (xs zs : List X) (y : X) → Has xs y → Has (xs ++ zs) y
has_before [] zs y h = absurd h
has_before (x ∷ xs) zs y (inl e) = inl e
has_before (x ∷ xs) zs y (inr h) = inr (has_before xs zs y h)

pub has_last : {X : Type 0} (xs : List X) (x : X) → Has (xs ++ x ∷ []) x
has_last [] x = inl refl
has_last (y ∷ xs) x = inr (has_last xs x)
