-- Laws of lists that rise and have what a property tells.
use Rattle.std.proofs.Common.{◌≡◌, ℕ, zero, suc, ◌<◌, List, [], ◌∷◌, length, get_or, refl, sym, ap, subst, ◌∙◌, inl, inr, arith, Ordering, Less, Greater}
use Rattle.std.specs.Prelude.{◌↔◌}
use Rattle.std.specs.List.{AllByRecursion, Contains}
use Rattle.std.specs.List.Sorted.{IsStrictlySortedBy}
use Rattle.std.specs.Cmp.{IsTotalOrder}
use Rattle.std.specs.Ordering.{ordering_reverse}
use Rattle.must_base.specs.Listing.{Has, Rises, Lists}

-- ---- what stands in a list

has_contains : {X : Type 0} (xs : List X) (x : X) → Has xs x → Contains xs x
has_contains [] x h = absurd h
has_contains (y ∷ ys) x (inl e) = (0, omega arith, sym e)
has_contains (y ∷ ys) x (inr h) = let c = has_contains ys x h in (suc c.0, omega (arith, c.1), c.2)

has_there : {X : Type 0} (xs : List X) (k : ℕ) (x d : X) → k < length xs → get_or xs k d ≡ x → Has xs x
has_there [] k x d within e = absurd (omega (arith, within))
has_there (y ∷ ys) zero x d within e = inl (sym e)
has_there (y ∷ ys) (suc k) x d within e = inr (has_there ys k x d (omega (arith, within)) e)

-- it is std's `Contains`
pub Has-is-Contains : {X : Type 0} (xs : List X) (x : X) → Has xs x ↔ Contains xs x
Has-is-Contains xs x = (has_contains xs x, λ c. has_there xs c.0 x x c.1 c.2)

-- what holds of all holds of what stands there
pub all_has : {X : Type 0} (P : X → Type 0) (xs : List X) (x : X) → AllByRecursion P xs → Has xs x → P x
all_has P [] x all h = absurd h
all_has P (y ∷ ys) x all (inl e) = subst P (sym e) all.0
all_has P (y ∷ ys) x all (inr h) = all_has P ys x all.1 h

-- ---- lists that rise

pub rises_nil : {X : Type 0} (order : X → X → Ordering) → Rises order []
unfolding IsStrictlySortedBy
rises_nil order = tt

-- an element before all of a list that rises goes in front
pub rises_cons : {X : Type 0} (order : X → X → Ordering) (x : X) (xs : List X) → AllByRecursion (λ y. order x y ≡ Less) xs → Rises order xs → Rises order (x ∷ xs)
unfolding IsStrictlySortedBy
rises_cons order x xs all rises = (all, rises)

-- the first is before the others
pub rises_head : {X : Type 0} (order : X → X → Ordering) (x : X) (xs : List X) → Rises order (x ∷ xs) → AllByRecursion (λ y. order x y ≡ Less) xs
unfolding IsStrictlySortedBy
rises_head order x xs rises = rises.0

-- and they rise
pub rises_tail : {X : Type 0} (order : X → X → Ordering) (x : X) (xs : List X) → Rises order (x ∷ xs) → Rises order xs
unfolding IsStrictlySortedBy
rises_tail order x xs rises = rises.1

-- no element is before itself, and no two are before each other
pub irreflexive : {X : Type 0} (order : X → X → Ordering) → IsTotalOrder order → (x : X) → order x x ≡ Less → ⊥
irreflexive order o x less = let e = o.antisymm x x in let f : Less ≡ Greater = sym less ∙ e ∙ ap ordering_reverse less in cc

asymmetric : {X : Type 0} (order : X → X → Ordering) → IsTotalOrder order → (x y : X) → order x y ≡ Less → order y x ≡ Less → ⊥
asymmetric order o x y less more = irreflexive order o x (o.trans x y x less more)

head_is : {X : Type 0} (order : X → X → Ordering) → IsTotalOrder order → (x y : X) (xs ys : List X) → Rises order (x ∷ xs) → Rises order (y ∷ ys) → Has (y ∷ ys) x → Has (x ∷ xs) y → x ≡ y
head_is order o x y xs ys r s (inl e) k = e
head_is order o x y xs ys r s (inr h) (inl e) = sym e
head_is order o x y xs ys r s (inr h) (inr k) =
    absurd (asymmetric order o x y (all_has (λ z. order x z ≡ Less) xs y (rises_head order x xs r) k) (all_has (λ z. order y z ≡ Less) ys x (rises_head order y ys s) h))

-- behind equal heads the same stands
tail_has : {X : Type 0} (order : X → X → Ordering) → IsTotalOrder order → (x y : X) (xs ys : List X) → x ≡ y → Rises order (x ∷ xs) → ((z : X) → Has (x ∷ xs) z → Has (y ∷ ys) z) → (z : X) → Has xs z → Has ys z
tail_has order o x y xs ys e r all z h =
    elim (all z (inr h)) [
      | inl f ↦ absurd (irreflexive order o x (subst (λ w. order x w ≡ Less) (f ∙ sym e) (all_has (λ w. order x w ≡ Less) xs z (rises_head order x xs r) h)))
      | inr k ↦ k
    ]

-- two lists that rise and have the same are one
pub same_list : {X : Type 0} (order : X → X → Ordering) → IsTotalOrder order → (xs ys : List X) → Rises order xs → Rises order ys
    → ((z : X) → Has xs z → Has ys z) → ((z : X) → Has ys z → Has xs z) → xs ≡ ys
same_list order o [] [] r s to back = refl
same_list order o [] (y ∷ ys) r s to back = absurd (back y (inl refl))
same_list order o (x ∷ xs) [] r s to back = absurd (to x (inl refl))
same_list order o (x ∷ xs) (y ∷ ys) r s to back =
    let e : x ≡ y = head_is order o x y xs ys r s (to x (inl refl)) (back y (inl refl)) in
    let t : xs ≡ ys =
    same_list order o xs ys (rises_tail order x xs r) (rises_tail order y ys s) (tail_has order o x y xs ys e r to) (tail_has order o y x ys xs (sym e) s back) in
    cc

pub lists_one : {X : Type 0} (order : X → X → Ordering) → IsTotalOrder order → (P : X → Type 0) (xs ys : List X) → Lists order P xs → Lists order P ys → xs ≡ ys
lists_one order o P xs ys r s = same_list order o xs ys r.rises s.rises (λ z h. (s.exact z).1 ((r.exact z).0 h)) (λ z h. (r.exact z).1 ((s.exact z).0 h))
