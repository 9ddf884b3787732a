-- Lists that are each other in another order.
use Rattle.std.proofs.Common.{◌≡◌, ℕ, suc, Bool, true, false, cond, not, List, [], ◌∷◌, ◌++◌, length, refl, sym, ap, subst, ◌∙◌, inl, inr, append_assoc}
use Rattle.std.specs.Prelude.{filter, ◌↔◌}
use Rattle.std.specs.List.{flat_map}
use Rattle.std.proofs.lemmas.List.{append-nil}
use Rattle.must_base.specs.Listing.{Has}

pub data Rearranges {X : Type 0} : List X → List X → Type 0 where
  empty : Rearranges [] []
  behind : (x : X) {xs ys : List X} → Rearranges xs ys → Rearranges (x ∷ xs) (x ∷ ys)
  exchange : (x y : X) (xs : List X) → Rearranges (x ∷ y ∷ xs) (y ∷ x ∷ xs)
  through : {xs ys zs : List X} → Rearranges xs ys → Rearranges ys zs → Rearranges xs zs

pub same : {X : Type 0} (xs : List X) → Rearranges xs xs
same [] = empty
same (x ∷ xs) = behind x (same xs)

pub from_equal : {X : Type 0} (xs ys : List X) → xs ≡ ys → Rearranges xs ys
from_equal xs ys e = subst (λ l. Rearranges xs l) e (same xs)

pub back : {X : Type 0} {xs ys : List X} → Rearranges xs ys → Rearranges ys xs
back empty = empty
back (behind x r) = behind x (back r)
back (exchange x y xs) = exchange y x xs
back (through r s) = through (back s) (back r)

pub ahead : {X : Type 0} (zs : List X) {xs ys : List X} → Rearranges xs ys → Rearranges (zs ++ xs) (zs ++ ys)
ahead [] r = r
ahead (z ∷ zs) r = behind z (ahead zs r)

pub followed : {X : Type 0} (zs : List X) {xs ys : List X} → Rearranges xs ys → Rearranges (xs ++ zs) (ys ++ zs)
followed zs empty = same zs
followed zs (behind x r) = behind x (followed zs r)
followed zs (exchange x y xs) = exchange x y (xs ++ zs)
followed zs (through r s) = through (followed zs r) (followed zs s)

pub joined : {X : Type 0} {xs ys us vs : List X} → Rearranges xs ys → Rearranges us vs → Rearranges (xs ++ us) (ys ++ vs)
joined {ys = ys} {us = us} r s = through (followed us r) (ahead ys s)

-- x goes behind xs
pub moved : {X : Type 0} (x : X) (xs ys : List X) → Rearranges (x ∷ (xs ++ ys)) (xs ++ x ∷ ys)
moved x [] ys = same (x ∷ ys)
moved x (z ∷ zs) ys = through (exchange x z (zs ++ ys)) (behind z (moved x zs ys))

pub crossed : {X : Type 0} (xs ys : List X) → Rearranges (xs ++ ys) (ys ++ xs)
crossed [] ys = from_equal ys (ys ++ []) (sym (append-nil ys))
crossed (x ∷ xs) ys = through (behind x (crossed xs ys)) (moved x ys xs)

one_filtered : {X : Type 0} (b : Bool) (x : X) (us vs : List X) → Rearranges us vs → Rearranges (cond b (x ∷ us) us) (cond b (x ∷ vs) vs)
one_filtered true x us vs r = behind x r
one_filtered false x us vs r = r

two_filtered : {X : Type 0} (a b : Bool) (x y : X) (l : List X) → Rearranges (cond a (x ∷ cond b (y ∷ l) l) (cond b (y ∷ l) l)) (cond b (y ∷ cond a (x ∷ l) l) (cond a (x ∷ l) l))
two_filtered true true x y l = exchange x y l
two_filtered true false x y l = same (x ∷ l)
two_filtered false true x y l = same (y ∷ l)
two_filtered false false x y l = same l

pub filtered : {X : Type 0} (p : X → Bool) {xs ys : List X} → Rearranges xs ys → Rearranges (filter p xs) (filter p ys)
filtered p empty = empty
filtered p (behind x {xs} {ys} r) = one_filtered (p x) x (filter p xs) (filter p ys) (filtered p r)
filtered p (exchange x y xs) = two_filtered (p x) (p y) x y (filter p xs)
filtered p (through r s) = through (filtered p r) (filtered p s)

pub as_long : {X : Type 0} {xs ys : List X} → Rearranges xs ys → length xs ≡ length ys
as_long empty = refl
as_long (behind x r) = ap suc (as_long r)
as_long (exchange x y xs) = refl
as_long (through r s) = as_long r ∙ as_long s

pub still_has : {X : Type 0} {xs ys : List X} (z : X) → Rearranges xs ys → Has xs z → Has ys z
still_has z empty h = h
still_has z (behind x r) (inl e) = inl e
still_has z (behind x r) (inr h) = inr (still_has z r h)
still_has z (exchange x y xs) (inl e) = inr (inl e)
still_has z (exchange x y xs) (inr (inl e)) = inl e
still_has z (exchange x y xs) (inr (inr h)) = inr (inr h)
still_has z (through r s) h = still_has z s (still_has z r h)

pub flat_mapped : {X A : Type 0} (f : X → List A) {xs ys : List X} → Rearranges xs ys → Rearranges (flat_map f xs) (flat_map f ys)
flat_mapped f empty = empty
flat_mapped f (behind x r) = ahead (f x) (flat_mapped f r)
flat_mapped f (exchange x y xs) =
    through (from_equal (f x ++ (f y ++ flat_map f xs)) ((f x ++ f y) ++ flat_map f xs) (sym (append_assoc (f x) (f y) (flat_map f xs))))
    (through (followed (flat_map f xs) (crossed (f x) (f y))) (from_equal ((f y ++ f x) ++ flat_map f xs) (f y ++ (f x ++ flat_map f xs)) (append_assoc (f y) (f x) (flat_map f xs))))
flat_mapped f (through r s) = through (flat_mapped f r) (flat_mapped f s)

one_split : {X : Type 0} (b : Bool) (x : X) (l ys ns : List X) → Rearranges l (ys ++ ns) → Rearranges (x ∷ l) (cond b (x ∷ ys) ys ++ cond (not b) (x ∷ ns) ns)
one_split true x l ys ns r = behind x r
one_split false x l ys ns r = through (behind x r) (moved x ys ns)

-- what passes, and what doesn't
pub split : {X : Type 0} (p : X → Bool) (xs : List X) → Rearranges xs (filter p xs ++ filter (λ x. not (p x)) xs)
split p [] = empty
split p (x ∷ xs) = one_split (p x) x xs (filter p xs) (filter (λ y. not (p y)) xs) (split p xs)
