-- Places that rise, and what passes a test of them.
use Rattle.std.proofs.Common.{◌≡◌, Bool, true, false, cond, List, [], ◌∷◌, map}
use Rattle.std.specs.Prelude.{filter, ◌<◌}
use Rattle.std.specs.List.{AllByRecursion}
use Rattle.must_call.specs.declared.place.Place.{Place}
use Rattle.must_entry.specs.Lawful.{Rise}

one_place : {X : Type 0} (f : X → Place) (P : Place → Type 0) (b : Bool) (x : X) (l : List X) → P (f x) → AllByRecursion P (map f l) → AllByRecursion P (map f (cond b (x ∷ l) l))
one_place f P true x l a rest = (a, rest)
one_place f P false x l a rest = rest

all_places : {X : Type 0} (f : X → Place) (P : Place → Type 0) (p : X → Bool) (xs : List X) → AllByRecursion P (map f xs) → AllByRecursion P (map f (filter p xs))
all_places f P p [] a = tt
all_places f P p (x ∷ xs) a = one_place f P (p x) x (filter p xs) a.0 (all_places f P p xs a.1)

one_rise : {X : Type 0} (f : X → Place) (b : Bool) (x : X) (l : List X) → AllByRecursion (λ (q : Place). (f x).rank ≡ q.rank → (f x).call < q.call) (map f l) → Rise (map f l) → Rise (map f (cond b (x ∷ l) l))
one_rise f true x l a rest = (a, rest)
one_rise f false x l a rest = rest

pub rise_kept : {X : Type 0} (f : X → Place) (p : X → Bool) (xs : List X) → Rise (map f xs) → Rise (map f (filter p xs))
rise_kept f p [] a = tt
rise_kept f p (x ∷ xs) a = one_rise f (p x) x (filter p xs) (all_places f (λ (q : Place). (f x).rank ≡ q.rank → (f x).call < q.call) p xs a.0) (rise_kept f p xs a.1)
