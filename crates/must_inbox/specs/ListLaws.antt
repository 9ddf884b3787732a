-- Lists: what passes a test, and what holds of the front, of each part by a number, and of all.
use Rattle.std.proofs.Common.{◌≡◌, ℕ, Bool, true, false, cond, List, [], ◌∷◌, ◌++◌, map, refl, sym, ap, ◌∙◌, append_assoc}
use Rattle.std.specs.Prelude.{filter, ◌==◌, ◌<◌}
use Rattle.std.specs.List.{AllByRecursion, flat_map}
use Rattle.std.proofs.lemmas.Bool.{true≢false, eq-eqb}
use Rattle.std.proofs.lemmas.List.Elements.{filter-append}
use Rattle.must_call.specs.declared.place.Place.{Place}
use Rattle.must_p2p.specs.SetLaws.{all_filter}
use Rattle.must_entry.specs.Lawful.{Rise}

pub flat_append : {X A : Type 0} (f : X → List A) (xs ys : List X) → flat_map f (xs ++ ys) ≡ flat_map f xs ++ flat_map f ys
flat_append f [] ys = refl
flat_append f (x ∷ xs) ys = ap (λ l. f x ++ l) (flat_append f xs ys) ∙ sym (append_assoc (f x) (flat_map f xs) (flat_map f ys))

pub all_front : {X : Type 0} (P : X → Type 0) (xs ys : List X) → AllByRecursion P (xs ++ ys) → AllByRecursion P xs
all_front P [] ys a = tt
all_front P (x ∷ xs) ys a = (a.0, all_front P xs ys a.1)

pub all_join : {X : Type 0} (P : X → Type 0) (xs ys : List X) → AllByRecursion P xs → AllByRecursion P ys → AllByRecursion P (xs ++ ys)
all_join P [] ys a b = b
all_join P (x ∷ xs) ys a b = (a.0, all_join P xs ys a.1 b)

pub all_weaker : {X : Type 0} (P Q : X → Type 0) (xs : List X) → ((x : X) → P x → Q x) → AllByRecursion P xs → AllByRecursion Q xs
all_weaker P Q [] f a = tt
all_weaker P Q (x ∷ xs) f a = (f x a.0, all_weaker P Q xs f a.1)

-- ---- what passes a test

filter_in_one : {X : Type 0} (p r : X → Bool) (x : X) (b c : Bool) (l m : List X) → p x ≡ b → r x ≡ c → (r x ≡ true → p x ≡ true) → filter r l ≡ m → filter r (cond b (x ∷ l) l) ≡ cond c (x ∷ m) m
filter_in_one p r x true true l m pb rc h e = ap (λ d. cond d (x ∷ filter r l) (filter r l)) rc ∙ ap (λ w. x ∷ w) e
filter_in_one p r x true false l m pb rc h e = ap (λ d. cond d (x ∷ filter r l) (filter r l)) rc ∙ e
filter_in_one p r x false true l m pb rc h e = absurd (let n : true ≡ false = sym (h rc) ∙ pb in cc)
filter_in_one p r x false false l m pb rc h e = e

-- a wider test before a narrower one changes nothing
pub filter_in : {X : Type 0} (p r : X → Bool) (xs : List X) → ((x : X) → r x ≡ true → p x ≡ true) → filter r (filter p xs) ≡ filter r xs
filter_in p r [] h = refl
filter_in p r (x ∷ xs) h = filter_in_one p r x (p x) (r x) (filter p xs) (filter r xs) refl refl (h x) (filter_in p r xs h)

filter_out_one : {X : Type 0} (p r : X → Bool) (x : X) (b c : Bool) (l : List X) → p x ≡ b → r x ≡ c → (r x ≡ true → p x ≡ true → ⊥) → filter r l ≡ [] → filter r (cond b (x ∷ l) l) ≡ []
filter_out_one p r x true true l pb rc h e = absurd (h rc pb)
filter_out_one p r x true false l pb rc h e = ap (λ d. cond d (x ∷ filter r l) (filter r l)) rc ∙ e
filter_out_one p r x false c l pb rc h e = e

-- nothing passes two tests that exclude one another
pub filter_out : {X : Type 0} (p r : X → Bool) (xs : List X) → ((x : X) → r x ≡ true → p x ≡ true → ⊥) → filter r (filter p xs) ≡ []
filter_out p r [] h = refl
filter_out p r (x ∷ xs) h = filter_out_one p r x (p x) (r x) (filter p xs) refl refl (h x) (filter_out p r xs h)

-- a test that says the same of all
pub filter_alike : {X : Type 0} (q : X → Bool) (t : Bool) (xs : List X) → AllByRecursion (λ x. q x ≡ t) xs → filter q xs ≡ cond t xs []
filter_alike q true [] a = refl
filter_alike q false [] a = refl
filter_alike q true (x ∷ xs) a = ap (λ (b : Bool). cond b (x ∷ filter q xs) (filter q xs)) a.0 ∙ ap (λ l. x ∷ l) (filter_alike q true xs a.1)
filter_alike q false (x ∷ xs) a = ap (λ (b : Bool). cond b (x ∷ filter q xs) (filter q xs)) a.0 ∙ filter_alike q false xs a.1

map_one : {X Y : Type 0} (f : X → Y) (b : Bool) (x : X) (l : List X) (m : List Y) → map f l ≡ m → map f (cond b (x ∷ l) l) ≡ cond b (f x ∷ m) m
map_one f true x l m e = ap (λ w. f x ∷ w) e
map_one f false x l m e = e

-- a test of what is mapped
pub map_filter : {X Y : Type 0} (f : X → Y) (q : Y → Bool) (xs : List X) → map f (filter (λ x. q (f x)) xs) ≡ filter q (map f xs)
map_filter f q [] = refl
map_filter f q (x ∷ xs) = map_one f (q (f x)) x (filter (λ y. q (f y)) xs) (filter q (map f xs)) (map_filter f q xs)

flat_one : {X A : Type 0} (f : X → List A) (b : Bool) (x : X) (l : List X) → flat_map f (cond b (x ∷ l) l) ≡ cond b (f x) [] ++ flat_map f l
flat_one f true x l = refl
flat_one f false x l = refl

-- a test of each item, where all that an item gives passes another test exactly where the item passes the one
pub flat_filter : {X A : Type 0} (f : X → List A) (p : X → Bool) (q : A → Bool) (xs : List X) → AllByRecursion (λ x. filter q (f x) ≡ cond (p x) (f x) []) xs → flat_map f (filter p xs) ≡ filter q (flat_map f xs)
flat_filter f p q [] a = refl
flat_filter f p q (x ∷ xs) a =
    flat_one f (p x) x (filter p xs) ∙ ap (λ l. cond (p x) (f x) [] ++ l) (flat_filter f p q xs a.1) ∙ ap (λ l. l ++ filter q (flat_map f xs)) (sym a.0) ∙ sym (filter-append q (f x) (flat_map f xs))

where_one : {X : Type 0} (P : X → Type 0) (b : Bool) (x : X) (l : List X) → AllByRecursion P (cond b (x ∷ l) l) → (b ≡ true → P x) × AllByRecursion P l
where_one P true x l a = (λ e. a.0, a.1)
where_one P false x l a = ((λ e. absurd (true≢false (sym e))), a)

-- what holds of all that passes holds of each where it passes
pub all_where : {X : Type 0} (P : X → Type 0) (p : X → Bool) (xs : List X) → AllByRecursion P (filter p xs) → AllByRecursion (λ x. p x ≡ true → P x) xs
all_where P p [] a = tt
all_where P p (x ∷ xs) a = let w = where_one P (p x) x (filter p xs) a in (w.0, all_where P p xs w.1)

-- ---- parts by a number: the items with one number, for each number

-- what holds of each part holds of all
pub all_gathered : {X : Type 0} (P : X → Type 0) (rk : X → ℕ) (xs : List X) → ((n : ℕ) → AllByRecursion P (filter (λ x. rk x == n) xs)) → AllByRecursion P xs
all_gathered P rk [] a = tt
all_gathered P rk (x ∷ xs) a = (
  (where_one P (rk x == rk x) x (filter (λ y. rk y == rk x) xs) (a (rk x))).0 (eq-eqb (rk x) (rk x) refl),
  all_gathered P rk xs (λ n. (where_one P (rk x == n) x (filter (λ y. rk y == n) xs) (a n)).1),
)

-- ---- places that rise

pub rise_front : (ps qs : List Place) → Rise (ps ++ qs) → Rise ps
rise_front [] qs r = tt
rise_front (p ∷ ps) qs r = (all_front (λ q. p.rank ≡ q.rank → p.call < q.call) ps qs r.0, rise_front ps qs r.1)

rise_one : (b : Bool) (p : Place) (l : List Place) → AllByRecursion (λ q. p.rank ≡ q.rank → p.call < q.call) l → Rise l → Rise (cond b (p ∷ l) l)
rise_one true p l a r = (a, r)
rise_one false p l a r = r

pub rise_filter : (t : Place → Bool) (ps : List Place) → Rise ps → Rise (filter t ps)
rise_filter t [] r = tt
rise_filter t (p ∷ ps) r = rise_one (t p) p (filter t ps) (all_filter (λ q. p.rank ≡ q.rank → p.call < q.call) t ps r.0) (rise_filter t ps r.1)

rise_apart : (b : Bool) (p : Place) (l : List Place) → Rise (cond b (p ∷ l) l) → (b ≡ true → AllByRecursion (λ q. p.rank ≡ q.rank → p.call < q.call) l) × Rise l
rise_apart true p l r = ((λ e. r.0), r.1)
rise_apart false p l r = ((λ e. absurd (true≢false (sym e))), r)

-- places rise where those of each rank do
pub rise_gathered : (ps : List Place) → ((rank : ℕ) → Rise (filter (λ q. q.rank == rank) ps)) → Rise ps
rise_gathered [] r = tt
rise_gathered (p ∷ ps) r = (
  all_weaker (λ (q : Place). q.rank == p.rank ≡ true → p.rank ≡ q.rank → p.call < q.call) (λ q. p.rank ≡ q.rank → p.call < q.call) ps (λ q h e. h (eq-eqb q.rank p.rank (sym e)) e)
      (all_where (λ (q : Place). p.rank ≡ q.rank → p.call < q.call) (λ q. q.rank == p.rank) ps ((rise_apart (p.rank == p.rank) p (filter (λ q. q.rank == p.rank) ps) (r p.rank)).0 (eq-eqb p.rank p.rank refl))),
  rise_gathered ps (λ rank. (rise_apart (p.rank == rank) p (filter (λ q. q.rank == rank) ps) (r rank)).1),
)
