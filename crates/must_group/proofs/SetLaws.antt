-- What the set operations give, in the words of the standard.
use Rattle.std.proofs.Common.{◌≡◌, ◌↔◌, ℕ, zero, suc, ◌<◌, Bool, true, false, not, ◌&&◌, ◌||◌, cond, List, [], ◌∷◌, ◌++◌, length, sym, refl, ap, ◌∙◌, arith, nat_eq}
use Rattle.std.specs.Prelude.{filter, Contains, Decides}
use Rattle.std.specs.Cmp.{nat_eq_equiv, unsigned_Decides}
use Rattle.std.specs.Set.{is_member}
use Rattle.std.proofs.lemmas.Bool.Decides.{Decides-at, Decides-or, Decides-and, Decides-not}
use Rattle.std.proofs.lemmas.List.{append_assoc, take_at, drop_at}
use Rattle.std.proofs.lemmas.List.Elements.{filter-append, filter_agree}
use Rattle.std.proofs.lemmas.List.Folds.{list_any-append}
use Rattle.std.proofs.lemmas.Map.Made.{is_member-filter, is_member-Decides}
use Rattle.must_group.specs.Groups.{union, intersection, difference}
use Rattle.must_group.specs.GroupLaws.{PlaceIn, PlacesIn, KeepsOrder, Associates, UnionLaw, IntersectionLaw, DifferenceLaw}
use Rattle.must_group.proofs.Distinct.{filter_distinct, union_distinct}

-- a filter keeps the order
place_by : (b : Bool) (x : ℕ) (part whole : List ℕ) → ((i : ℕ) → i < length part → PlaceIn part whole i) → (i : ℕ) → i < length (cond b (x ∷ part) part) → PlaceIn (cond b (x ∷ part) part) (x ∷ whole) i
place_by true x part whole h zero within = (0, omega arith, refl)
place_by true x part whole h (suc i) within = let r = h i (omega arith) in (suc r.0, omega (arith, r.1), r.2)
place_by false x part whole h i within = let r = h i within in (suc r.0, omega (arith, r.1), r.2)

filter_place : (p : ℕ → Bool) (xs : List ℕ) (i : ℕ) → i < length (filter p xs) → PlaceIn (filter p xs) xs i
filter_place p [] i within = absurd (omega arith)
filter_place p (x ∷ xs) i within = place_by (p x) x (filter p xs) xs (filter_place p xs) i within

places_by : (b : Bool) (x : ℕ) (part whole : List ℕ) → ((i : ℕ) → i < length part → PlaceIn part whole i) → ((i j : ℕ) → i < j → j < length part → PlacesIn part whole i j) → (i j : ℕ) → i < j → j < length (cond b (x ∷ part) part) → PlacesIn (cond b (x ∷ part) part) (x ∷ whole) i j
places_by true x part whole one two i zero before within = absurd (omega arith)
places_by true x part whole one two zero (suc j) before within = let r = one j (omega arith) in (0, suc r.0, omega arith, omega (arith, r.1), refl, r.2)
places_by true x part whole one two (suc i) (suc j) before within = let r = two i j (omega arith) (omega arith) in (suc r.0, suc r.1, omega (arith, r.2), omega (arith, r.3), r.4, r.5)
places_by false x part whole one two i j before within = let r = two i j before within in (suc r.0, suc r.1, omega (arith, r.2), omega (arith, r.3), r.4, r.5)

filter_places : (p : ℕ → Bool) (xs : List ℕ) (i j : ℕ) → i < j → j < length (filter p xs) → PlacesIn (filter p xs) xs i j
filter_places p [] i j before within = absurd (omega arith)
filter_places p (x ∷ xs) i j before within = places_by (p x) x (filter p xs) xs (filter_place p xs) (filter_places p xs) i j before within

pub filter_order : (p : ℕ → Bool) (xs : List ℕ) → KeepsOrder (filter p xs) xs
filter_order p xs = record { each = filter_place p xs; order = filter_places p xs }

-- two facts that one test decides
alike : {P Q : Type 0} (r : Bool) → Decides r P → Decides r Q → P ↔ Q
alike r d e = (λ p. e.0 (d.1 p), λ q. d.0 (e.1 q))

pub member : (xs : List ℕ) (x : ℕ) → Decides (is_member nat_eq xs x) (Contains xs x)
member xs x = is_member-Decides unsigned_Decides xs x

tested_alike : (test : ℕ → Bool) (q x : ℕ) → nat_eq q x ≡ true → test q ≡ test x
tested_alike test q x e = ap test ((unsigned_Decides q x).0 e)

filtered : (test : ℕ → Bool) (xs : List ℕ) (q : ℕ) → is_member nat_eq (filter test xs) q ≡ (is_member nat_eq xs q && test q)
filtered test xs q = is_member-filter nat_eq_equiv test q (tested_alike test q) xs

or_not : (a b : Bool) → (a || (b && not a)) ≡ (a || b)
or_not true b = refl
or_not false true = refl
or_not false false = refl

union_member : (xs ys : List ℕ) (q : ℕ) → is_member nat_eq (union xs ys) q ≡ (is_member nat_eq xs q || is_member nat_eq ys q)
union_member xs ys q =
    list_any-append (nat_eq q) xs (filter (λ rank. not (is_member nat_eq xs rank)) ys)
    ∙ ap (λ b. is_member nat_eq xs q || b) (filtered (λ rank. not (is_member nat_eq xs rank)) ys q)
    ∙ or_not (is_member nat_eq xs q) (is_member nat_eq ys q)

pub intersection_member : (xs ys : List ℕ) (q : ℕ) → is_member nat_eq (intersection xs ys) q ≡ (is_member nat_eq xs q && is_member nat_eq ys q)
intersection_member xs ys q = filtered (λ rank. is_member nat_eq ys rank) xs q

pub difference_member : (xs ys : List ℕ) (q : ℕ) → is_member nat_eq (difference xs ys) q ≡ (is_member nat_eq xs q && not (is_member nat_eq ys q))
difference_member xs ys q = filtered (λ rank. not (is_member nat_eq ys rank)) xs q

pub union_law : UnionLaw
union_law first second one two = record {
  members = λ rank. alike (is_member nat_eq (union first second) rank) (member (union first second) rank) (Decides-at (is_member nat_eq (union first second) rank) _ (union_member first second rank) (Decides-or _ _ (member first rank) (member second rank)));
  once = union_distinct first second one (filter_distinct (λ rank. not (is_member nat_eq first rank)) second two);
  front = take_at first (difference second first) (length first) refl;
  behind = rw (drop_at first (difference second first) (length first) refl) (filter_order (λ rank. not (is_member nat_eq first rank)) second);
}

pub intersection_law : IntersectionLaw
intersection_law first second one = record {
  members = λ rank. alike (is_member nat_eq (intersection first second) rank) (member (intersection first second) rank) (Decides-at (is_member nat_eq (intersection first second) rank) _ (intersection_member first second rank) (Decides-and _ _ (member first rank) (member second rank)));
  once = filter_distinct (λ rank. is_member nat_eq second rank) first one;
  order = filter_order (λ rank. is_member nat_eq second rank) first;
}

pub difference_law : DifferenceLaw
difference_law first second one = record {
  members = λ rank. alike (is_member nat_eq (difference first second) rank) (member (difference first second) rank) (Decides-at (is_member nat_eq (difference first second) rank) _ (difference_member first second rank) (Decides-and _ _ (member first rank) (Decides-not (is_member nat_eq second rank) (member second rank))));
  once = filter_distinct (λ rank. not (is_member nat_eq second rank)) first one;
  order = filter_order (λ rank. not (is_member nat_eq second rank)) first;
}

-- one filter after another
twice_by : (b c : Bool) (x : ℕ) (p : ℕ → Bool) (rest : List ℕ) (both : List ℕ) → p x ≡ c → filter p rest ≡ both → filter p (cond b (x ∷ rest) rest) ≡ cond (c && b) (x ∷ both) both
twice_by true true x p rest both e h = ap (λ d. cond d (x ∷ filter p rest) (filter p rest)) e ∙ ap (λ l. x ∷ l) h
twice_by true false x p rest both e h = ap (λ d. cond d (x ∷ filter p rest) (filter p rest)) e ∙ h
twice_by false true x p rest both e h = h
twice_by false false x p rest both e h = h

filter_twice : (p q : ℕ → Bool) (xs : List ℕ) → filter p (filter q xs) ≡ filter (λ x. p x && q x) xs
filter_twice p q [] = refl
filter_twice p q (x ∷ xs) = twice_by (q x) (p x) x p (filter q xs) (filter (λ y. p y && q y) xs) refl (filter_twice p q xs)

not_or : (a b : Bool) → not (a || b) ≡ (not a && not b)
not_or true b = refl
not_or false b = refl

and_comm : (a b : Bool) → (a && b) ≡ (b && a)
and_comm true true = refl
and_comm true false = refl
and_comm false true = refl
and_comm false false = refl

pub associates : Associates
associates = record {
  unions = λ a b c.
      let out : List ℕ → ℕ → Bool = λ xs rank. not (is_member nat_eq xs rank) in
      let last : filter (out (union a b)) c ≡ filter (out a) (filter (out b) c) =
      filter_agree (out (union a b)) (λ rank. out a rank && out b rank) (λ rank. ap not (union_member a b rank) ∙ not_or (is_member nat_eq a rank) (is_member nat_eq b rank)) c ∙ sym (filter_twice (out a) (out b) c) in
      append_assoc a (filter (out a) b) (filter (out (union a b)) c) ∙ ap (λ l. a ++ (filter (out a) b ++ l)) last ∙ ap (λ l. a ++ l) (sym (filter-append (out a) b (filter (out b) c)));
  intersections = λ a b c.
      let is_in : List ℕ → ℕ → Bool = λ xs rank. is_member nat_eq xs rank in
      filter_twice (is_in c) (is_in b) a ∙ filter_agree (λ rank. is_in c rank && is_in b rank) (is_in (intersection b c)) (λ rank. and_comm (is_in c rank) (is_in b rank) ∙ sym (intersection_member b c rank)) a;
}
