-- Groups that differ, and findings that a loop gathers.
use Rattle.std.proofs.Common.{◌≡◌, ℕ, zero, suc, ◌+◌, ◌<◌, Bool, true, false, cond, List, [], ◌∷◌, length, drop, get_or, Option, Some, None, eqb, refl, sym, ap, subst, ◌∙◌, inl, inr, arith}
use Rattle.std.specs.Prelude.{◌⊎◌, ◌↔◌}
use Rattle.std.specs.Option.{is_some}
use Rattle.std.proofs.lemmas.Bool.{eqb-true}
use Rattle.must_base.specs.Listing.{Has}
use Rattle.must_call.specs.declared.place.Place.{Place}
use Rattle.must_find.specs.declared.finding.Finding.{Finding}
use Rattle.must_find.specs.Adds.{Adds}
use Rattle.must_coll.specs.declared.item.WaveItem.{WaveItem}
use Rattle.must_coll.specs.Given.{GivenBy}
use Rattle.must_coll.specs.Made.{unlike_from}
use Rattle.must_coll.specs.Created.{call_of_member, other_place, first_by, first_other}

pub other_on : (ms : List ℕ) (calls : List WaveItem) (g xs : List ℕ) (i : ℕ) → i < length xs → other_place g (call_of_member ms calls (get_or xs i 0)) ≡ None → first_other ms calls g (drop i xs) ≡ first_other ms calls g (drop (suc i) xs)
other_on ms calls g [] i h e = absurd (omega (arith, h))
other_on ms calls g (x ∷ xs) zero h e = ap (λ (o : Option Place). first_by x o (first_other ms calls g xs)) e
other_on ms calls g (x ∷ xs) (suc i) h e = other_on ms calls g xs i (omega (arith, h)) e

same_by : (b : Bool) (i x y : ℕ) (xs ys : List ℕ) (o : Option ℕ) → eqb x y ≡ b → cond b o (Some i) ≡ None → (o ≡ None → xs ≡ ys) → x ∷ xs ≡ y ∷ ys
same_by true i x y xs ys o e n rest = ap (λ k. k ∷ xs) (eqb-true x y e) ∙ ap (λ (l : List ℕ). y ∷ l) (rest n)
same_by false i x y xs ys o e n rest = absurd (let q : Some i ≡ None = n in cc)

-- lists without a difference are equal
pub same_lists : (i : ℕ) (xs ys : List ℕ) → unlike_from i xs ys ≡ None → xs ≡ ys
unfolding unlike_from
same_lists i [] [] e = refl
same_lists i [] (y ∷ ys) e = absurd (let q : Some i ≡ None = e in cc)
same_lists i (x ∷ xs) [] e = absurd (let q : Some i ≡ None = e in cc)
same_lists i (x ∷ xs) (y ∷ ys) e = same_by (eqb x y) i x y xs ys (unlike_from (i + 1) xs ys) refl e (same_lists (i + 1) xs ys)

pub none_from_test : {X : Type 0} (o : Option X) → is_some o ≡ false → o ≡ None
none_from_test (Some x) e = let q : true ≡ false = e in cc
none_from_test None e = refl

pub drop_at : {X : Type 0} (xs : List X) (i : ℕ) (x : X) → i < length xs → x ≡ get_or xs i x → drop i xs ≡ x ∷ drop (suc i) xs
drop_at [] i x h e = absurd (omega (arith, h))
drop_at (y ∷ ys) zero x h e = ap (λ z. z ∷ ys) (sym e)
drop_at (y ∷ ys) (suc i) x h e = drop_at ys i x (omega (arith, h)) e

given_on : (row : WaveItem → Option Finding) (x : WaveItem) (rest : List WaveItem) (old new : List Finding) (T : Finding → Type 0) → Adds old new (λ f. row x ≡ Some f) → ((f : Finding) → (Has old f ⊎ GivenBy row (x ∷ rest) f) ↔ T f) → (f : Finding) → (Has new f ⊎ GivenBy row rest f) ↔ T f
given_on row x rest old new T adds inv f = (
  λ h. (inv f).0 (elim h [
    | inl there ↦ elim ((adds f).0 there) [ inl was ↦ inl was | inr r ↦ inr (inl r) ]
    | inr later ↦ inr (inr later)
  ]),
  λ t. elim ((inv f).1 t) [
    | inl was ↦ inl ((adds f).1 (inl was))
    | inr given ↦ elim given [ inl r ↦ inl ((adds f).1 (inr r)) | inr later ↦ inr later ]
  ],
)

-- one call more
pub given_more : (row : WaveItem → Option Finding) (calls : List WaveItem) (i : ℕ) (x : WaveItem) (old new : List Finding) (T : Finding → Type 0) → i < length calls → x ≡ get_or calls i x → Adds old new (λ f. row x ≡ Some f)
    → ((f : Finding) → (Has old f ⊎ GivenBy row (drop i calls) f) ↔ T f) → (f : Finding) → (Has new f ⊎ GivenBy row (drop (suc i) calls) f) ↔ T f
given_more row calls i x old new T h e adds inv =
    given_on row x (drop (suc i) calls) old new T adds (subst (λ (l : List WaveItem). (f : Finding) → (Has old f ⊎ GivenBy row l f) ↔ T f) (drop_at calls i x h e) inv)
