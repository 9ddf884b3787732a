-- Lists that are made rank by rank.
use Rattle.std.proofs.Common.{◌≡◌, ℕ, zero, suc, length, get_or, ◌+◌, ◌<◌, ◌⊎◌, true, false, Result, Ok, Err, List, [], ◌∷◌, ◌++◌, refl, sym, ap, subst, ◌∙◌, inl, inr, arith, Ordering, Less, slice_index}
use Rattle.std.specs.Cmp.{nat_cmp_is}
use Rattle.std.specs.List.{AllByRecursion}
use Rattle.std.specs.List.Sorted.{IsStrictlySortedBy}
use Rattle.std.specs.Option.{is_some}
use Rattle.std.specs.Result.{IfOk}
use Rattle.std.specs.Ordering.{nat_cmp}
use Rattle.std.proofs.lemmas.Bool.{cases_order, true≢false}
use Rattle.must_call.specs.declared.place.Place.{Place}
use Rattle.must_base.specs.Listing.{Has, Rises, Lists}
use Rattle.must_find.specs.Order.{by_spot}
use Rattle.must_wait.specs.Counted.{IsNext}
use Rattle.must_wait.specs.Needs.{Rows, needs_of}

all_last : {X : Type 0} (P : X → Type 0) (xs : List X) (x : X) → AllByRecursion P xs → P x → AllByRecursion P (xs ++ x ∷ [])
all_last P [] x all h = (h, tt)
all_last P (y ∷ ys) x all h = (all.0, all_last P ys x all.1 h)

pub rises_last : {X : Type 0} (order : X → X → Ordering) (xs : List X) (x : X) → Rises order xs → ((y : X) → Has xs y → order y x ≡ Less) → Rises order (xs ++ x ∷ [])
unfolding IsStrictlySortedBy
rises_last order [] x r h = (tt, tt)
rises_last order (y ∷ ys) x r h = (all_last (λ z. order y z ≡ Less) ys x r.0 (h y (inl refl)), rises_last order ys x r.1 (λ z k. h z (inr k)))

pub has_more : {X : Type 0} (xs : List X) (x z : X) → Has xs z → Has (xs ++ x ∷ []) z
has_more [] x z h = absurd h
has_more (y ∷ ys) x z (inl e) = inl e
has_more (y ∷ ys) x z (inr h) = inr (has_more ys x z h)

pub has_front : {X : Type 0} (xs ys : List X) (z : X) → Has xs z → Has (xs ++ ys) z
has_front [] ys z h = absurd h
has_front (x ∷ xs) ys z (inl e) = inl e
has_front (x ∷ xs) ys z (inr h) = inr (has_front xs ys z h)

pub each_item : {X : Type 0} (P : X → Type 0) (xs : List X) → ((k : ℕ) (d : X) → k < length xs → P (get_or xs k d)) → (x : X) → Has xs x → P x
each_item P [] all x h = absurd h
each_item P (y ∷ ys) all x (inl e) = subst P (sym e) (all 0 y (omega arith))
each_item P (y ∷ ys) all x (inr h) = each_item P ys (λ k d less. all (suc k) d (omega arith)) x h

pub has_get : {X : Type 0} (xs : List X) (k : ℕ) (d x : X) → k < length xs → x ≡ get_or xs k d → Has xs x
has_get [] k d x h e = absurd (omega arith)
has_get (y ∷ ys) zero d x h e = inl e
has_get (y ∷ ys) (suc k) d x h e = inr (has_get ys k d x (omega arith) e)

pub has_last : {X : Type 0} (xs : List X) (x : X) → Has (xs ++ x ∷ []) x
has_last [] x = inl refl
has_last (y ∷ ys) x = inr (has_last ys x)

pub has_or : {X : Type 0} (xs : List X) (x z : X) → Has (xs ++ x ∷ []) z → Has xs z ⊎ (z ≡ x)
has_or [] x z (inl e) = inr e
has_or [] x z (inr h) = absurd h
has_or (y ∷ ys) x z (inl e) = inl (inl e)
has_or (y ∷ ys) x z (inr h) = elim (has_or ys x z h) [ inl k ↦ inl (inr k) | inr e ↦ inr e ]

pub less_is : (a b : ℕ) → a < b → nat_cmp a b ≡ Less
less_is a b h = sym (nat_cmp_is a b Less h)

pub spot_less : (s t : Place) → s.rank < t.rank → by_spot s t ≡ Less
spot_less s t h = rw (less_is s.rank t.rank h) refl

place_of : ℕ → ℕ → Place
place_of rank call = record { rank = rank; call = call }

alike : (a b c d : ℕ) → a ≡ c → b ≡ d → place_of a b ≡ place_of c d
alike a b c d e f = cc

pub same_place : (s t : Place) → s.rank ≡ t.rank → s.call ≡ t.call → s ≡ t
unfolding place_of
same_place s t e f = alike s.rank s.call t.rank t.call e f

-- the next calls of the ranks below a number
abbrev pub NextBelow : Rows → List ℕ → ℕ → Place → Type 0
NextBelow rows done at place = (place.rank < at) × IsNext rows done place

pub no_next : (rows : Rows) (done : List ℕ) → Lists by_spot (NextBelow rows done 0) []
unfolding IsStrictlySortedBy
no_next rows done = record { rises = tt; exact = λ x. (λ h. absurd h, λ h. absurd (omega (arith, h.0))) }

pub next_push : (rows : Rows) (done : List ℕ) (at : ℕ) (items more : List Place) (p : Place) → p.rank ≡ at → p.call ≡ slice_index done at → is_some (needs_of rows p.rank p.call) ≡ true → more ≡ items ++ p ∷ []
    → Lists by_spot (NextBelow rows done at) items → Lists by_spot (NextBelow rows done (at + 1)) more
next_push rows done at items more p pr pc call e l = subst (Lists by_spot (NextBelow rows done (at + 1))) (sym e) (record {
  rises = rises_last by_spot items p l.rises (λ y h. spot_less y p (omega (arith, ((l.exact y).0 h).0)));
  exact = λ x. (
    λ h. elim (has_or items p x h) [
      | inl old ↦ (let k = (l.exact x).0 old in (omega (arith, k.0), k.1))
      | inr same ↦ subst (NextBelow rows done (at + 1)) (sym same) (omega arith, record { next = pc ∙ ap (slice_index done) (sym pr); is_call = call })
    ],
    λ h. elim (cases_order x.rank at) [
      | inl same ↦ subst (λ z. Has (items ++ p ∷ []) z) (same_place p x (pr ∙ sym same) (pc ∙ ap (slice_index done) (sym same) ∙ sym h.1.next)) (has_last items p)
      | inr (inl below) ↦ has_more items p x ((l.exact x).1 (below, h.1))
      | inr (inr above) ↦ absurd (omega (arith, h.0))
    ],
  );
})

pub next_skip : (rows : Rows) (done : List ℕ) (at : ℕ) (items : List Place) → is_some (needs_of rows at (slice_index done at)) ≡ false
    → Lists by_spot (NextBelow rows done at) items → Lists by_spot (NextBelow rows done (at + 1)) items
next_skip rows done at items none l = record {
  rises = l.rises;
  exact = λ x. (
    λ h. (let k = (l.exact x).0 h in (omega (arith, k.0), k.1)),
    λ h. elim (cases_order x.rank at) [
      | inl same ↦ absurd (true≢false (sym h.1.is_call ∙ ap (λ k. is_some (needs_of rows x.rank k)) h.1.next ∙ ap (λ r. is_some (needs_of rows r (slice_index done r))) same ∙ none))
      | inr (inl below) ↦ (l.exact x).1 (below, h.1)
      | inr (inr above) ↦ absurd (omega (arith, h.0))
    ],
  );
}

pub listed_as : {X : Type 0} (order : X → X → Ordering) (P Q : X → Type 0) (xs : List X) → ((x : X) → P x → Q x) → ((x : X) → Q x → P x) → Lists order P xs → Lists order Q xs
listed_as order P Q xs to back l = record { rises = l.rises; exact = λ x. (λ h. to x ((l.exact x).0 h), λ h. (l.exact x).1 (back x h)) }

pub if_ok : {T E : Type 0} {P Q : T → Type 0} (r : Result T E) → ((x : T) → P x → Q x) → IfOk r P → IfOk r Q
if_ok (Ok x) f h = f x h
if_ok (Err e) f h = h
