-- Slots of a table of what a rank knows.
use Rattle.std.proofs.Common.{◌≡◌, ℕ, zero, suc, ◌+◌, ◌-◌, ◌<◌, ◌≤◌, ◌==◌, Bool, true, false, cond, List, [], ◌∷◌, ◌++◌, length, get_or, set, Option, Some, None, refl, sym, ap, subst, ◌∙◌, inl, inr, arith}
use Rattle.std.specs.Prelude.{◌⊎◌, slice_get}
use Rattle.std.specs.Option.{option_map}
use Rattle.std.proofs.lemmas.Bool.{cases_lt, le-leb, lt-leb, eq-eqb, eqb-true}
use Rattle.std.proofs.lemmas.List.{length-set, get_or-set_same}
use Rattle.std.proofs.lemmas.Option.{slice_get_past, slice_get-get_or}
use Rattle.must_local.specs.Objects.{place_of, slot_in, slot_of}
use Rattle.must_local.specs.Bumps.{bumped, Bumps}
use Rattle.must_local.specs.declared.known.Known.{Known}

push_same : (xs : List Known) (x : Known) → slice_get (xs ++ x ∷ []) (length xs) ≡ Some x
push_same [] x = refl
push_same (y ∷ ys) x = push_same ys x

push_other : (xs : List Known) (x : Known) (i : ℕ) → (i ≡ length xs → ⊥) → slice_get (xs ++ x ∷ []) i ≡ slice_get xs i
push_other [] x zero other = absurd (other refl)
push_other [] x (suc i) other = refl
push_other (y ∷ ys) x zero other = refl
push_other (y ∷ ys) x (suc i) other = push_other ys x i (λ e. other (ap suc e))

-- ---- places

abbrev low : ℕ → Option ℕ
low h = cond (h == 1) (Some 0) (cond (h == 2) (Some 1) None)

high_place : (h : ℕ) → 64 ≤ h → place_of h ≡ Some (h - 62)
high_place h w = ap (λ b. cond b (Some (h - 62)) (low h)) (le-leb 64 h w)

low_place : (h : ℕ) → h < 64 → place_of h ≡ low h
low_place h w = ap (λ b. cond b (Some (h - 62)) (low h)) (lt-leb 64 h w)

some_is : (a b : ℕ) → Some a ≡ Some b → a ≡ b
some_is a b e = cc

none_is : (b : ℕ) {P : Type 0} → None ≡ Some b → P
none_is b e = absurd cc

abbrev StandsAt : ℕ → ℕ → Type 0
StandsAt h p = ((64 ≤ h) × (h ≡ p + 62)) ⊎ (((h ≡ 1) × (p ≡ 0)) ⊎ ((h ≡ 2) × (p ≡ 1)))

back_low : (h p : ℕ) (b c : Bool) → (h == 1) ≡ b → (h == 2) ≡ c → cond b (Some 0) (cond c (Some 1) None) ≡ Some p → StandsAt h p
back_low h p true c e f g = inr (inl (eqb-true h 1 e, sym (some_is 0 p g)))
back_low h p false true e f g = inr (inr (eqb-true h 2 f, sym (some_is 1 p g)))
back_low h p false false e f g = none_is p g

place_back : (h p : ℕ) → place_of h ≡ Some p → StandsAt h p
place_back h p e =
    elim (cases_lt h 64) [
      | inl less ↦ back_low h p (h == 1) (h == 2) refl refl (sym (low_place h less) ∙ e)
      | inr more ↦ (let i = some_is (h - 62) p (sym (high_place h more) ∙ e) in inl (more, omega (arith, i, more)))
    ]

place_one : (a b p : ℕ) → place_of a ≡ Some p → place_of b ≡ Some p → a ≡ b
place_one a b p e f =
    elim (place_back a p e) [
      | inl x ↦ elim (place_back b p f) [
        | inl y ↦ omega (arith, x.1, y.1)
        | inr (inl y) ↦ omega (arith, x.0, x.1, y.1)
        | inr (inr y) ↦ omega (arith, x.0, x.1, y.1)
      ]
      | inr (inl x) ↦ elim (place_back b p f) [
        | inl y ↦ omega (arith, y.0, y.1, x.1)
        | inr (inl y) ↦ omega (arith, x.0, y.0)
        | inr (inr y) ↦ omega (arith, x.1, y.1)
      ]
      | inr (inr x) ↦ elim (place_back b p f) [
        | inl y ↦ omega (arith, y.0, y.1, x.1)
        | inr (inl y) ↦ omega (arith, x.1, y.1)
        | inr (inr y) ↦ omega (arith, x.0, y.0)
      ]
    ]

-- ---- one handle more

pub slot_new : (xs : List Known) (x : Known) (h : ℕ) → 2 ≤ length xs → h ≡ 62 + length xs → slot_of (xs ++ x ∷ []) h ≡ Some x
slot_new xs x h two is =
    let i : h - 62 ≡ length xs = omega (arith, is) in
    ap (slot_in (xs ++ x ∷ [])) (high_place h (omega (arith, two, is))) ∙ ap (λ n. slice_get (xs ++ x ∷ []) n) i ∙ push_same xs x

pub slot_past : (xs : List Known) (h : ℕ) → 2 ≤ length xs → h ≡ 62 + length xs → slot_of xs h ≡ None
slot_past xs h two is = ap (slot_in xs) (high_place h (omega (arith, two, is))) ∙ slice_get_past xs (h - 62) (omega (arith, is))

other_at : (xs : List Known) (x : Known) (h : ℕ) (o : Option ℕ) → place_of h ≡ o → 2 ≤ length xs → (h ≡ 62 + length xs → ⊥) → slot_in (xs ++ x ∷ []) o ≡ slot_in xs o
other_at xs x h None e two other = refl
other_at xs x h (Some p) e two other =
    push_other xs x p (λ same. elim (place_back h p e) [
      | inl a ↦ other (omega (arith, a.1, same))
      | inr (inl a) ↦ omega (arith, two, same, a.1)
      | inr (inr a) ↦ omega (arith, two, same, a.1)
    ])

pub slot_other : (xs : List Known) (x : Known) (h : ℕ) → 2 ≤ length xs → (h ≡ 62 + length xs → ⊥) → slot_of (xs ++ x ∷ []) h ≡ slot_of xs h
slot_other xs x h two other = other_at xs x h (place_of h) refl two other

-- ---- one call more

none_there : (number : ℕ) (xs : List Known) → slot_of xs number ≡ None → Bumps number xs xs
none_there number xs none = record { size = refl; each = λ h. at h (h == number) refl }
  where
    at : (h : ℕ) (b : Bool) → (h == number) ≡ b → slot_of xs h ≡ cond b (option_map bumped (slot_of xs h)) (slot_of xs h)
    at h false e = refl
    at h true e = let gone : slot_of xs h ≡ None = ap (slot_of xs) (eqb-true h number e) ∙ none in gone ∙ sym (ap (option_map bumped) gone)

pub bumps_nothing : (number : ℕ) (xs : List Known) → place_of number ≡ None → Bumps number xs xs
bumps_nothing number xs e = none_there number xs (ap (slot_in xs) e)

pub bumps_past : (number place : ℕ) (xs : List Known) → place_of number ≡ Some place → length xs ≤ place → Bumps number xs xs
bumps_past number place xs e past = none_there number xs (ap (slot_in xs) e ∙ slice_get_past xs place past)

set_other : (xs : List Known) (i j : ℕ) (y : Known) → (j ≡ i → ⊥) → slice_get (set xs i y) j ≡ slice_get xs j
set_other [] i j y apart = refl
set_other (x ∷ xs) zero zero y apart = absurd (apart refl)
set_other (x ∷ xs) zero (suc j) y apart = refl
set_other (x ∷ xs) (suc i) zero y apart = refl
set_other (x ∷ xs) (suc i) (suc j) y apart = set_other xs i j y (λ e. apart (ap suc e))

pub bumps_one : (number place : ℕ) (xs new : List Known) (d : Known) → place_of number ≡ Some place → place < length xs → new ≡ set xs place (bumped (get_or xs place d)) → Bumps number xs new
bumps_one number place xs new d e within is = subst (Bumps number xs) (sym is) (record { size = length-set xs place y; each = λ h. at h (h == number) refl })
  where
    y : Known
    y = bumped (get_or xs place d)

    other : (h : ℕ) (o : Option ℕ) → place_of h ≡ o → (h ≡ number → ⊥) → slot_in (set xs place y) o ≡ slot_in xs o
    other h None f apart = refl
    other h (Some p) f apart = set_other xs place p y (λ same. apart (place_one h number p f (e ∙ ap Some (sym same))))

    at : (h : ℕ) (b : Bool) → (h == number) ≡ b → slot_of (set xs place y) h ≡ cond b (option_map bumped (slot_of xs h)) (slot_of xs h)
    at h false f = other h (place_of h) refl (λ same. let bad : false ≡ true = sym f ∙ eq-eqb h number same in cc)
    at h true f =
        let here : place_of h ≡ Some place = ap place_of (eqb-true h number f) ∙ e in
        let long : place < length (set xs place y) = omega (arith, within, length-set xs place y) in
        ap (slot_in (set xs place y)) here ∙ slice_get-get_or (set xs place y) place d long ∙ ap Some (get_or-set_same xs place y d within)
        ∙ sym (ap (option_map bumped) (ap (slot_in xs) here ∙ slice_get-get_or xs place d within))
