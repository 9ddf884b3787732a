-- Which handle stands for which type after one handle more, and what tables have then.
use Rattle.std.proofs.Common.{◌≡◌, ℕ, zero, suc, ◌+◌, ◌-◌, ◌<◌, ◌≤◌, Bool, true, false, cond, ◌&&◌, List, [], ◌∷◌, ◌++◌, length, Option, Some, None, refl, sym, ap, ◌∙◌, inl, inr, arith}
use Rattle.std.specs.Prelude.{nat_le, slice_get, slice_set}
use Rattle.std.proofs.lemmas.Bool.{cases_lt, lt-leb, le-leb, leb-true}
use Rattle.std.proofs.lemmas.Option.{slice_get_past}
use Rattle.must_call.specs.declared.class.Class.TheVariants.{Datatype}
use Rattle.must_type.specs.declared.construct.TypeNo.{TypeNo}
use Rattle.must_type.specs.Tree.{TypeTree, Elementary, Made}
use Rattle.must_type.specs.declared.tree.Origin.TheVariants.{Predefined, Derived}
use Rattle.must_type.specs.Tree.{weight}
use Rattle.must_type.specs.Table.{tree_at, live_weight, slot_weight, IsDerived}
use Rattle.must_rules.specs.Lives.{is_predefined}
use Rattle.must_derived.specs.Numbers.{flat, number_of}

-- ---- lists

pub get_front : {X : Type 0} (xs ys : List X) (i : ℕ) → i < length xs → slice_get (xs ++ ys) i ≡ slice_get xs i
get_front [] ys i h = absurd (omega arith)
get_front (x ∷ xs) ys zero h = refl
get_front (x ∷ xs) ys (suc i) h = get_front xs ys i (omega arith)

pub get_there : {X : Type 0} (xs : List X) (x : X) → slice_get (xs ++ x ∷ []) (length xs) ≡ Some x
get_there [] x = refl
get_there (y ∷ xs) x = get_there xs x

-- ---- numbers

and_false : (b : Bool) → (b && false) ≡ false
and_false true = refl
and_false false = refl

-- a handle that a call may make isn't one that MPI names
pub made_handle : (handle : ℕ) → 64 ≤ handle → is_predefined Datatype handle ≡ false
unfolding is_predefined
made_handle handle high = ap (λ b. nat_le 1 handle && b) (lt-leb handle 30 (omega (arith, high))) ∙ and_false (nat_le 1 handle)

pub named_low : (handle : ℕ) → is_predefined Datatype handle ≡ true → handle < 64
unfolding is_predefined
named_low handle e = at (nat_le 1 handle) e
  where
    at : (b : Bool) → (b && nat_le handle 30) ≡ true → handle < 64
    at true f = omega (arith, leb-true handle 30 f)
    at false f = let bad : false ≡ true = f in absurd cc

-- what stands for a handle from 64 on
pub number_high : (numbers : List (Option TypeNo)) (handle : ℕ) → 64 ≤ handle → number_of numbers handle ≡ flat (slice_get numbers (handle - 64))
number_high numbers handle high =
    ap (λ b. cond b (Some (record { number = handle })) (cond (nat_le 64 handle) (flat (slice_get numbers (handle - 64))) None)) (made_handle handle high)
    ∙ ap (λ b. cond {A = Option TypeNo} b (flat (slice_get numbers (handle - 64))) None) (le-leb 64 handle high)

pub number_past : (numbers : List (Option TypeNo)) (handle : ℕ) → 64 + length numbers ≤ handle → number_of numbers handle ≡ None
number_past numbers handle past = number_high numbers handle (omega (arith, past)) ∙ ap flat (slice_get_past numbers (handle - 64) (omega (arith, past)))

pub number_new : (numbers : List (Option TypeNo)) (n : Option TypeNo) (handle : ℕ) → handle ≡ 64 + length numbers → number_of (numbers ++ n ∷ []) handle ≡ n
number_new numbers n handle is =
    number_high (numbers ++ n ∷ []) handle (omega (arith, is))
    ∙ ap (λ i. flat (slice_get (numbers ++ n ∷ []) i)) (let e : handle - 64 ≡ length numbers = omega (arith, is) in e)
    ∙ ap flat (get_there numbers n)

behind : {X : Type 0} (xs : List X) (x : X) (i : ℕ) → (i ≡ length xs → ⊥) → slice_get (xs ++ x ∷ []) i ≡ slice_get xs i
behind [] x zero other = absurd (other refl)
behind [] x (suc i) other = refl
behind (y ∷ xs) x zero other = refl
behind (y ∷ xs) x (suc i) other = behind xs x i (λ e. other (ap suc e))

pub number_other : (numbers : List (Option TypeNo)) (n : Option TypeNo) (handle : ℕ) → (handle ≡ 64 + length numbers → ⊥) → number_of (numbers ++ n ∷ []) handle ≡ number_of numbers handle
number_other numbers n handle other =
    elim (cases_lt handle 64) [
      | inl low ↦ (let below : nat_le 64 handle ≡ false = lt-leb 64 handle low in
          ap (λ b. cond (is_predefined Datatype handle) (Some (record { number = handle })) (cond b (flat (slice_get (numbers ++ n ∷ []) (handle - 64))) None)) below
          ∙ sym (ap (λ b. cond (is_predefined Datatype handle) (Some (record { number = handle })) (cond b (flat (slice_get numbers (handle - 64))) None)) below))
      | inr high ↦ number_high (numbers ++ n ∷ []) handle (omega (arith, high))
          ∙ ap flat (behind numbers n (handle - 64) (λ e. other (omega (arith, e, high))))
          ∙ sym (number_high numbers handle (omega (arith, high)))
    ]

-- a number that stands for a derived type is that of a made handle
pub number_made : (numbers : List (Option TypeNo)) (handle : ℕ) (n : TypeNo) → is_predefined Datatype handle ≡ false → number_of numbers handle ≡ Some n → (64 ≤ handle) × (handle < 64 + length numbers)
number_made numbers handle n pre e =
    let high : 64 ≤ handle = elim (cases_lt handle 64) [
      | inl low ↦ (let gone : number_of numbers handle ≡ None =
          ap (λ b. cond b (Some (record { number = handle })) (cond (nat_le 64 handle) (flat (slice_get numbers (handle - 64))) None)) pre
          ∙ ap (λ b. cond {A = Option TypeNo} b (flat (slice_get numbers (handle - 64))) None) (lt-leb 64 handle low) in
          let bad : None ≡ Some n = sym gone ∙ e in absurd cc)
      | inr h ↦ omega (arith, h)
    ] in (
      high,
      elim (cases_lt handle (64 + length numbers)) [
        | inl within ↦ within
        | inr past ↦ (let bad : None ≡ Some n = sym (number_past numbers handle (omega (arith, past))) ∙ e in absurd cc)
      ],
    )

-- ---- tables

pub tree_front : (slots : List (Option TypeTree)) (t : Option TypeTree) (n : ℕ) → n < length slots → tree_at (slots ++ t ∷ []) n ≡ tree_at slots n
tree_front [] t n h = absurd (omega arith)
tree_front (s ∷ slots) t zero h = refl
tree_front (s ∷ slots) t (suc n) h = tree_front slots t n (omega arith)

pub tree_there : (slots : List (Option TypeTree)) (t : Option TypeTree) → tree_at (slots ++ t ∷ []) (length slots) ≡ t
tree_there [] t = refl
tree_there (s ∷ slots) t = tree_there slots t

pub tree_set : (slots : List (Option TypeTree)) (m n : ℕ) → (n ≡ m → ⊥) → tree_at (slice_set slots m None) n ≡ tree_at slots n
tree_set [] m n other = refl
tree_set (s ∷ slots) zero zero other = absurd (other refl)
tree_set (s ∷ slots) zero (suc n) other = refl
tree_set (s ∷ slots) (suc m) zero other = refl
tree_set (s ∷ slots) (suc m) (suc n) other = tree_set slots m n (λ e. other (ap suc e))

pub tree_gone : (slots : List (Option TypeTree)) (n : ℕ) → tree_at (slice_set slots n None) n ≡ None
tree_gone [] n = refl
tree_gone (s ∷ slots) zero = refl
tree_gone (s ∷ slots) (suc n) = tree_gone slots n

pub set_length : (slots : List (Option TypeTree)) (n : ℕ) → length (slice_set slots n None) ≡ length slots
set_length [] n = refl
set_length (s ∷ slots) zero = refl
set_length (s ∷ slots) (suc n) = ap suc (set_length slots n)

pub weight_more : (slots : List (Option TypeTree)) (t : Option TypeTree) → live_weight (slots ++ t ∷ []) ≡ live_weight slots + slot_weight t
weight_more [] t = omega arith
weight_more (s ∷ slots) t = let e = weight_more slots t in omega (arith, e)

pub weight_set : (slots : List (Option TypeTree)) (n : ℕ) → live_weight slots ≡ slot_weight (tree_at slots n) + live_weight (slice_set slots n None)
weight_set [] n = refl
weight_set (s ∷ slots) zero = omega arith
weight_set (s ∷ slots) (suc n) = let e = weight_set slots n in omega (arith, e)

pub derived_weight : (t : TypeTree) → IsDerived (Some t) → slot_weight (Some t) ≡ weight t
derived_weight (Elementary b) h = absurd h
derived_weight (Made Predefined call olds) h = absurd h
derived_weight (Made Derived call olds) h = refl
