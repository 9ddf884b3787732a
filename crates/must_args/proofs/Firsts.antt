-- The first element that a filter keeps.
use Rattle.std.proofs.Common.{◌≡◌, ℕ, suc, ◌+◌, Bool, true, false, cond, not, List, [], ◌∷◌, length, Some, None, slice_get, refl, sym, ap, subst, ◌∙◌, nat_eq, eqb-true, le-ltb, arith}
use Rattle.std.specs.Prelude.{filter, position, nat_lt}
use Rattle.std.specs.List.{prefix_len}
use Rattle.std.specs.Cmp.{nat_eq_equiv}

same_number : (x y : ℕ) → Some x ≡ Some y → x ≡ y
same_number x y e = cc

no_number : (x : ℕ) → None ≡ Some x → ⊥
no_number x e = cc

some_number : (x : ℕ) → Some x ≡ None → ⊥
some_number x e = cc

chosen : {A : Type 0} (b : Bool) (x y z : A) → cond b x y ≡ z → (b ≡ true → x ≡ z) × (b ≡ false → y ≡ z)
chosen true x y z e = (λ h. e, λ h. let no : true ≡ false = h in cc)
chosen false x y z e = (λ h. let no : false ≡ true = h in cc, λ h. e)

bool_cases : {P : Type 0} (b : Bool) → (b ≡ true → P) → (b ≡ false → P) → P
bool_cases true t f = t refl
bool_cases false t f = f refl

kept_true : (p : ℕ → Bool) (xs : List ℕ) (x : ℕ) → slice_get (filter p xs) 0 ≡ Some x → p x ≡ true
kept_true p [] x e = absurd (no_number x e)
kept_true p (y ∷ ys) x e =
    bool_cases (p y)
    (λ h. let s = subst (λ b. slice_get (cond b (y ∷ filter p ys) (filter p ys)) 0 ≡ Some x) h e in ap p (sym (same_number y x s)) ∙ h)
    (λ h. kept_true p ys x (subst (λ b. slice_get (cond b (y ∷ filter p ys) (filter p ys)) 0 ≡ Some x) h e))

apart : (p : ℕ → Bool) (y x : ℕ) → p y ≡ false → p x ≡ true → nat_eq y x ≡ false
apart p y x out kept =
    bool_cases (nat_eq y x)
    (λ e. let no : false ≡ true = sym out ∙ ap p (eqb-true y x e) ∙ kept in cc)
    (λ e. e)

abbrev pub lengths : Bool → ℕ → ℕ
lengths b n = cond b (1 + n) 0

-- it stands where the first that passes the test stands
first_len : (p : ℕ → Bool) (xs : List ℕ) (x : ℕ) → slice_get (filter p xs) 0 ≡ Some x → prefix_len (λ m. not (nat_eq m x)) xs ≡ prefix_len (λ m. not (p m)) xs
first_len p [] x e = absurd (no_number x e)
first_len p (y ∷ ys) x e =
    bool_cases (p y)
    (λ h.
    let same = same_number y x (subst (λ b. slice_get (cond b (y ∷ filter p ys) (filter p ys)) 0 ≡ Some x) h e) in
    ap (λ m. lengths (not (nat_eq y m)) (prefix_len (λ n. not (nat_eq n x)) ys)) (sym same)
    ∙ ap (λ b. lengths (not b) (prefix_len (λ n. not (nat_eq n x)) ys)) (nat_eq_equiv.refl y)
    ∙ sym (ap (λ b. lengths (not b) (prefix_len (λ n. not (p n)) ys)) h))
    (λ h.
    let rest = subst (λ b. slice_get (cond b (y ∷ filter p ys) (filter p ys)) 0 ≡ Some x) h e in
    ap (λ b. lengths (not b) (prefix_len (λ n. not (nat_eq n x)) ys)) (apart p y x h (kept_true p ys x rest))
    ∙ ap (λ n. 1 + n) (first_len p ys x rest)
    ∙ sym (ap (λ b. lengths (not b) (prefix_len (λ n. not (p n)) ys)) h))

pub first_position : (p : ℕ → Bool) (xs : List ℕ) (x : ℕ) → slice_get (filter p xs) 0 ≡ Some x → position (λ m. nat_eq m x) xs ≡ position p xs
first_position p xs x e = ap (λ n. cond (nat_lt n (length xs)) (Some n) None) (first_len p xs x e)

one_more : (m n : ℕ) → m ≡ n → 1 + m ≡ suc n
one_more m n e = omega (arith, e)

none_len : (p : ℕ → Bool) (xs : List ℕ) → slice_get (filter p xs) 0 ≡ None → prefix_len (λ m. not (p m)) xs ≡ length xs
none_len p [] e = refl
none_len p (y ∷ ys) e =
    bool_cases (p y)
    (λ h. absurd (some_number y (subst (λ b. slice_get (cond b (y ∷ filter p ys) (filter p ys)) 0 ≡ None) h e)))
    (λ h.
    let rest = subst (λ b. slice_get (cond b (y ∷ filter p ys) (filter p ys)) 0 ≡ None) h e in
    ap (λ b. lengths (not b) (prefix_len (λ n. not (p n)) ys)) h ∙ one_more (prefix_len (λ n. not (p n)) ys) (length ys) (none_len p ys rest))

not_below : (n : ℕ) → nat_lt n n ≡ false
not_below n = le-ltb n n (omega arith)

pub first_nowhere : (p : ℕ → Bool) (xs : List ℕ) → slice_get (filter p xs) 0 ≡ None → None ≡ position p xs
first_nowhere p xs e =
    sym (ap (λ n. cond (nat_lt n (length xs)) (Some n) None) (none_len p xs e) ∙ ap (λ b. cond b (Some (length xs)) None) (not_below (length xs)))
