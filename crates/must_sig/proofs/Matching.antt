-- One step of the comparison, and what the end of it says.
use Rattle.std.proofs.Common.{◌≡◌, refl, sym, ◌∙◌, ap, inl, inr, subst, arith, Bool, true, false, ℕ, zero, suc, ◌+◌, ◌-◌, ◌*◌, ◌≤◌, ◌<◌, ◌^◌, List, [], ◌∷◌, ◌++◌, Option, Some, None, length, drop, append_assoc, length-append}
use Rattle.std.specs.Prelude.{◌⊎◌, if◌then◌else◌, replicate, min, ◌==◌, option_map}
use Rattle.std.specs.Option.{IfSome}
use Rattle.std.specs.List.{slice_get}
use Rattle.std.proofs.lemmas.List.{length-replicate}
use Rattle.std.proofs.lemmas.Bool.Decides.{nat_tests}
use Rattle.must_call.specs.declared.basic.Basic.{Basic}
use Rattle.must_call.specs.Basics.{number_of_basic}
use Rattle.must_call.specs.BasicLaws.{same_number}
use Rattle.must_sig.specs.declared.run.Run.{Run}
use Rattle.must_sig.specs.declared.place.Place.{Place}
use Rattle.must_sig.specs.Signatures.{repeated, laid, Periods, expansion, unlike, is_same, difference, difference_by}
use Rattle.must_sig.specs.Places.{ahead, IsReady, Matched, AgreeBelow}
use Rattle.must_sig.proofs.Periods.{get_front, repeated_agree, repeated_length}

equal_numbers : (n m : ℕ) → n ≡ m → (n == m) ≡ true
equal_numbers n m e = grind (arith, nat_tests, e)

unequal_numbers : (n m : ℕ) → (n ≡ m → ⊥) → (n == m) ≡ false
unequal_numbers n m e = grind (arith, nat_tests, e)

pub same_is : (a b : Basic) → a ≡ b → is_same a b ≡ true
same_is a b e = equal_numbers (number_of_basic a) (number_of_basic b) (ap number_of_basic e)

pub differ_is : (a b : Basic) → (a ≡ b → ⊥) → is_same a b ≡ false
differ_is a b d = unequal_numbers (number_of_basic a) (number_of_basic b) (λ e. d (same_number a b e))

unlike_at : (front xs ys : List Basic) (x y : Basic) → is_same x y ≡ false → unlike (front ++ x ∷ xs) (front ++ y ∷ ys) ≡ Some (length front)
unfolding unlike
unlike_at [] xs ys x y h = rw h refl
unlike_at (f ∷ front) xs ys x y h = rw (same_is f f refl) (ap (option_map suc) (unlike_at front xs ys x y h))

pub unlike_none : (xs ys : List Basic) → ((i : ℕ) → i < length xs → i < length ys → slice_get xs i ≡ slice_get ys i) → unlike xs ys ≡ None
unfolding unlike
unlike_none [] ys h = refl
unlike_none (x ∷ xs) [] h = refl
unlike_none (x ∷ xs) (y ∷ ys) h =
    let first : Some x ≡ Some y = h 0 (omega arith) (omega arith) in
    let e : x ≡ y = cc in
    rw (same_is x y e) (ap (option_map suc) (unlike_none xs ys (λ i l m. h (suc i) (omega arith) (omega arith))))

head_of : (unit : List Run) (p : Place) → 0 < p.left → (rest : List Basic) × (ahead unit p ≡ p.basic ∷ rest)
unfolding ahead
head_of unit p h =
    let rest = laid (drop p.next unit) ++ repeated p.more (laid unit) in
    let s : p.left ≡ suc (p.left - 1) = omega arith in
    (replicate (p.left - 1) p.basic ++ rest, ap (λ n. replicate n p.basic ++ rest) s)

pub left_within : (unit : List Run) (p : Place) → p.left ≤ length (ahead unit p)
unfolding ahead
left_within unit p =
    let rest = laid (drop p.next unit) ++ repeated p.more (laid unit) in
    omega (arith, length-append (replicate p.left p.basic) rest, length-replicate p.left p.basic)

pub ahead_length : {xs ys : List Basic} {at : ℕ} {a b : List Basic} → Matched xs ys at a b → (length xs ≡ at + length a) × (length ys ≡ at + length b)
ahead_length {a = a} {b = b} m = (ap length m.left ∙ length-append m.front a ∙ ap (λ n. n + length a) m.count, ap length m.right ∙ length-append m.front b ∙ ap (λ n. n + length b) m.count)

-- before the end of the list a place has something at hand
pub at_hand : (unit : List Run) (p : Place) → IsReady unit p → 0 < length (ahead unit p) → 0 < p.left
at_hand unit p r h = elim (zero_or p.left) [ inl z ↦ let e = ap length (r.end z) in absurd (omega (arith, e)) | inr s ↦ s ]
  where
    zero_or : (n : ℕ) → (n ≡ 0) ⊎ (0 < n)
    zero_or zero = inl refl
    zero_or (suc n) = inr (omega arith)

pub matched_first : (xs ys : List Basic) → Matched xs ys 0 xs ys
matched_first xs ys = record { front = []; left = refl; right = refl; count = refl }

pub matched_more : (xs ys : List Basic) (at n : ℕ) (a b c d : List Basic) (x y : Basic) → Matched xs ys at a b → number_of_basic x ≡ number_of_basic y → a ≡ replicate n x ++ c → b ≡ replicate n y ++ d → Matched xs ys (at + n) c d
matched_more xs ys at n a b c d x y m e l r =
    let f = replicate n x in
    let same : replicate n y ≡ f = ap (replicate n) (sym (same_number x y e)) in
    record {
      front = m.front ++ f;
      left = m.left ∙ ap (λ l. m.front ++ l) l ∙ sym (append_assoc m.front f c);
      right = m.right ∙ ap (λ l. m.front ++ l) (r ∙ ap (λ l. l ++ d) same) ∙ sym (append_assoc m.front f d);
      count = length-append m.front f ∙ omega (arith, m.count, length-replicate n x);
    }

pub matched_differs : (xs ys : List Basic) (at : ℕ) (u v : List Run) (p q : Place) → Matched xs ys at (ahead u p) (ahead v q) → 0 < p.left → 0 < q.left → (number_of_basic p.basic ≡ number_of_basic q.basic → ⊥) → unlike xs ys ≡ Some at
matched_differs xs ys at u v p q m h k d =
    let a = head_of u p h in
    let b = head_of v q k in
    let l : xs ≡ m.front ++ p.basic ∷ a.0 = m.left ∙ ap (λ l. m.front ++ l) a.1 in
    let r : ys ≡ m.front ++ q.basic ∷ b.0 = m.right ∙ ap (λ l. m.front ++ l) b.1 in
    ap (λ l. unlike l ys) l ∙ ap (unlike (m.front ++ p.basic ∷ a.0)) r ∙ unlike_at m.front a.0 b.0 p.basic q.basic (unequal_numbers (number_of_basic p.basic) (number_of_basic q.basic) d) ∙ ap (λ (n : ℕ). Some n) m.count

pub matched_agree : (xs ys : List Basic) (at n : ℕ) (a b : List Basic) → Matched xs ys at a b → n ≤ at → AgreeBelow n xs ys
matched_agree xs ys at n a b m h = λ i k l r.
    let c = m.count in
    ap (λ l. slice_get l i) m.left ∙ get_front m.front a i (omega (arith, c)) ∙ sym (ap (λ l. slice_get l i) m.right ∙ get_front m.front b i (omega (arith, c)))

decided : (r : Option ℕ) (xs ys : List Basic) → IfSome r (λ at. unlike xs ys ≡ Some at) → (r ≡ None → unlike xs ys ≡ None) → r ≡ unlike xs ys
decided None xs ys s n = sym (n refl)
decided (Some at) xs ys s n = sym s

-- what was found over the stretch holds of the whole lists
pub settled : (a b : Periods) (stretch : ℕ) (r : Option ℕ) → ((j : ℕ) → j < length (laid a.unit) + length (laid b.unit) → j < length (expansion a) → j < length (expansion b) → j < stretch) → IfSome r (λ at. unlike (expansion a) (expansion b) ≡ Some at) → (r ≡ None → AgreeBelow stretch (expansion a) (expansion b)) → r ≡ unlike (expansion a) (expansion b)
settled a b stretch r w s n =
    decided r (expansion a) (expansion b) s (λ e. unlike_none (expansion a) (expansion b) (repeated_agree a.times b.times (laid a.unit) (laid b.unit) (λ j h k l. n e j (w j h k l) k l)))

pub settled_here : (a b : Periods) (u v : List Run) (s t far : ℕ) (r : Option ℕ) → u ≡ a.unit → s ≡ a.times → v ≡ b.unit → t ≡ b.times →
    far ≡ min (min (length (laid a.unit) + length (laid b.unit)) (length (expansion a))) (length (expansion b)) →
    IfSome r (λ at. unlike (repeated s (laid u)) (repeated t (laid v)) ≡ Some at) → (r ≡ None → AgreeBelow far (repeated s (laid u)) (repeated t (laid v))) → r ≡ unlike (expansion a) (expansion b)
settled_here a b u v s t far r eu es ev et f found none =
    let left : repeated s (laid u) ≡ expansion a = ap (λ (n : ℕ). repeated n (laid u)) es ∙ ap (λ (u : List Run). repeated a.times (laid u)) eu in
    let right : repeated t (laid v) ≡ expansion b = ap (λ (n : ℕ). repeated n (laid v)) et ∙ ap (λ (u : List Run). repeated b.times (laid u)) ev in
    let ys = repeated t (laid v) in
    settled a b far r (λ j h k l. omega (arith, f, h, k, l)) (subst (λ y. IfSome r (λ at. unlike (expansion a) y ≡ Some at)) right (subst (λ x. IfSome r (λ at. unlike x ys ≡ Some at)) left found))
    (λ e. subst (λ y. AgreeBelow far (expansion a) y) right (subst (λ x. AgreeBelow far x ys) left (none e)))

-- what is read of two signatures is within both
pub far_within : (a b : Periods) (u v : List Run) (s t far : ℕ) → u ≡ a.unit → s ≡ a.times → v ≡ b.unit → t ≡ b.times →
    far ≡ min (min (length (laid a.unit) + length (laid b.unit)) (length (expansion a))) (length (expansion b)) →
    (far ≤ s * length (laid u)) × (far ≤ t * length (laid v))
far_within a b u v s t far eu es ev et f =
    let left : length (expansion a) ≡ s * length (laid u) = repeated_length a.times (laid a.unit) ∙ ap (λ (n : ℕ). n * length (laid a.unit)) (sym es) ∙ ap (λ (u : List Run). s * length (laid u)) (sym eu) in
    let right : length (expansion b) ≡ t * length (laid v) = repeated_length b.times (laid b.unit) ∙ ap (λ (n : ℕ). n * length (laid b.unit)) (sym et) ∙ ap (λ (u : List Run). t * length (laid u)) (sym ev) in
    (omega (arith, f, left), omega (arith, f, right))

pub long_enough : (a : Periods) (u : List Run) (s : ℕ) → u ≡ a.unit → s ≡ a.times → length (expansion a) ≤ 2 ^ 126 → s * length (laid u) < 2 ^ 128
long_enough a u s eu es h =
    let left : length (expansion a) ≡ s * length (laid u) = repeated_length a.times (laid a.unit) ∙ ap (λ (n : ℕ). n * length (laid a.unit)) (sym es) ∙ ap (λ (u : List Run). s * length (laid u)) (sym eu) in
    omega (arith, h, left)

-- Lists without a difference are equal.
same_from : (a b : Basic) → is_same a b ≡ true → a ≡ b
same_from a b h = same_number a b (grind (arith, nat_tests, h))

no_step : (b : Bool) (o : Option ℕ) → (if b then option_map suc o else Some 0) ≡ None → (b ≡ true) × (o ≡ None)
no_step true None e = (refl, refl)
no_step true (Some n) e = cc
no_step false o e = cc

alike : (xs ys : List Basic) → unlike xs ys ≡ None → length xs ≡ length ys → xs ≡ ys
unfolding unlike
alike [] [] e h = refl
alike [] (y ∷ ys) e h = absurd (omega arith)
alike (x ∷ xs) [] e h = absurd (omega arith)
alike (x ∷ xs) (y ∷ ys) e h = let s = no_step (is_same x y) (unlike xs ys) e in ap (λ b. b ∷ xs) (same_from x y s.0) ∙ ap (λ l. y ∷ l) (alike xs ys s.1 (omega arith))

none_by : (o : Option ℕ) (n m : ℕ) → difference_by o n m ≡ None → (o ≡ None) × (n ≡ m)
none_by None n m e = (refl, by (n == m) refl e)
  where
    by : (b : Bool) → (n == m) ≡ b → (if b then None else Some (min n m)) ≡ None → n ≡ m
    by true h e = grind (arith, nat_tests, h)
    by false h e = cc
none_by (Some at) n m e = cc

pub equal_is : (xs ys : List Basic) → difference xs ys ≡ None → xs ≡ ys
equal_is xs ys e = let s = none_by (unlike xs ys) (length xs) (length ys) e in alike xs ys s.0 s.1

pub is_equal : (xs ys : List Basic) → xs ≡ ys → difference xs ys ≡ None
is_equal xs ys e = subst (λ y. difference xs y ≡ None) e (rw (unlike_none xs xs (λ i h k. refl), equal_numbers (length xs) (length xs) refl) refl)
