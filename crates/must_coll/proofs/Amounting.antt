-- Differences of signatures, and searches over numbers.
use Rattle.std.proofs.Common.{◌≡◌, ℕ, zero, suc, ◌+◌, ◌≤◌, ◌<◌, ◌^◌, Bool, true, false, cond, List, [], ◌∷◌, length, Option, Some, None, eqb, refl, sym, ap, ◌∙◌, arith}
use Rattle.std.specs.Prelude.{min, IfSome, option_map}
use Rattle.must_call.specs.declared.basic.Basic.{Basic}
use Rattle.must_sig.specs.Signatures.{unlike, difference, difference_by, is_same}
use Rattle.must_coll.specs.Amounts.{first_number}

-- ---- a difference is no further than the first list goes

below_more : (o : Option ℕ) (n v : ℕ) → option_map suc o ≡ Some v → ((w : ℕ) → o ≡ Some w → w ≤ n) → v ≤ suc n
below_more None n v e h = let q : None ≡ Some v = e in cc
below_more (Some w) n v e h = let s : suc w ≡ v = let q : Some (suc w) ≡ Some v = e in cc in omega (arith, s, h w refl)

below_by : (b : Bool) (o : Option ℕ) (n v : ℕ) → cond b (option_map suc o) (Some 0) ≡ Some v → ((w : ℕ) → o ≡ Some w → w ≤ n) → v ≤ suc n
below_by true o n v e h = below_more o n v e h
below_by false o n v e h = let s : 0 ≡ v = let q : Some 0 ≡ Some v = e in cc in omega (arith, s)

unlike_below : (xs ys : List Basic) (v : ℕ) → unlike xs ys ≡ Some v → v ≤ length xs
unfolding unlike
unlike_below [] ys v e = let q : None ≡ Some v = e in cc
unlike_below (x ∷ xs) [] v e = let q : None ≡ Some v = e in cc
unlike_below (x ∷ xs) (y ∷ ys) v e = below_by (is_same x y) (unlike xs ys) (length xs) v e (unlike_below xs ys)

end_by : (b : Bool) (n m v : ℕ) → cond b None (Some (min n m)) ≡ Some v → v ≤ n
end_by true n m v e = let q : None ≡ Some v = e in cc
end_by false n m v e = let s : min n m ≡ v = let q : Some (min n m) ≡ Some v = e in cc in omega (arith, s)

difference_below : (o : Option ℕ) (n m v : ℕ) → ((w : ℕ) → o ≡ Some w → w ≤ n) → difference_by o n m ≡ Some v → v ≤ n
difference_below None n m v h e = end_by (eqb n m) n m v e
difference_below (Some w) n m v h e = h v e

some_small : (r : Option ℕ) (n : ℕ) → ((v : ℕ) → r ≡ Some v → v ≤ n) → n ≤ 2 ^ 126 → IfSome r (λ v. v ≤ 2 ^ 126)
some_small None n h less = tt
some_small (Some v) n h less = let q = h v refl in omega (arith, q, less)

pub small_difference : (r : Option ℕ) (xs ys : List Basic) → r ≡ difference xs ys → length xs ≤ 2 ^ 126 → IfSome r (λ v. v ≤ 2 ^ 126)
small_difference r xs ys e less = some_small r (length xs) (λ v is. difference_below (unlike xs ys) (length xs) (length ys) v (unlike_below xs ys) (sym e ∙ is)) less

-- ---- the first number that passes

pub number_here : (p : ℕ → Bool) (j count : ℕ) → 0 < count → p j ≡ true → first_number p j count ≡ Some j
unfolding first_number
number_here p j zero h e = absurd (omega (arith, h))
number_here p j (suc count) h e = ap (λ b. cond b (Some j) (first_number p (j + 1) count)) e

pub number_on : (p : ℕ → Bool) (j count rest : ℕ) → count ≡ suc rest → p j ≡ false → first_number p j count ≡ first_number p (j + 1) rest
unfolding first_number
number_on p j count rest s e = ap (λ n. first_number p j n) s ∙ ap (λ b. cond b (Some j) (first_number p (j + 1) rest)) e

pub number_none : (p : ℕ → Bool) (j count : ℕ) → count ≡ 0 → first_number p j count ≡ None
unfolding first_number
number_none p j count e = ap (λ n. first_number p j n) e
