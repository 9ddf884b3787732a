-- Where signatures differ, the place is within what is received, which is short.
use Rattle.std.proofs.Common.{◌≡◌, ℕ, suc, ◌<◌, ◌≤◌, ◌^◌, Bool, true, false, cond, List, [], ◌∷◌, length, Option, Some, None, refl, arith}
use Rattle.std.specs.Option.{option_map}
use Rattle.must_call.specs.declared.basic.Basic.{Basic}
use Rattle.must_sig.specs.Signatures.{unlike, is_same, fit_by}
use Rattle.must_sig.specs.declared.fit.Fit.{Fit}
use Rattle.must_sig.specs.declared.fit.Fit.TheVariants.{Fits, Differs, TooLong}

-- the place can be a value of a finding
abbrev pub IsShort : Fit → Type 0
IsShort Fits = Unit {0}
IsShort (Differs at) = at ≤ 2 ^ 126
IsShort (TooLong at) = at ≤ 2 ^ 126

next_below : (o : Option ℕ) (n at : ℕ) → ((k : ℕ) → o ≡ Some k → k < n) → option_map suc o ≡ Some at → at < suc n
next_below None n at h e = absurd (let c : None ≡ Some at = e in cc)
next_below (Some k) n at h e = let s : suc k ≡ at = (let c : Some (suc k) ≡ Some at = e in cc) in let l = h k refl in omega (arith, s, l)

here_below : (b : Bool) (o : Option ℕ) (n at : ℕ) → ((k : ℕ) → o ≡ Some k → k < n) → cond b (option_map suc o) (Some 0) ≡ Some at → at < suc n
here_below true o n at h e = next_below o n at h e
here_below false o n at h e = let s : 0 ≡ at = (let c : Some 0 ≡ Some at = e in cc) in omega (arith, s)

pub unlike_below : (xs ys : List Basic) (at : ℕ) → unlike xs ys ≡ Some at → at < length ys
unfolding unlike
unlike_below [] ys at e = absurd (let c : None ≡ Some at = e in cc)
unlike_below (x ∷ xs) [] at e = absurd (let c : None ≡ Some at = e in cc)
unlike_below (x ∷ xs) (y ∷ ys) at e = here_below (is_same x y) (unlike xs ys) (length ys) at (λ k i. unlike_below xs ys k i) e

by_length : (b : Bool) (n : ℕ) → n ≤ 2 ^ 126 → IsShort (cond b Fits (TooLong n))
by_length true n h = tt
by_length false n h = h

fit_short : (o : Option ℕ) (n m : ℕ) → ((k : ℕ) → o ≡ Some k → k < m) → m ≤ 2 ^ 126 → IsShort (fit_by o n m)
fit_short None n m h s = by_length (Rattle.std.specs.Prelude.nat_le n m) m s
fit_short (Some k) n m h s = let l = h k refl in omega (arith, l, s)

pub is_short : (xs ys : List Basic) → length ys ≤ 2 ^ 126 → IsShort (fit_by (unlike xs ys) (length xs) (length ys))
is_short xs ys s = fit_short (unlike xs ys) (length xs) (length ys) (unlike_below xs ys) s
