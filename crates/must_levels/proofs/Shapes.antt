-- Powers of a fan-in.
use Rattle.std.proofs.Common.{◌≡◌, ℕ, zero, suc, ◌+◌, ◌*◌, ◌^◌, ◌<◌, ◌≤◌, sym, ap, ◌∙◌, subst, arith, add-one, lt_of_not-le}
use Rattle.std.proofs.Math.Nat.{one-mul, pow-zero, mul-le-mul_left, one-le-pow, pow-suc}
use Rattle.std.proofs.lemmas.Nat.{mul-le}
use native.Mathlib.Decide.{dec_le}
use Rattle.must_levels.specs.Shape.{IsTree, IsLevels}

grows : (a f : ℕ) → 0 < a → 2 ≤ f → a + a ≤ a * f
grows a f pos two = let m = mul-le-mul_left a two in let e : a * 2 ≡ a + a = omega arith in omega (arith, m, e)

pub power_one : (f : ℕ) → f ^ 1 ≡ f
power_one f = pow-suc f zero ∙ (ap (λ n. n * f) (pow-zero f) ∙ one-mul f)

pub power_pos : (f l : ℕ) → 2 ≤ f → 0 < f ^ l
power_pos f l two = let p = one-le-pow l f (omega (arith, two)) in omega (arith, p)

pub power_next : (f l : ℕ) → f ^ (l + 1) ≡ f ^ l * f
power_next f l = ap (λ n. f ^ n) (add-one l) ∙ pow-suc f l

pub power_more : (f l : ℕ) → 2 ≤ f → f ^ l < f ^ (l + 1)
power_more f l two = let p = power_pos f l two in let g = grows (f ^ l) f p two in let e = power_next f l in omega (arith, p, g, e)

pub power_small : (f l n : ℕ) → f ^ l < n → n ≤ 1024 → f ≤ 64 → f ^ l * f ≤ 65536
power_small f l n lt small most = mul-le (f ^ l) f 1024 64 (omega (arith, lt, small)) most

-- a tree's root has at most so many places
pub power_of_levels : (n f l : ℕ) → IsTree n f → IsLevels n f l → f ^ l ≤ 65536
power_of_levels n f zero t is = let some = is.some in absurd (omega (arith, some))
power_of_levels n f (suc zero) t is = let e = power_one f in let most = t.3 in omega (arith, e, most)
power_of_levels n f (suc (suc k)) t is =
    elim (dec_le n (f ^ suc k)) [
      | yes le ↦ let least = is.least (suc k) (omega arith) le in absurd (omega (arith, least))
      | no gt ↦
          let lt = lt_of_not-le gt in
          let small = power_small f (suc k) n lt t.1 t.3 in
          subst (λ m. m ≤ 65536) (sym (pow-suc f (suc k))) small
    ]

pub power_le : (f i j : ℕ) → 2 ≤ f → i ≤ j → f ^ i ≤ f ^ j
power_le f zero zero two le = omega arith
power_le f (suc i) zero two le = absurd (omega (arith, le))
power_le f i (suc j) two le =
    elim (dec_le i j) [
      | yes low ↦
          let rest = power_le f i j two low in
          let more = power_more f j two in
          let same : f ^ (j + 1) ≡ f ^ suc j = ap (λ n. f ^ n) (add-one j) in
          omega (arith, rest, more, same)
      | no high ↦
          let gt = lt_of_not-le high in
          let e : i ≡ suc j = omega (arith, gt, le) in
          subst (λ n. f ^ i ≤ f ^ n) e (omega arith)
    ]

pub power_at : (n f count level : ℕ) → IsTree n f → IsLevels n f count → level ≤ count → f ^ level ≤ 65536
power_at n f count level t is le =
    let low = power_le f level count t.2 le in
    let high = power_of_levels n f count t is in
    omega (arith, low, high)

-- one level more, where the levels so far don't suffice
pub lower_more : (n f l : ℕ) → f ^ l < n → ((k : ℕ) → 1 ≤ k → k < l → f ^ k < n) → (k : ℕ) → 1 ≤ k → k < l + 1 → f ^ k < n
lower_more n f l lt lower k some below =
    elim (dec_le l k) [
      | yes ge ↦ subst (λ m. f ^ m < n) (let e : l ≡ k = omega (arith, ge, below) in e) lt
      | no less ↦ lower k some (lt_of_not-le less)
    ]

pub least_levels : (n f l : ℕ) → ((k : ℕ) → 1 ≤ k → k < l → f ^ k < n) → (k : ℕ) → 1 ≤ k → n ≤ f ^ k → l ≤ k
least_levels n f l lower k some le =
    elim (dec_le l k) [
      | yes done ↦ done
      | no less ↦ let lt = lower k some (lt_of_not-le less) in absurd (omega (arith, lt, le))
    ]
