-- Sums over the numbers below one.
use Rattle.std.proofs.Common.{◌≡◌, ℕ, zero, suc, ◌+◌, ◌<◌, refl, sym, ap, ◌∙◌, inl, inr, arith}
use Rattle.std.proofs.lemmas.Bool.{cases_lt}
use Rattle.must_rules.specs.Types.{sum_below}

pub sum_same : (f g : ℕ → ℕ) (n : ℕ) → ((i : ℕ) → i < n → f i ≡ g i) → sum_below f n ≡ sum_below g n
sum_same f g zero same = refl
sum_same f g (suc n) same =
    let before = sum_same f g n (λ i h. same i (omega (arith, h))) in
    let last = same n (omega arith) in
    omega (arith, before, last)

-- one term leaves, and the others stay
pub sum_without : (f g : ℕ → ℕ) (n j : ℕ) → j < n → g j ≡ 0 → ((i : ℕ) → i < n → (i ≡ j → ⊥) → f i ≡ g i) → sum_below f n ≡ f j + sum_below g n
sum_without f g zero j h gone same = absurd (omega (arith, h))
sum_without f g (suc n) j h gone same =
    elim (cases_lt j n) [
      | inl within ↦ (let before = sum_without f g n j within gone (λ i below other. same i (omega (arith, below)) other) in
          let last = same n (omega arith) (λ e. omega (arith, e, within)) in
          omega (arith, before, last))
      | inr past ↦ (let is : j ≡ n = omega (arith, past, h) in
          let before = sum_same f g n (λ i below. same i (omega (arith, below)) (λ e. omega (arith, e, is, below))) in
          let here : f j ≡ f n = ap f is in
          let none : g n ≡ 0 = ap g (sym is) ∙ gone in
          omega (arith, before, here, none))
    ]
