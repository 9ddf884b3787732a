-- A basic type is told by its number.
use Rattle.std.proofs.Common.{◌≡◌, refl, sym, ap, ◌∙◌, ℕ, ◌-◌, get_or}
use Rattle.must_call.specs.declared.basic.Basic.{Basic}
use Rattle.must_call.specs.declared.basic.Basic.TheVariants.{Char}
use Rattle.must_call.specs.Basics.{basics, number_of_basic}

pub basic_at : (b : Basic) → get_or basics (number_of_basic b - 1) Char ≡ b
basic_at Char = refl
basic_at _ = refl

pub same_number : (a b : Basic) → number_of_basic a ≡ number_of_basic b → a ≡ b
same_number a b e = sym (basic_at a) ∙ ap (λ (n : ℕ). get_or basics (n - 1) Char) e ∙ basic_at b
