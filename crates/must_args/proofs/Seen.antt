-- A set of the requests seen.
use Rattle.std.proofs.Common.{◌≡◌, ℕ, ◌+◌, ◌<◌, inl, inr, Bool, true, false, cond, not, ◌||◌, List, length, take, get_or, refl, sym, ap, ◌∙◌, arith, nat_eq, eqb-true, eq-eqb, Less, Equal, Greater}
use Rattle.std.specs.Ordering.{nat_cmp, is_eq}
use Rattle.std.specs.Cmp.{nat_cmp_is}
use Rattle.std.specs.Set.{is_member}
use Rattle.std.proofs.lemmas.Bool.{cases_order}
use Rattle.std.proofs.lemmas.List.Folds.{list_any_more}

unequal : (b : Bool) (h k : ℕ) → nat_eq h k ≡ b → (h ≡ k → ⊥) → false ≡ b
unequal false h k e apart = refl
unequal true h k e apart = absurd (apart (eqb-true h k e))

same_number : (k h : ℕ) → is_eq (nat_cmp k h) ≡ nat_eq h k
same_number k h = elim (cases_order k h) [
  | inl e ↦ ap is_eq (sym (nat_cmp_is k h Equal e)) ∙ sym (eq-eqb h k (sym e))
  | inr (inl less) ↦ ap is_eq (sym (nat_cmp_is k h Less less)) ∙ unequal (nat_eq h k) h k refl (λ e. omega arith)
  | inr (inr more) ↦ ap is_eq (sym (nat_cmp_is k h Greater more)) ∙ unequal (nat_eq h k) h k refl (λ e. omega arith)
]

either_way : (a b : Bool) → cond a true b ≡ (b || a)
either_way true true = refl
either_way true false = refl
either_way false true = refl
either_way false false = refl

pub seen_more : (k h : ℕ) (b : Bool) → cond (is_eq (nat_cmp k h)) true b ≡ (b || nat_eq h k)
seen_more k h b = ap (λ a. cond a true b) (same_number k h) ∙ either_way (nat_eq h k) b

pub not_not : (b : Bool) → not (not b) ≡ b
not_not true = refl
not_not false = refl

pub member_more : (xs : List ℕ) (i h : ℕ) → i < length xs → is_member nat_eq (take (i + 1) xs) h ≡ (is_member nat_eq (take i xs) h || nat_eq h (get_or xs i 0))
member_more xs i h within = list_any_more (nat_eq h) xs i 0 within
