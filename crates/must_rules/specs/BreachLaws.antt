-- What is found at a place, and what stands in a list of breaches.
use Rattle.std.proofs.Common.{◌≡◌, ℕ, Bool, true, false, cond, ◌&&◌, List, [], ◌∷◌, Some, None, refl, sym, ap, ◌∙◌, inl, inr, nat_eq, eqb-true, eq-eqb, Equal}
use Rattle.std.specs.Prelude.{find}
use Rattle.std.specs.Cmp.{nat_cmp_is}
use Rattle.must_find.specs.declared.rule.Rule.{Rule}
use Rattle.must_find.specs.Rules.{rule_place}
use Rattle.must_find.specs.RuleLaws.{rule_same}
use Rattle.must_base.specs.Listing.{Has}
use Rattle.must_rules.specs.Answer.{Answer}
use Rattle.must_rules.specs.Breaches.{Breach, see_at, same_rule, stands_at, answer_of, answer_at}

both : (a b : Bool) → (a && b) ≡ true → (a ≡ true) × (b ≡ true)
both true true e = (refl, refl)
both true false e = let bad : false ≡ true = e in cc
both false b e = let bad : false ≡ true = e in cc

-- a breach at a place of the table and at a part
pub record StandsAt (rule : Rule) (part : ℕ) (b : Breach) : Type 0 where
  pub rule_is : b.rule ≡ rule
  pub part_is : b.part ≡ part

pub stands_there : (rule : Rule) (part : ℕ) (b : Breach) → stands_at rule part b ≡ true → StandsAt rule part b
stands_there rule part b e =
    let p = both (same_rule b.rule rule) (nat_eq b.part part) e in
    record { rule_is = rule_same b.rule rule (sym (nat_cmp_is (rule_place b.rule) (rule_place rule) Equal (eqb-true (rule_place b.rule) (rule_place rule) p.0))); part_is = eqb-true b.part part p.1 }

pub stands_here : (rule : Rule) (part : ℕ) (b : Breach) → StandsAt rule part b → stands_at rule part b ≡ true
stands_here rule part b s =
    ap (λ x. x && nat_eq b.part part) (eq-eqb (rule_place b.rule) (rule_place rule) (ap rule_place s.rule_is)) ∙ eq-eqb b.part part s.part_is

bool_cases : {P : Type 0} (b : Bool) → (b ≡ true → P) → (b ≡ false → P) → P
bool_cases true t f = t refl
bool_cases false t f = f refl

-- what stands at a place is found there, where nothing else stands
pub has_answer : (rank : ℕ) (bs : List Breach) (rule : Rule) (part : ℕ) (x : Breach) → ((y : Breach) → Has bs y → StandsAt rule part y → y ≡ x) → Has bs x → StandsAt rule part x → answer_at rank bs rule part ≡ Some (see_at rank x.see, x.value)
has_answer rank [] rule part x once h s = absurd h
has_answer rank (b ∷ bs) rule part x once h s =
    bool_cases (stands_at rule part b)
    (λ e. ap (λ t. answer_of rank (cond t (Some b) (find (stands_at rule part) bs))) e ∙ ap (λ (y : Breach). answer_of rank (Some y)) (once b (inl refl) (stands_there rule part b e)))
    (λ e.
    let behind : Has bs x = elim h [ inl same ↦ (let bad : true ≡ false = sym (stands_here rule part x s) ∙ ap (stands_at rule part) same ∙ e in absurd cc) | inr k ↦ k ] in
    ap (λ t. answer_of rank (cond t (Some b) (find (stands_at rule part) bs))) e ∙ has_answer rank bs rule part x (λ y k t. once y (inr k) t) behind s)

-- what is found stands there
pub record Found (rank : ℕ) (bs : List Breach) (rule : Rule) (part : ℕ) (a : Answer) : Type 0 where
  pub breach : Breach
  pub has : Has bs breach
  pub stands : StandsAt rule part breach
  pub gives : a ≡ (see_at rank breach.see, breach.value)

no_answer : (a : Answer) → None ≡ Some a → ⊥
no_answer a e = cc

same_answer : (a b : Answer) → Some a ≡ Some b → b ≡ a
same_answer a b e = cc

pub answer_has : (rank : ℕ) (bs : List Breach) (rule : Rule) (part : ℕ) (a : Answer) → answer_at rank bs rule part ≡ Some a → Found rank bs rule part a
answer_has rank [] rule part a e = absurd (no_answer a e)
answer_has rank (b ∷ bs) rule part a e =
    bool_cases (stands_at rule part b)
    (λ t.
    let here : Some (see_at rank b.see, b.value) ≡ Some a = sym (ap (λ x. answer_of rank (cond x (Some b) (find (stands_at rule part) bs))) t) ∙ e in
    record { breach = b; has = inl refl; stands = stands_there rule part b t; gives = same_answer (see_at rank b.see, b.value) a here })
    (λ t.
    let rest = answer_has rank bs rule part a (sym (ap (λ x. answer_of rank (cond x (Some b) (find (stands_at rule part) bs))) t) ∙ e) in
    record { breach = rest.breach; has = inr rest.has; stands = rest.stands; gives = rest.gives })
