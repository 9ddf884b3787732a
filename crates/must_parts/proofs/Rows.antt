-- The rows of parts.
use Rattle.std.proofs.Common.{◌≡◌, ℕ, zero, suc, Bool, false, nat_eq, ◌⊎◌, inl, inr, List, [], ◌∷◌, Option, Some, None, refl, sym, ap, subst, ◌∙◌, arith}
use Rattle.std.specs.Prelude.{cond, ◌==◌}
use Rattle.must_base.specs.Listing.{Has}
use Rattle.must_call.specs.declared.place.Place.{Place}
use Rattle.must_find.specs.declared.rule.Rule.{Rule}
use Rattle.must_find.specs.declared.rule.Rule.TheVariants.{T1, T2}
use Rattle.must_find.specs.declared.finding.Finding.{Finding}
use Rattle.must_find.specs.Adds.{Adds}
use Rattle.must_rules.specs.Answer.{Answer, IsAnswer, at_part}
use Rattle.must_rules.specs.Parts.{Part, numbered}
use Rattle.must_rules.specs.Overlaps.{overlapping, shared_parts, overlap_within, overlap_between}
use Rattle.must_parts.specs.Rows.{HaveNumbers, IsOfRule, OverlapRows}

pub no_such : (ps : List Part) (n : ℕ) → HaveNumbers ps → numbered (suc (suc n)) ps ≡ None
no_such [] n h = refl
no_such (p ∷ ps) n h =
    let low = h.0 in
    let other : nat_eq p.number (suc (suc n)) ≡ false = grind arith in
    ap (λ b. cond b (Some p) (numbered (suc (suc n)) ps)) other ∙ no_such ps n h.1

pub none_is_not : (o : Option Answer) (x : Answer) → o ≡ None → o ≡ Some x → ⊥
none_is_not None x e h = let bad : ◌≡◌ {A = Option Answer} None (Some x) = h in absurd cc
none_is_not (Some y) x e h = let bad : ◌≡◌ {A = Option Answer} (Some y) None = e in absurd cc

-- a rule with two parts
pub two_parts : (at : Place) (rule : Rule) (answers : ℕ → Option Answer) → ((n : ℕ) → answers (suc (suc n)) ≡ None) → (old mid new : List Finding)
    → Adds old mid (IsAnswer at.rank at.call rule 0 (answers 0)) → Adds mid new (IsAnswer at.rank at.call rule 1 (answers 1)) → Adds old new (IsOfRule at rule answers)
two_parts at rule answers none old mid new a b = λ f. (there f, back f)
  where
    zeroth : (f : Finding) → IsAnswer at.rank at.call rule 0 (answers 0) f → IsOfRule at rule answers f
    zeroth f h = record { rank_is = h.rank_is; call_is = h.call_is; rule_is = h.rule_is; gives = ap answers h.part_is ∙ h.gives }

    first : (f : Finding) → IsAnswer at.rank at.call rule 1 (answers 1) f → IsOfRule at rule answers f
    first f h = record { rank_is = h.rank_is; call_is = h.call_is; rule_is = h.rule_is; gives = ap answers h.part_is ∙ h.gives }

    there : (f : Finding) → Has new f → Has old f ⊎ IsOfRule at rule answers f
    there f h = elim ((b f).0 h) [ inl m ↦ elim ((a f).0 m) [ inl o ↦ inl o | inr z ↦ inr (zeroth f z) ] | inr z ↦ inr (first f z) ]

    by_part : (f : Finding) (part : ℕ) → f.part ≡ part → IsOfRule at rule answers f → Has new f
    by_part f zero e h = (b f).1 (inl ((a f).1 (inr (record { rank_is = h.rank_is; call_is = h.call_is; rule_is = h.rule_is; part_is = e; gives = sym (ap answers e) ∙ h.gives }))))
    by_part f (suc zero) e h = (b f).1 (inr (record { rank_is = h.rank_is; call_is = h.call_is; rule_is = h.rule_is; part_is = e; gives = sym (ap answers e) ∙ h.gives }))
    by_part f (suc (suc n)) e h = absurd (none_is_not (answers (suc (suc n))) (f.see, f.value) (none n) (sym (ap answers e) ∙ h.gives))

    back : (f : Finding) → Has old f ⊎ IsOfRule at rule answers f → Has new f
    back f (inl h) = (b f).1 (inl ((a f).1 (inl h)))
    back f (inr h) = by_part f f.part refl h

-- the same with the answers told
pub told_two : (at : Place) (rule : Rule) (answers : ℕ → Option Answer) → ((n : ℕ) → answers (suc (suc n)) ≡ None) → (old mid new : List Finding) (a b : Option Answer) → a ≡ answers 0 → b ≡ answers 1
    → Adds old mid (IsAnswer at.rank at.call rule 0 a) → Adds mid new (IsAnswer at.rank at.call rule 1 b) → Adds old new (IsOfRule at rule answers)
told_two at rule answers none old mid new a b ea eb p q =
    two_parts at rule answers none old mid new (subst (λ (o : Option Answer). Adds old mid (IsAnswer at.rank at.call rule 0 o)) ea p) (subst (λ (o : Option Answer). Adds mid new (IsAnswer at.rank at.call rule 1 o)) eb q)

no_third : (answer : Option Answer) (n : ℕ) → at_part 1 answer (suc (suc n)) ≡ None
no_third answer n = let other : ((suc (suc n)) == 1) ≡ false = grind arith in ap (λ (b : Bool). cond b answer None) other

-- a rule with one part alone
pub at_one : (at : Place) (rule : Rule) (answer : Option Answer) (old new : List Finding) → Adds old new (IsAnswer at.rank at.call rule 1 answer) → Adds old new (IsOfRule at rule (λ n. at_part 1 answer n))
at_one at rule answer old new a = λ f. (there f, back f)
  where
    there : (f : Finding) → Has new f → Has old f ⊎ IsOfRule at rule (λ n. at_part 1 answer n) f
    there f h = elim ((a f).0 h) [ inl o ↦ inl o | inr z ↦ inr (record { rank_is = z.rank_is; call_is = z.call_is; rule_is = z.rule_is; gives = ap (at_part 1 answer) z.part_is ∙ z.gives }) ]

    by_part : (f : Finding) (part : ℕ) → f.part ≡ part → IsOfRule at rule (λ n. at_part 1 answer n) f → Has new f
    by_part f zero e h = absurd (none_is_not None (f.see, f.value) refl (sym (ap (at_part 1 answer) e) ∙ h.gives))
    by_part f (suc zero) e h = (a f).1 (inr (record { rank_is = h.rank_is; call_is = h.call_is; rule_is = h.rule_is; part_is = e; gives = sym (ap (at_part 1 answer) e) ∙ h.gives }))
    by_part f (suc (suc n)) e h = absurd (none_is_not (at_part 1 answer (suc (suc n))) (f.see, f.value) (no_third answer n) (sym (ap (at_part 1 answer) e) ∙ h.gives))

    back : (f : Finding) → Has old f ⊎ IsOfRule at rule (λ n. at_part 1 answer n) f → Has new f
    back f (inl h) = (a f).1 (inl h)
    back f (inr h) = by_part f f.part refl h

pub both_rules : (old mid new : List Finding) (P Q : Finding → Type 0) → Adds old mid P → Adds mid new Q → Adds old new (λ f. P f ⊎ Q f)
both_rules old mid new P Q a b = λ f. (there f, back f)
  where
    there : (f : Finding) → Has new f → Has old f ⊎ (P f ⊎ Q f)
    there f h = elim ((b f).0 h) [ inl m ↦ elim ((a f).0 m) [ inl o ↦ inl o | inr p ↦ inr (inl p) ] | inr q ↦ inr (inr q) ]

    back : (f : Finding) → Has old f ⊎ (P f ⊎ Q f) → Has new f
    back f (inl h) = (b f).1 (inl ((a f).1 (inl h)))
    back f (inr (inl p)) = (b f).1 (inl ((a f).1 (inr p)))
    back f (inr (inr q)) = (b f).1 (inr q)

-- T1 at both parts, and then T2
pub overlap_rows : (at : Place) (ps : List Part) (r0 r1 r2 r3 : List Finding) (a b t : Option Answer) → HaveNumbers ps → a ≡ overlapping (numbered 0 ps) → b ≡ overlapping (numbered 1 ps) → t ≡ shared_parts (numbered 0 ps) (numbered 1 ps)
    → Adds r0 r1 (IsAnswer at.rank at.call T1 0 a) → Adds r1 r2 (IsAnswer at.rank at.call T1 1 b) → Adds r2 r3 (IsAnswer at.rank at.call T2 1 t) → Adds r0 r3 (OverlapRows at ps)
unfolding overlap_within overlap_between
overlap_rows at ps r0 r1 r2 r3 a b t low ea eb et p q s =
    both_rules r0 r2 r3 (IsOfRule at T1 (overlap_within ps)) (IsOfRule at T2 (overlap_between ps))
    (two_parts at T1 (overlap_within ps) (λ n. ap overlapping (no_such ps n low)) r0 r1 r2 (subst (λ (o : Option Answer). Adds r0 r1 (IsAnswer at.rank at.call T1 0 o)) ea p) (subst (λ (o : Option Answer). Adds r1 r2 (IsAnswer at.rank at.call T1 1 o)) eb q))
    (at_one at T2 (shared_parts (numbered 0 ps) (numbered 1 ps)) r2 r3 (subst (λ (o : Option Answer). Adds r2 r3 (IsAnswer at.rank at.call T2 1 o)) et s))

-- beside a rule that finds nothing
pub with_none : (at : Place) (rule : Rule) (answers : ℕ → Option Answer) (P : Finding → Type 0) (old new : List Finding) → ((n : ℕ) → answers n ≡ None) → Adds old new P → Adds old new (λ f. P f ⊎ IsOfRule at rule answers f)
with_none at rule answers P old new none a = λ f. (there f, back f)
  where
    there : (f : Finding) → Has new f → Has old f ⊎ (P f ⊎ IsOfRule at rule answers f)
    there f h = elim ((a f).0 h) [ inl o ↦ inl o | inr p ↦ inr (inl p) ]

    back : (f : Finding) → Has old f ⊎ (P f ⊎ IsOfRule at rule answers f) → Has new f
    back f (inl h) = (a f).1 (inl h)
    back f (inr (inl p)) = (a f).1 (inr p)
    back f (inr (inr q)) = absurd (none_is_not (answers f.part) (f.see, f.value) (none f.part) q.gives)
