-- Rows gathered in a list, and put in order.
use Rattle.std.proofs.Common.{◌≡◌, List, [], ◌∷◌, ◌++◌, Option, Some, inl, inr, sym, ap, subst}
use Rattle.std.specs.Prelude.{◌⊎◌, ◌↔◌}
use Rattle.std.specs.List.Sorted.{IsPermutation}
use Rattle.std.proofs.lemmas.List.Sorted.{Contains-permutation, IsPermutation-sym}
use Rattle.must_base.specs.Listing.{Has}
use Rattle.must_base.specs.ListingLaws.{Has-is-Contains}
use Rattle.must_find.specs.Adds.{Adds}
use Rattle.must_find.specs.declared.finding.Finding.{Finding}

pub has_pushed : (xs : List Finding) (x f : Finding) → Has (xs ++ x ∷ []) f ↔ (Has xs f ⊎ (f ≡ x))
has_pushed [] x f = (
  λ h. elim h [ inl e ↦ inr e | inr none ↦ absurd none ],
  λ h. elim h [ inl none ↦ absurd none | inr e ↦ inl e ],
)
has_pushed (y ∷ ys) x f = (
  λ h. elim h [ inl e ↦ inl (inl e) | inr there ↦ elim ((has_pushed ys x f).0 there) [ inl k ↦ inl (inr k) | inr e ↦ inr e ] ],
  λ h. elim h [ inl there ↦ elim there [ inl e ↦ inl e | inr k ↦ inr ((has_pushed ys x f).1 (inl k)) ] | inr e ↦ inr ((has_pushed ys x f).1 (inr e)) ],
)

some_finding : (x f : Finding) → Some x ≡ Some f → f ≡ x
some_finding x f e = cc

pub adds_pushed : (xs : List Finding) (x : Finding) → Adds xs (xs ++ x ∷ []) (λ f. Some x ≡ Some f)
adds_pushed xs x = λ f. (
  λ h. elim ((has_pushed xs x f).0 h) [ inl there ↦ inl there | inr e ↦ inr (ap Some (sym e)) ],
  λ h. elim h [ inl there ↦ (has_pushed xs x f).1 (inl there) | inr e ↦ (has_pushed xs x f).1 (inr (some_finding x f e)) ],
)

pub has_moved : (xs ys : List Finding) (f : Finding) → IsPermutation xs ys → Has ys f ↔ Has xs f
has_moved xs ys f moved = (
  λ h. (Has-is-Contains xs f).1 (Contains-permutation ys xs f (IsPermutation-sym xs ys moved) ((Has-is-Contains ys f).0 h)),
  λ h. (Has-is-Contains ys f).1 (Contains-permutation xs ys f moved ((Has-is-Contains xs f).0 h)),
)

-- one row more is put in
pub one_in : (old new before rest : List Finding) (x f : Finding) → before ≡ rest ++ x ∷ [] → (Has new f ↔ ((f ≡ x) ⊎ Has old f)) → (Has new f ⊎ Has rest f) ↔ (Has old f ⊎ Has before f)
one_in old new before rest x f e added =
    rw e ((
      λ h. elim h [
        | inl n ↦ elim (added.0 n) [ inl is ↦ inr ((has_pushed rest x f).1 (inr is)) | inr o ↦ inl o ]
        | inr r ↦ inr ((has_pushed rest x f).1 (inl r))
      ],
      λ h. elim h [
        | inl o ↦ inl (added.1 (inr o))
        | inr b ↦ elim ((has_pushed rest x f).0 b) [ inl r ↦ inr r | inr is ↦ inl (added.1 (inl is)) ]
      ],
    )
    )

pub adds_pushed_as : (old new : List Finding) (o : Option Finding) (x : Finding) → o ≡ Some x → new ≡ old ++ x ∷ [] → Adds old new (λ f. o ≡ Some f)
adds_pushed_as old new o x is e =
    subst (λ (l : List Finding). Adds old l (λ f. o ≡ Some f)) (sym e) (subst (λ (w : Option Finding). Adds old (old ++ x ∷ []) (λ f. w ≡ Some f)) (sym is) (adds_pushed old x))

-- no row is put in yet
pub none_in : (found rows sorted : List Finding) (f : Finding) → found ≡ [] → IsPermutation rows sorted → (Has found f ⊎ Has sorted f) ↔ Has rows f
none_in found rows sorted f e moved = (
  λ h. elim h [ inl none ↦ absurd (subst (λ (l : List Finding). Has l f) e none) | inr there ↦ (has_moved rows sorted f moved).0 there ],
  λ h. inr ((has_moved rows sorted f moved).1 h),
)

pub both_ways : {A B C : Type 0} → A ↔ B → B ↔ C → A ↔ C
both_ways p q = (λ a. q.0 (p.0 a), λ c. p.1 (q.1 c))

-- what is added to nothing and put in order, is added to what is there
pub merged_in : (old new lone rows : List Finding) (P Q : Finding → Type 0) → ((f : Finding) → Has new f ↔ (Has old f ⊎ Has lone f)) → ((f : Finding) → Has lone f ↔ Has rows f) → Adds [] rows P → ((f : Finding) → P f ↔ Q f) → Adds old new Q
merged_in old new lone rows P Q merge order adds same = λ f. (
  λ h. elim ((merge f).0 h) [
    | inl there ↦ inl there
    | inr l ↦ elim ((adds f).0 ((order f).0 l)) [ inl none ↦ absurd none | inr p ↦ inr ((same f).0 p) ]
  ],
  λ h. elim h [
    | inl there ↦ (merge f).1 (inl there)
    | inr q ↦ (merge f).1 (inr ((order f).1 ((adds f).1 (inr ((same f).1 q)))))
  ],
)
