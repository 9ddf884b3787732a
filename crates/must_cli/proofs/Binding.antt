-- Parts that were bound: by what they show, they are unread.
use Rattle.std.proofs.Common.{◌≡◌, ℕ, List, [], ◌∷◌, map, Option, refl, sym, ap, ◌∙◌}
use Rattle.std.specs.List.{AllByRecursion}
use Rattle.must_base.specs.Views.{SourceView, unread}

first_same : {X : Type 0} (x y : X) (xs ys : List X) → x ∷ xs ≡ y ∷ ys → (x ≡ y) × (xs ≡ ys)
first_same x y xs ys e = (cc, cc)

nothing_same : {X : Type 0} (x : X) (xs : List X) → x ∷ xs ≡ [] → ⊥
nothing_same x xs e = cc

nothing_more : {X : Type 0} (x : X) (xs : List X) → [] ≡ x ∷ xs → ⊥
nothing_more x xs e = cc

pub record Unread {S N : Type 0} (left : S → Option (List ℕ)) (faults : S → ℕ) (told : N → Option (List ℕ)) (ps : List S) (names : List N) : Type 0 where
  pub bytes : map left ps ≡ map told names
  pub fresh : AllByRecursion (λ p. faults p ≡ 0) ps

pub bound_unread : {S N : Type 0} (shows : S → SourceView) (left : S → Option (List ℕ)) (faults : S → ℕ) → ((s : S) → shows s ≡ record { left = left s; faults = faults s }) → (told : N → Option (List ℕ))
    → (ps : List S) (names : List N) → map shows ps ≡ map (λ name. unread (told name)) names → Unread left faults told ps names
bound_unread shows left faults is told [] [] e = record { bytes = refl; fresh = tt }
bound_unread shows left faults is told [] (n ∷ names) e = absurd (nothing_more _ _ e)
bound_unread shows left faults is told (p ∷ ps) [] e = absurd (nothing_same _ _ e)
bound_unread shows left faults is told (p ∷ ps) (n ∷ names) e =
    let here = first_same _ _ _ _ e in
    let seen = sym (is p) ∙ here.0 in
    let first : left p ≡ told n = ap (λ (v : SourceView). v.left) seen in
    let rest = bound_unread shows left faults is told ps names here.1 in
    let others = rest.bytes in
    record { bytes = cc; fresh = (ap (λ (v : SourceView). v.faults) seen, rest.fresh) }
