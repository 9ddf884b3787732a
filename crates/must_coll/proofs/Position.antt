-- Where a rank stands among members.
use Rattle.std.proofs.Common.{◌≡◌, ℕ, zero, suc, ◌<◌, ◌≤◌, Bool, true, false, cond, List, [], ◌∷◌, length, Option, Some, None, eqb, refl, sym, ap, subst, ◌∙◌, arith, nat_eq, nat_lt}
use Rattle.std.specs.Prelude.{slice_get, position}
use Rattle.std.specs.List.{position_or_len}
use Rattle.std.proofs.lemmas.Bool.{ltb-true, ltb-false, eqb-true, eq-eqb}
use Rattle.std.proofs.lemmas.Option.{slice_get_past, slice_get-get_or}
use Rattle.std.proofs.lemmas.List.Folds.{find_at}
use Rattle.must_coll.specs.ListLaws.{found, missed, has_at}

cond_some : (b : Bool) (p k : ℕ) → cond b (Some p) None ≡ Some k → (b ≡ true) × (p ≡ k)
cond_some true p k e = let n : Some p ≡ Some k = e in (refl, cc)
cond_some false p k e = let n : None ≡ Some k = e in cc

cond_none : (b : Bool) (p : ℕ) → cond b (Some p) None ≡ None → b ≡ false
cond_none true p e = let n : Some p ≡ None = e in cc
cond_none false p e = refl

module _ (ms : List ℕ) (r : ℕ) where
  abbrev pub test : ℕ → Bool
  test m = nat_eq m r

  pub place_found : (k : ℕ) → position test ms ≡ Some k → slice_get ms k ≡ Some r
  place_found k e =
      let n = position_or_len test ms in
      let c = cond_some (nat_lt n (length ms)) n k e in
      let s = slice_get-get_or ms n 0 (ltb-true n (length ms) c.0) in
      let y = eqb-true (Rattle.std.proofs.Common.get_or ms n 0) r (found test ms (Rattle.std.proofs.Common.get_or ms n 0) (find_at test ms ∙ s)).1 in
      subst (λ i. slice_get ms i ≡ Some r) c.1 (s ∙ ap Some y)

  pub place_none : (k : ℕ) → position test ms ≡ None → slice_get ms k ≡ Some r → ⊥
  place_none k e is =
      let n = position_or_len test ms in
      let far : length ms ≤ n = ltb-false n (length ms) (cond_none (nat_lt n (length ms)) n e) in
      missed test ms r (find_at test ms ∙ slice_get_past ms n far) (has_at ms k r is) (eq-eqb r r refl)
