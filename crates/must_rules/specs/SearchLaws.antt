-- A search over one call more.
use Rattle.std.proofs.Common.{◌≡◌, ℕ, suc, ◌+◌, ◌<◌, Bool, true, false, cond, List, [], ◌∷◌, ◌++◌, length, drop, Some, None, refl, ap, subst, ◌∙◌, arith}
use Rattle.std.specs.List.{position_from}
use Rattle.std.proofs.lemmas.List.{drop-append-le, length-drop}
use Rattle.must_call.specs.declared.call.Call.{Call}
use Rattle.must_rules.specs.Search.{first_where, first_behind, or_then, only_if}

position_more : {X : Type 0} (test : X → Bool) (i : ℕ) (xs : List X) (x : X) → position_from test i (xs ++ x ∷ []) ≡ or_then (position_from test i xs) (only_if (test x) (i + length xs))
position_more test i [] x = ap (λ n. only_if (test x) n) (omega arith)
position_more test i (y ∷ ys) x =
    elim (test y) as (λ b. cond b (Some i) (position_from test (i + 1) (ys ++ x ∷ [])) ≡ or_then (cond b (Some i) (position_from test (i + 1) ys)) (only_if (test x) (i + suc (length ys)))) [
      | true ↦ refl
      | false ↦ position_more test (i + 1) ys x ∙ ap (λ n. or_then (position_from test (i + 1) ys) (only_if (test x) n)) (omega arith)
    ]

position_within : {X : Type 0} (test : X → Bool) (i : ℕ) (xs : List X) (k : ℕ) → position_from test i xs ≡ Some k → k < i + length xs
position_within test i [] k e = let no : None ≡ Some k = e in absurd cc
position_within test i (x ∷ xs) k e = within (test x) (λ f. position_within test (i + 1) xs k f) e
  where
    within : (b : Bool) → (position_from test (i + 1) xs ≡ Some k → k < i + 1 + length xs) → cond b (Some i) (position_from test (i + 1) xs) ≡ Some k → k < i + suc (length xs)
    within true f e = let same : i ≡ k = cc in omega arith
    within false f e = let h = f e in omega arith

pub first_more : (test : Call → Bool) (calls : List Call) (call : Call) → first_where test (calls ++ call ∷ []) ≡ or_then (first_where test calls) (only_if (test call) (length calls))
first_more test calls call = position_more test 0 calls call ∙ ap (λ n. or_then (first_where test calls) (only_if (test call) n)) (omega arith)

pub first_within : (test : Call → Bool) (calls : List Call) (k : ℕ) → first_where test calls ≡ Some k → k < length calls
first_within test calls k e = let h = position_within test 0 calls k e in omega arith

pub behind_more : (k : ℕ) (test : Call → Bool) (calls : List Call) (call : Call) → k < length calls → first_behind k test (calls ++ call ∷ []) ≡ or_then (first_behind k test calls) (only_if (test call) (length calls))
behind_more k test calls call within =
    ap (λ (cs : List Call). position_from test (k + 1) cs) (drop-append-le (k + 1) calls (call ∷ []) (omega arith))
    ∙ position_more test (k + 1) (drop (k + 1) calls) call
    ∙ ap (λ n. or_then (first_behind k test calls) (only_if (test call) n)) (omega (arith, length-drop (k + 1) calls))

drop_whole : {X : Type 0} (xs : List X) (x : X) → drop (length xs + 1) (xs ++ x ∷ []) ≡ []
drop_whole [] x = refl
drop_whole {X} (y ∷ ys) x = subst (λ n. drop n (y ∷ ys ++ x ∷ []) ≡ []) (same ys) (drop_whole ys x)
  where
    same : (zs : List X) → suc (length zs + 1) ≡ suc (length zs) + 1
    same zs = omega arith

-- nothing stands behind the last call
pub behind_last : (test : Call → Bool) (calls : List Call) (call : Call) → first_behind (length calls) test (calls ++ call ∷ []) ≡ None
behind_last test calls call = ap (λ (cs : List Call). position_from test (length calls + 1) cs) (drop_whole calls call)
