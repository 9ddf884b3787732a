-- The findings of a rank's calls, one call more and at the end.
use Rattle.std.proofs.Common.{◌≡◌, ℕ, zero, suc, ◌<◌, List, [], ◌∷◌, ◌++◌, length, take, Option, Some, None, refl, sym, ap, ◌∙◌, inl, inr, arith, length-append}
use Rattle.std.specs.Prelude.{◌⊎◌, slice_get}
use Rattle.std.proofs.lemmas.Bool.{cases_order}
use Rattle.std.proofs.lemmas.List.{take-append-le, take_at}
use Rattle.std.proofs.lemmas.Option.{slice_get_past}
use Rattle.must_call.specs.declared.call.Call.{Call}
use Rattle.must_find.specs.declared.rule.Rule.{Rule}
use Rattle.must_find.specs.declared.rule.Rule.TheVariants.{I3, N1}
use Rattle.must_find.specs.declared.finding.Finding.{Finding}
use Rattle.must_rules.specs.Answer.{Answer}
use Rattle.must_rules.specs.Rank.{Rank}
use Rattle.must_rules.specs.Local.{finding_behind, finding_whole, finding_here, either, IsLocal, IsBehind, IsHere, IsWhole}

no_answer : (a : Answer) {P : Type 0} → None ≡ Some a → P
no_answer a e = absurd cc

get_front : (xs ys : List Call) (i : ℕ) → i < length xs → slice_get (xs ++ ys) i ≡ slice_get xs i
get_front [] ys i h = absurd (omega arith)
get_front (x ∷ xs) ys zero h = refl
get_front (x ∷ xs) ys (suc i) h = get_front xs ys i (omega arith)

get_there : (xs : List Call) (x : Call) → slice_get (xs ++ x ∷ []) (length xs) ≡ Some x
get_there [] x = refl
get_there (y ∷ xs) x = get_there xs x

-- what is found at a place where no call stands
pub here_within : (r : Rank) (calls : List Call) (f : Finding) → IsHere r calls f → f.call < length calls
here_within r calls f is =
    elim (cases_order f.call (length calls)) [
      | inl same ↦ no_answer (f.see, f.value) (ap (λ (o : Option Call). finding_here r (take f.call calls) o f.rule f.part) (sym (slice_get_past calls f.call (omega arith))) ∙ is.gives)
      | inr (inl less) ↦ less
      | inr (inr more) ↦ no_answer (f.see, f.value) (ap (λ (o : Option Call). finding_here r (take f.call calls) o f.rule f.part) (sym (slice_get_past calls f.call (omega arith))) ∙ is.gives)
    ]

-- a call that is there sees the same, whatever comes behind
front_same : (r : Rank) (calls : List Call) (call : Call) (k : ℕ) (rule : Rule) (part : ℕ) → k < length calls
    → finding_here r (take k (calls ++ call ∷ [])) (slice_get (calls ++ call ∷ []) k) rule part ≡ finding_here r (take k calls) (slice_get calls k) rule part
front_same r calls call k rule part within =
    ap (λ (cs : List Call). finding_here r cs (slice_get (calls ++ call ∷ []) k) rule part) (take-append-le k calls (call ∷ []) (omega arith))
    ∙ ap (λ (o : Option Call). finding_here r (take k calls) o rule part) (get_front calls (call ∷ []) k within)

last_same : (r : Rank) (calls : List Call) (call : Call) (k : ℕ) (rule : Rule) (part : ℕ) → k ≡ length calls
    → finding_here r (take k (calls ++ call ∷ [])) (slice_get (calls ++ call ∷ []) k) rule part ≡ finding_behind r calls call rule part
last_same r calls call k rule part is =
    ap (λ (cs : List Call). finding_here r cs (slice_get (calls ++ call ∷ []) k) rule part) (take_at calls (call ∷ []) k (sym is))
    ∙ ap (λ n. finding_here r calls (slice_get (calls ++ call ∷ []) n) rule part) is
    ∙ ap (λ (o : Option Call). finding_here r calls o rule part) (get_there calls call)

-- one call more adds the findings at that call
pub here_more : (r : Rank) (calls : List Call) (call : Call) (f : Finding) → IsHere r (calls ++ call ∷ []) f → IsHere r calls f ⊎ IsBehind r calls call f
here_more r calls call f is =
    elim (cases_order f.call (length calls)) [
      | inl same ↦ inr (record { rank_is = is.rank_is; call_is = same; gives = sym (last_same r calls call f.call f.rule f.part same) ∙ is.gives })
      | inr (inl less) ↦ inl (record { rank_is = is.rank_is; gives = sym (front_same r calls call f.call f.rule f.part less) ∙ is.gives })
      | inr (inr more) ↦ absurd (omega (arith, here_within r (calls ++ call ∷ []) f is, length-append calls (call ∷ [])))
    ]

pub here_again : (r : Rank) (calls : List Call) (call : Call) (f : Finding) → IsHere r calls f → IsHere r (calls ++ call ∷ []) f
here_again r calls call f is = record { rank_is = is.rank_is; gives = front_same r calls call f.call f.rule f.part (here_within r calls f is) ∙ is.gives }

pub here_last : (r : Rank) (calls : List Call) (call : Call) (f : Finding) → IsBehind r calls call f → IsHere r (calls ++ call ∷ []) f
here_last r calls call f is = record { rank_is = is.rank_is; gives = last_same r calls call f.call f.rule f.part is.call_is ∙ is.gives }

pub here_none : (r : Rank) (f : Finding) → IsHere r [] f → ⊥
here_none r f is = let h = here_within r [] f is in omega (arith, h)

-- ---- the end

apart : (r : Rank) (calls : List Call) (k : ℕ) (rule : Rule) (part : ℕ) (a : Answer) (earlier : List Call) (o : Option Call) → finding_whole r calls k rule part ≡ Some a → finding_here r earlier o rule part ≡ None
apart r calls k I3 part a earlier None e = refl
apart r calls k I3 part a earlier (Some call) e = refl
apart r calls k N1 part a earlier None e = refl
apart r calls k N1 part a earlier (Some call) e = refl
apart r calls k _ part a earlier o e = no_answer a e

-- no finding is of both kinds
pub here_whole : (r : Rank) (calls : List Call) (f : Finding) → IsHere r calls f → IsWhole r calls f → ⊥
here_whole r calls f here whole = no_answer (f.see, f.value) (sym (apart r calls f.call f.rule f.part (f.see, f.value) (take f.call calls) (slice_get calls f.call) whole.gives) ∙ here.gives)

pub local_here : (r : Rank) (calls : List Call) (f : Finding) → IsHere r calls f → IsLocal r calls f
local_here r calls f is = record { rank_is = is.rank_is; gives = ap (λ (o : Option Answer). either o (finding_whole r calls f.call f.rule f.part)) is.gives }

pub local_whole : (r : Rank) (calls : List Call) (f : Finding) → IsWhole r calls f → IsLocal r calls f
local_whole r calls f is = record {
  rank_is = is.rank_is;
  gives = ap (λ (o : Option Answer). either o (finding_whole r calls f.call f.rule f.part)) (apart r calls f.call f.rule f.part (f.see, f.value) (take f.call calls) (slice_get calls f.call) is.gives) ∙ is.gives;
}

pub local_cases : (r : Rank) (calls : List Call) (f : Finding) → IsLocal r calls f → IsHere r calls f ⊎ IsWhole r calls f
local_cases r calls f is = at (finding_here r (take f.call calls) (slice_get calls f.call) f.rule f.part) refl is.gives
  where
    at : (o : Option Answer) → finding_here r (take f.call calls) (slice_get calls f.call) f.rule f.part ≡ o → either o (finding_whole r calls f.call f.rule f.part) ≡ Some (f.see, f.value) → IsHere r calls f ⊎ IsWhole r calls f
    at None e g = inr (record { rank_is = is.rank_is; gives = g })
    at (Some a) e g = inl (record { rank_is = is.rank_is; gives = e ∙ g })
