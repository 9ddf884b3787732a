-- The turns of a rank over one call more.
use Rattle.std.proofs.Common.{◌≡◌, ℕ, suc, ◌+◌, ◌<◌, List, [], ◌∷◌, ◌++◌, length, refl, ap, subst, ◌∙◌, append_assoc, length-append, arith}
use Rattle.std.specs.List.{AllByRecursion}
use Rattle.must_call.specs.declared.call.Call.{Call}
use Rattle.must_rules.specs.Turns.{Turn, turn, turns_from, turns}

from_more : (earlier calls : List Call) (call : Call) → turns_from earlier (calls ++ call ∷ []) ≡ turns_from earlier calls ++ turn (earlier ++ calls) call ∷ []
from_more earlier [] call = ap (λ (cs : List Call). turn cs call ∷ []) (none earlier)
  where
    none : (cs : List Call) → cs ≡ cs ++ []
    none [] = refl
    none (c ∷ cs) = ap (λ (ds : List Call). c ∷ ds) (none cs)
from_more earlier (c ∷ calls) call =
    ap (λ (ts : List Turn). turn earlier c ∷ ts) (from_more (earlier ++ c ∷ []) calls call)
    ∙ ap (λ (cs : List Call). turn earlier c ∷ turns_from (earlier ++ c ∷ []) calls ++ turn cs call ∷ []) (append_assoc earlier (c ∷ []) calls)

-- one call more
pub turns_more : (calls : List Call) (call : Call) → turns (calls ++ call ∷ []) ≡ turns calls ++ turn calls call ∷ []
turns_more calls call = from_more [] calls call

-- fewer than so many calls stand before it
abbrev pub IsTurnBelow : ℕ → Turn → Type 0
IsTurnBelow n t = length t.earlier < n

pub all_weaker : {X : Type 0} (P Q : X → Type 0) → ((x : X) → P x → Q x) → (xs : List X) → AllByRecursion P xs → AllByRecursion Q xs
all_weaker P Q f [] a = tt
all_weaker P Q f (x ∷ xs) a = (f x a.0, all_weaker P Q f xs a.1)

from_below : (earlier calls : List Call) → AllByRecursion (IsTurnBelow (length earlier + length calls)) (turns_from earlier calls)
from_below earlier [] = tt
from_below earlier (c ∷ calls) = (
  omega arith,
  all_weaker (IsTurnBelow (length (earlier ++ c ∷ []) + length calls)) (IsTurnBelow (length earlier + suc (length calls)))
      (λ t h. omega (arith, length-append earlier (c ∷ []))) (turns_from (earlier ++ c ∷ []) calls) (from_below (earlier ++ c ∷ []) calls),
)

pub turns_below : (calls : List Call) → AllByRecursion (IsTurnBelow (length calls)) (turns calls)
turns_below calls = let same : 0 + length calls ≡ length calls = omega arith in subst (λ (n : ℕ). AllByRecursion (IsTurnBelow n) (turns calls)) same (from_below [] calls)
