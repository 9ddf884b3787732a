-- What a table of requests keeps, over one call more: which requests were asked to be cancelled, and what persistent ones were made for.
use Rattle.std.proofs.Common.{◌≡◌, ℕ, suc, ◌<◌, Bool, true, false, ◌||◌, List, [], ◌∷◌, ◌++◌, length, take, drop, Some, refl, ap, ◌∙◌, arith}
use Rattle.std.specs.Prelude.{slice_get}
use Rattle.std.specs.List.{list_any}
use Rattle.std.proofs.lemmas.List.{take-append-le, drop-append-le}
use Rattle.std.proofs.Math.Seq.{take-append_seam}
use Rattle.must_call.specs.declared.life.Life.TheVariants.{Live}
use Rattle.must_call.specs.declared.call.Call.{Call}
use Rattle.must_rules.specs.Rank.{Rank}
use Rattle.must_rules.specs.Operations.{Operation, message_by, message_made}
use Rattle.must_messages.specs.FateLaws.{get_front, get_there}
use Rattle.must_rules.specs.Statuses.{is_cancel_of, asked_to_cancel}

-- ---- asked to be cancelled

any_append : (test : Call → Bool) (xs : List Call) (x : Call) → list_any test (xs ++ x ∷ []) ≡ list_any test xs || test x
any_append test [] x = at (test x)
  where
    at : (b : Bool) → (b || false) ≡ b
    at true = refl
    at false = refl
any_append test (y ∷ xs) x = at (test y) (any_append test xs x)
  where
    at : (b : Bool) → list_any test (xs ++ x ∷ []) ≡ list_any test xs || test x → (b || list_any test (xs ++ x ∷ [])) ≡ (b || list_any test xs) || test x
    at true e = refl
    at false e = e

-- by one call more behind the one that begins the operation
pub asked_more : (calls : List Call) (call : Call) (op : Operation) → op.call < length calls → asked_to_cancel (calls ++ call ∷ []) op ≡ asked_to_cancel calls op || is_cancel_of op.request call
asked_more calls call op within =
    ap (list_any (is_cancel_of op.request)) (drop-append-le (suc op.call) calls (call ∷ []) (omega (arith, within)))
    ∙ any_append (is_cancel_of op.request) (drop (suc op.call) calls) call

drop_last : (calls : List Call) (call : Call) → drop (suc (length calls)) (calls ++ call ∷ []) ≡ []
drop_last [] call = refl
drop_last (c ∷ calls) call = drop_last calls call

-- nobody asked when it begins
pub asked_first : (calls : List Call) (call : Call) (op : Operation) → op.call ≡ length calls → asked_to_cancel (calls ++ call ∷ []) op ≡ false
asked_first calls call op e =
    ap (λ (n : ℕ). list_any (is_cancel_of op.request) (drop (suc n) (calls ++ call ∷ []))) e
    ∙ ap (list_any (is_cancel_of op.request)) (drop_last calls call)

-- ---- what a request was made for

-- a request that an earlier call made
pub made_more : (r : Rank) (calls : List Call) (call : Call) (made : ℕ) → made < length calls → message_made r (calls ++ call ∷ []) (Live made) ≡ message_made r calls (Live made)
made_more r calls call made within =
    ap (λ (cs : List Call). message_by r cs (slice_get (calls ++ call ∷ []) made)) (take-append-le made calls (call ∷ []) (omega (arith, within)))
    ∙ ap (message_by r (take made calls)) (get_front calls (call ∷ []) made within)

-- a request that the last call made
pub made_first : (r : Rank) (calls : List Call) (call : Call) → message_made r (calls ++ call ∷ []) (Live (length calls)) ≡ message_by r calls (Some call)
made_first r calls call =
    ap (λ (cs : List Call). message_by r cs (slice_get (calls ++ call ∷ []) (length calls))) (take-append_seam calls (call ∷ []))
    ∙ ap (message_by r calls) (get_there calls call)
