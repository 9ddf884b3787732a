-- The operation of an active request over one call more.
use Rattle.std.proofs.Common.{◌≡◌, ℕ, zero, suc, ◌==◌, Bool, true, false, cond, ◌&&◌, List, [], ◌∷◌, ◌++◌, length, take, Option, Some, None, refl, ap, sym, ◌∙◌, arith, eq-eqb}
use Rattle.std.specs.Prelude.{not, find, slice_get, if◌then◌else◌}
use Rattle.std.proofs.lemmas.Bool.{ne_eqb, eqb-true, eqb-false}
use Rattle.must_call.specs.declared.class.Class.TheVariants.{Request}
use Rattle.must_call.specs.declared.life.Life.{Life}
use Rattle.must_call.specs.declared.life.Life.TheVariants.{Never, Live, Freed, Predefined}
use Rattle.must_call.specs.declared.call.Call.{Call}
use Rattle.must_rules.specs.Rank.{Rank}
use Rattle.must_rules.specs.Search.{or_then, only_if}
use Rattle.must_rules.specs.Making.{makes, persists, completes}
use Rattle.must_rules.specs.Lives.{life, ends, is_kept}
use Rattle.must_rules.specs.Starts.{start_of, names_to_start}
use Rattle.must_rules.specs.StartLaws.{next_start, start_more}
use Rattle.must_rules.specs.Known.{clear_behind}
use Rattle.must_messages.specs.PlainLaws.{no_some, same_some}
use Rattle.must_rules.specs.Operations.{Operation, operations_at, operations_by, operations_in}
use Rattle.must_rules.specs.Statuses.{is_done_with, begun_in, under_way}

-- the operation of a request by its start after one call more, given what call n begins with it and what was under way before
abbrev pub next_under_way : (n : ℕ) → (begun before : Option Operation) → (start : Option ℕ) → Option Operation
next_under_way n begun before None = None
next_under_way n begun before (Some k) = if k == n then begun else before

-- ---- the operations of a call

eq_next : (k n : ℕ) → (suc k == suc n) ≡ (k == n)
eq_next k n = at (k == n) refl
  where
    at : (b : Bool) → (k == n) ≡ b → (suc k == suc n) ≡ b
    at true e = eq-eqb (suc k) (suc n) (ap suc (eqb-true k n e))
    at false e = ne_eqb (suc k) (suc n) (λ same. eqb-false k n e (omega (arith, same)))

place_more : (f : List Call → Option Call → List Operation) → ((cs : List Call) → f cs None ≡ []) → (rest : List Call) (call : Call) (k : ℕ)
    → f (take k (rest ++ call ∷ [])) (slice_get (rest ++ call ∷ []) k) ≡ cond (k == length rest) (f rest (Some call)) (f (take k rest) (slice_get rest k))
place_more f none [] call zero = refl
place_more f none [] call (suc k) =
    none (call ∷ take k []) ∙ sym (none []) ∙ ap (λ (b : Bool). cond b (f [] (Some call)) (f [] None)) (sym (ne_eqb (suc k) 0 (λ e. omega (arith, e))))
place_more f none (c ∷ rest) call zero = ap (λ (b : Bool). cond b (f (c ∷ rest) (Some call)) (f [] (Some c))) (sym (ne_eqb 0 (suc (length rest)) (λ e. omega (arith, e))))
place_more f none (c ∷ rest) call (suc k) =
    place_more (λ cs o. f (c ∷ cs) o) (λ cs. none (c ∷ cs)) rest call k
    ∙ ap (λ (b : Bool). cond b (f (c ∷ rest) (Some call)) (f (c ∷ take k rest) (slice_get rest k))) (sym (eq_next k (length rest)))

in_more : (r : Rank) (calls : List Call) (call : Call) (k : ℕ) → operations_in r (calls ++ call ∷ []) k ≡ cond (k == length calls) (operations_at r calls call) (operations_in r calls k)
in_more r calls call k = place_more (operations_by r) (λ cs. refl) calls call k

-- ---- the start

-- a start that isn't this call was there before
kept_only : (b : Bool) (n k : ℕ) (start : Option ℕ) → only_if b n ≡ Some k → (k == n) ≡ false → start ≡ Some k
kept_only true n k start e other = let no : true ≡ false = sym (eq-eqb k n (sym (same_some n k e))) ∙ other in absurd cc
kept_only false n k start e other = no_some k e

kept_then : (b : Bool) (n k : ℕ) (start : Option ℕ) → or_then start (only_if b n) ≡ Some k → (k == n) ≡ false → start ≡ Some k
kept_then b n k None e other = kept_only b n k None e other
kept_then b n k (Some j) e other = e

kept_start : (n k : ℕ) (m p e c s : Bool) (l : Life) (start : Option ℕ) → next_start n m p e c s l start ≡ Some k → (k == n) ≡ false → start ≡ Some k
kept_start n k m p e c s Never start h other = kept_only (m && not p) n k start h other
kept_start n k m p true c s (Live made) start h other = no_some k h
kept_start n k m p false true s (Live made) start h other = no_some k h
kept_start n k m p false false s (Live made) start h other = kept_then s n k start h other
kept_start n k m p e c s (Freed made freed) start h other = no_some k h
kept_start n k m p e c s Predefined start h other = no_some k h

pub start_kept : (r : Rank) (calls : List Call) (call : Call) (request k : ℕ) → start_of (clear_behind r) (calls ++ call ∷ []) request ≡ Some k → (k == length calls) ≡ false
    → start_of (clear_behind r) calls request ≡ Some k
start_kept r calls call request k e other =
    kept_start (length calls) k (makes Request request call) (persists call) (ends (is_kept calls Request request) Request request call) (completes Request request call)
    (names_to_start (clear_behind r) calls call request) (life calls Request request) (start_of (clear_behind r) calls request)
    (sym (start_more (clear_behind r) calls call request) ∙ e) other

-- ---- one call more

-- a request is under way with what the last call began, where that is its start, or else with what it was under way with before
pub under_way_more : (r : Rank) (calls : List Call) (call : Call) (request : ℕ)
    → under_way r (calls ++ call ∷ []) request
    ≡ next_under_way (length calls) (find (is_done_with request) (operations_at r calls call)) (under_way r calls request) (start_of (clear_behind r) (calls ++ call ∷ []) request)
under_way_more r calls call request = at (start_of (clear_behind r) (calls ++ call ∷ []) request) refl
  where
    old : (k : ℕ) → start_of (clear_behind r) calls request ≡ Some k → find (is_done_with request) (operations_in r calls k) ≡ under_way r calls request
    old k e = ap (begun_in r calls request) (sym e)

    by : (k : ℕ) (b : Bool) → (k == length calls) ≡ b → start_of (clear_behind r) (calls ++ call ∷ []) request ≡ Some k
        → find (is_done_with request) (cond b (operations_at r calls call) (operations_in r calls k)) ≡ cond b (find (is_done_with request) (operations_at r calls call)) (under_way r calls request)
    by k true same e = refl
    by k false same e = old k (start_kept r calls call request k e same)

    at : (start : Option ℕ) → start_of (clear_behind r) (calls ++ call ∷ []) request ≡ start
        → begun_in r (calls ++ call ∷ []) request start ≡ next_under_way (length calls) (find (is_done_with request) (operations_at r calls call)) (under_way r calls request) start
    at None e = refl
    at (Some k) e = ap (find (is_done_with request)) (in_more r calls call k) ∙ by k (k == length calls) refl e
