-- What becomes of an operation over one call more.
use Rattle.std.proofs.Common.{◌≡◌, ℕ, zero, suc, ◌+◌, ◌<◌, Bool, true, false, cond, List, [], ◌∷◌, ◌++◌, length, drop, Option, Some, None, refl, sym, ap, subst, ◌∙◌, arith}
use Rattle.std.specs.Prelude.{if◌then◌else◌, slice_get}
use Rattle.std.specs.List.{position_from}
use Rattle.std.proofs.lemmas.List.{length-drop}
use Rattle.must_call.specs.declared.class.Class.TheVariants.{Request}
use Rattle.must_call.specs.declared.call.Call.{Call}
use Rattle.must_rules.specs.Search.{first_behind, or_then, only_if}
use Rattle.must_rules.specs.SearchLaws.{behind_more, behind_last}
use Rattle.must_rules.specs.Making.{completes}
use Rattle.must_rules.specs.Lives.{ends}
use Rattle.must_rules.specs.Operations.{Operation}
use Rattle.must_messages.specs.Holding.{is_settled}
use Rattle.must_rules.specs.Fates.{Fate, Open, Freed, Done, own_fate, fate_by, fate_at, fate_with, fate_of, statuses_for}

-- what a call makes of an operation that is under way with a request
abbrev pub ended_by : (request k : ℕ) → Call → Fate
ended_by request k call = if ends false Request request call then fate_by request k (Some call) else Open

-- what becomes of an operation, by call k that stands behind those that tell its fate so far
abbrev pub next_fate : (k : ℕ) → Option ℕ → Call → Fate → Fate
next_fate k (Some request) call Open = ended_by request k call
next_fate k request call fate = fate

-- what the call that begins an operation makes of it
abbrev pub first_fate : Operation → Option ℕ → Call → Fate
first_fate op (Some request) call = Open
first_fate op None call = own_fate op (Some call)

-- ---- one call more

pub get_front : (xs ys : List Call) (i : ℕ) → i < length xs → slice_get (xs ++ ys) i ≡ slice_get xs i
get_front [] ys i h = absurd (omega arith)
get_front (x ∷ xs) ys zero h = refl
get_front (x ∷ xs) ys (suc i) h = get_front xs ys i (omega arith)

pub get_there : (xs : List Call) (x : Call) → slice_get (xs ++ x ∷ []) (length xs) ≡ Some x
get_there [] x = refl
get_there (y ∷ xs) x = get_there xs x

pub get_some : (xs : List Call) (i : ℕ) → i < length xs → (x : Call) × (slice_get xs i ≡ Some x)
get_some [] i h = absurd (omega arith)
get_some (x ∷ xs) zero h = (x, refl)
get_some (x ∷ xs) (suc i) h = get_some xs i (omega arith)

position_within : (test : Call → Bool) (i : ℕ) (xs : List Call) (k : ℕ) → position_from test i xs ≡ Some k → k < i + length xs
position_within test i [] k e = let no : None ≡ Some k = e in absurd cc
position_within test i (x ∷ xs) k e = within (test x) (λ f. position_within test (i + 1) xs k f) e
  where
    within : (b : Bool) → (position_from test (i + 1) xs ≡ Some k → k < i + 1 + length xs) → cond b (Some i) (position_from test (i + 1) xs) ≡ Some k → k < i + suc (length xs)
    within true f e = let same : i ≡ k = cc in omega arith
    within false f e = let h = f e in omega arith

pub behind_within : (j : ℕ) (test : Call → Bool) (calls : List Call) (k : ℕ) → j < length calls → first_behind j test calls ≡ Some k → k < length calls
behind_within j test calls k within e = let h = position_within test (j + 1) (drop (j + 1) calls) k e in omega (arith, length-drop (j + 1) calls)

-- the first call that ends it is there, so it isn't open
stays : (n request k : ℕ) (call : Call) (o : Option Call) (c : Call) → o ≡ Some c → fate_by request k o ≡ next_fate n (Some request) call (fate_by request k o)
stays n request k call o c e = subst (λ (x : Option Call). fate_by request k x ≡ next_fate n (Some request) call (fate_by request k x)) (sym e) (by_case (completes Request request c))
  where
    by_case : (b : Bool) → cond b (Done k (statuses_for request c)) Freed ≡ next_fate n (Some request) call (cond b (Done k (statuses_for request c)) Freed)
    by_case true = refl
    by_case false = refl

at_more : (calls : List Call) (call : Call) (request : ℕ) (o : Option ℕ) → ((k : ℕ) → o ≡ Some k → k < length calls)
    → fate_at (calls ++ call ∷ []) request (or_then o (only_if (ends false Request request call) (length calls)))
    ≡ next_fate (length calls) (Some request) call (fate_at calls request o)
at_more calls call request None within = ended (ends false Request request call)
  where
    ended : (b : Bool) → fate_at (calls ++ call ∷ []) request (only_if b (length calls)) ≡ cond b (fate_by request (length calls) (Some call)) Open
    ended true = ap (fate_by request (length calls)) (get_there calls call)
    ended false = refl
at_more calls call request (Some k) within =
    let there = get_some calls k (within k refl) in
    ap (fate_by request k) (get_front calls (call ∷ []) k (within k refl)) ∙ stays (length calls) request k call (slice_get calls k) there.0 there.1

with_more : (calls : List Call) (call : Call) (op : Operation) (request : Option ℕ) → op.call < length calls
    → fate_with (calls ++ call ∷ []) op request ≡ next_fate (length calls) request call (fate_with calls op request)
with_more calls call op None within = ap (own_fate op) (get_front calls (call ∷ []) op.call within)
with_more calls call op (Some request) within =
    ap (fate_at (calls ++ call ∷ []) request) (behind_more op.call (ends false Request request) calls call within)
    ∙ at_more calls call request (first_behind op.call (ends false Request request) calls) (λ k e. behind_within op.call (ends false Request request) calls k within e)

-- one call more behind the one that begins the operation
pub fate_more : (calls : List Call) (call : Call) (op : Operation) → op.call < length calls
    → fate_of (calls ++ call ∷ []) op ≡ next_fate (length calls) op.request call (fate_of calls op)
unfolding fate_of
fate_more calls call op within = with_more calls call op op.request within

with_first : (calls : List Call) (call : Call) (op : Operation) (request : Option ℕ) → op.call ≡ length calls → fate_with (calls ++ call ∷ []) op request ≡ first_fate op request call
with_first calls call op None e = ap (own_fate op) (ap (slice_get (calls ++ call ∷ [])) e ∙ get_there calls call)
with_first calls call op (Some request) e =
    ap (fate_at (calls ++ call ∷ []) request) (ap (λ k. first_behind k (ends false Request request) (calls ++ call ∷ [])) e ∙ behind_last (ends false Request request) calls call)

-- the call that begins it
pub fate_first : (calls : List Call) (call : Call) (op : Operation) → op.call ≡ length calls → fate_of (calls ++ call ∷ []) op ≡ first_fate op op.request call
unfolding fate_of
fate_first calls call op e = with_first calls call op op.request e

-- ---- operations that are settled

next_settled : (k : ℕ) (request : Option ℕ) (call : Call) (fate : Fate) → is_settled fate ≡ true → next_fate k request call fate ≡ fate
next_settled k (Some request) call Open e = let no : false ≡ true = e in absurd cc
next_settled k None call Open e = refl
next_settled k (Some request) call Freed e = refl
next_settled k None call Freed e = refl
next_settled k (Some request) call (Done j statuses) e = refl
next_settled k None call (Done j statuses) e = refl

-- what is settled stays as it is
pub fate_stays : (calls : List Call) (call : Call) (op : Operation) → op.call < length calls → is_settled (fate_of calls op) ≡ true → fate_of (calls ++ call ∷ []) op ≡ fate_of calls op
fate_stays calls call op within settled = fate_more calls call op within ∙ next_settled (length calls) op.request call (fate_of calls op) settled
