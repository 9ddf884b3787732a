-- An operation is open as long as its request is active with it: what a search for its completion tells, and what is told of requests
-- call by call, agree.
use Rattle.std.proofs.Common.{◌≡◌, ℕ, zero, suc, ◌+◌, ◌<◌, ◌≤◌, ◌==◌, Bool, true, false, cond, ◌&&◌, ◌||◌, List, [], ◌∷◌, ◌++◌, length, take, Option, Some, None, refl, ap, sym, subst, ◌∙◌, arith, eq-eqb, eqb-true, leb-true}
use Rattle.std.specs.Prelude.{not, find, slice_get, is_none, nat_le, option_map}
use Rattle.std.specs.List.{AllByRecursion, cons_option}
use Rattle.must_call.specs.declared.class.Class.TheVariants.{Comm, Group, Datatype, Operation as ReduceOperation, Request}
use Rattle.must_call.specs.declared.life.Life.{Life}
use Rattle.must_call.specs.declared.life.Life.TheVariants.{Never, Live, Freed, Predefined}
use Rattle.must_call.specs.declared.field.Side.TheVariants.{Send, Receive}
use Rattle.must_call.specs.declared.field.Field.TheVariants.{Buffer}
use Rattle.must_call.specs.declared.body.Body.{Body}
use Rattle.must_call.specs.declared.body.Body.TheVariants.{Persist}
use Rattle.must_call.specs.declared.persist.Persist.TheVariants.{Start, Startall}
use Rattle.must_call.specs.declared.call.Call.{Call}
use Rattle.must_call.specs.Handles.{ClassedHandle}
use Rattle.must_rules.specs.Rank.{Rank}
use Rattle.must_rules.specs.Search.{or_then, only_if}
use Rattle.must_rules.specs.Making.{same_class, is_handle, is_in, made_by, makes, persists, frees, freed_of, completes, completed_of, started_of}
use Rattle.must_rules.specs.Lives.{is_predefined, life, ends, is_kept, is_kept_by, made_count}
use Rattle.must_rules.specs.LifeLaws.{next_life, life_more, life_first, made_now, made_count_more}
use Rattle.must_rules.specs.Numbered.{AreNumbered}
use Rattle.must_rules.specs.NumberedLaws.{numbered_at}
use Rattle.must_rules.specs.Starts.{start_of, start_at, names_to_start}
use Rattle.must_rules.specs.StartLaws.{next_start, start_more}
use Rattle.must_rules.specs.Known.{clear_behind}
use Rattle.must_rules.specs.Breaches.{part_in}
use Rattle.must_rules.specs.PendingOperations.{begun_request, starts_at}
use Rattle.must_messages.specs.PlainLaws.{both, no_some, same_some}
use Rattle.must_rules.specs.Operations.{Operation, operation, Message, message_at, message_made, message_started, begun_here, with_started, started_from}
use Rattle.must_rules.specs.Statuses.{is_done_with}
use Rattle.must_messages.specs.NameLaws.{take_next, take_past}
use Rattle.must_messages.specs.OneSideLaws.{begun_made, not_both}
use Rattle.must_messages.specs.RiseLaws.{IsFrom, started_parts}

-- ---- requests that were never made

predefined_low : (q : ℕ) → 64 ≤ q → is_predefined Request q ≡ false
unfolding is_predefined
predefined_low q high = at (nat_le 1 q) (nat_le q 0) refl
  where
    at : (a b : Bool) → nat_le q 0 ≡ b → (a && b) ≡ false
    at true true e = let low = leb-true q 0 e in absurd (omega (arith, high, low))
    at false true e = refl
    at true false e = refl
    at false false e = refl

abbrev request_handle : ℕ → Option ClassedHandle
request_handle q = Some (Request, q)

made_one : (o : Option ClassedHandle) (q : ℕ) → is_handle Request q o ≡ true → (o ≡ request_handle q) × (made_now o ≡ 1)
made_one None q e = let no : false ≡ true = e in absurd cc
made_one (Some h) q e = let is = both (same_class h.0 Request) (h.1 == q) e in (same h is.0 (eqb-true h.1 q is.1), refl)
  where
    same : (x : ClassedHandle) → same_class x.0 Request ≡ true → x.1 ≡ q → Some x ≡ request_handle q
    same (Request, n) f g = ap request_handle g
    same (Comm, n) f g = let no : false ≡ true = f in absurd cc
    same (Group, n) f g = let no : false ≡ true = f in absurd cc
    same (Datatype, n) f g = let no : false ≡ true = f in absurd cc
    same (ReduceOperation, n) f g = let no : false ≡ true = f in absurd cc

-- a number that is still to come was never made
pub never_made : (calls : List Call) → AreNumbered 64 calls → (k q : ℕ) → 64 + made_count (take k calls) ≤ q → life (take k calls) Request q ≡ Never
never_made calls numbered zero q high = life_first Request q ∙ ap (λ (b : Bool). cond b Predefined Never) (predefined_low q (omega (arith, high)))
never_made calls numbered (suc k) q high = at (slice_get calls k) refl (never_made calls numbered k q)
  where
    next : (c : Call) → slice_get calls k ≡ Some c → 64 + made_count (take k calls ++ c ∷ []) ≤ q → (b e : Bool) → makes Request q c ≡ b → next_life (length (take k calls)) b e Never ≡ Never
    next c there above true e makes_it =
        let one = made_one (made_by c) q makes_it in
        let is = numbered_at 64 calls k c numbered there Request q one.0 in
        let more = made_count_more (take k calls) c in
        let now = one.1 in
        absurd (omega (arith, above, is, more, now))
    next c there above false e other = refl

    at : (o : Option Call) → slice_get calls k ≡ o → (64 + made_count (take k calls) ≤ q → life (take k calls) Request q ≡ Never) → life (take (suc k) calls) Request q ≡ Never
    at None there rest =
        ap (λ (cs : List Call). life cs Request q) (take_past calls k there) ∙ rest (subst (λ (cs : List Call). 64 + made_count cs ≤ q) (take_past calls k there) high)
    at (Some c) there rest =
        let above : 64 + made_count (take k calls ++ c ∷ []) ≤ q = subst (λ (cs : List Call). 64 + made_count cs ≤ q) (take_next calls k c there) high in
        let more = made_count_more (take k calls) c in
        ap (λ (cs : List Call). life cs Request q) (take_next calls k c there)
        ∙ life_more (take k calls) c Request q
        ∙ ap (next_life (length (take k calls)) (makes Request q c) (ends (is_kept (take k calls) Request q) Request q c)) (rest (omega (arith, above, more)))
        ∙ next c there above (makes Request q c) (ends (is_kept (take k calls) Request q) Request q c) refl

-- ---- finding an operation by its request

-- it is the one that is found by its request
abbrev pub Found : List Operation → Operation → Type 0
Found ops op = (q : ℕ) → op.request ≡ Some q → find (is_done_with q) ops ≡ Some op

pub itself : (q : ℕ) → (q == q) ≡ true
itself q = eq-eqb q q refl

two_found : (n p s : ℕ) (request : Option ℕ) (sent received : Option Message) → ((q : ℕ) (a b : Message) → request ≡ Some q → sent ≡ Some a → received ≡ Some b → ⊥)
    → AllByRecursion (Found (cons_option (option_map (operation n p request) sent) (cons_option (option_map (operation n s request) received) [])))
    (cons_option (option_map (operation n p request) sent) (cons_option (option_map (operation n s request) received) []))
two_found n p s request None None apart = tt
two_found n p s request (Some a) None apart =
    ((λ q e. let op = operation n p request a in ap (λ (o : Option ℕ). cond (is_done_with q (operation n p o a)) (Some op) None) e ∙ ap (λ (b : Bool). cond b (Some op) None) (itself q)), tt)
two_found n p s request None (Some b) apart =
    ((λ q e. let op = operation n s request b in ap (λ (o : Option ℕ). cond (is_done_with q (operation n s o b)) (Some op) None) e ∙ ap (λ (c : Bool). cond c (Some op) None) (itself q)), tt)
two_found n p s request (Some a) (Some b) apart = ((λ q e. absurd (apart q a b e refl refl)), ((λ q e. absurd (apart q a b e refl refl)), tt))

-- ---- what a call begins with a request that it makes

-- the request is active with what this call began
abbrev pub StartsNow : Rank → List Call → Call → ℕ → Type 0
StartsNow r calls call q = start_of (clear_behind r) (calls ++ call ∷ []) q ≡ Some (length calls)

pub begun_found : (r : Rank) (earlier : List Call) (call : Call) → AllByRecursion (Found (begun_here r earlier call)) (begun_here r earlier call)
begun_found r earlier call =
    two_found (length earlier) (part_in call.body (Buffer Send)) (part_in call.body (Buffer Receive)) (begun_request call) (message_at r earlier call Send) (message_at r earlier call Receive)
    (λ q a b e sent received. not_both r earlier call q a b (begun_made call q e).0 sent received)

-- a request that was never made before starts as the call makes it
pub made_starts : (r : Rank) (calls : List Call) (call : Call) (q : ℕ) → life calls Request q ≡ Never → made_by call ≡ request_handle q → persists call ≡ false → StartsNow r calls call q
made_starts r calls call q never made once =
    start_more (clear_behind r) calls call q
    ∙ ap (λ (l : Life). next_start (length calls) (makes Request q call) (persists call) (ends (is_kept calls Request q) Request q call) (completes Request q call) (names_to_start (clear_behind r) calls call q) l (start_of (clear_behind r) calls q)) never
    ∙ ap (λ (o : Option ClassedHandle). only_if (is_handle Request q o && not (persists call)) (length calls)) made
    ∙ ap (λ (b : Bool). only_if (b && not (persists call)) (length calls)) (itself q)
    ∙ ap (λ (b : Bool). only_if (not b) (length calls)) once

-- ---- what a call starts

-- the operation was started: at its index the request was live, persistent and not active
abbrev pub IsStarted : Rank → (earlier : List Call) → Call → Operation → Type 0
IsStarted r earlier call op = (q : ℕ) → op.request ≡ Some q → (starts_at r earlier call op.part q ≡ true) × (slice_get (started_of call.body) op.part ≡ Some q)

started_true : (r : Rank) (earlier : List Call) (call : Call) (index q : ℕ) (m : Message) → message_started r earlier call index q ≡ Some m → starts_at r earlier call index q ≡ true
unfolding message_started
started_true r earlier call index q m e = at (starts_at r earlier call index q) e
  where
    at : (b : Bool) → cond b (message_made r earlier (life earlier Request q)) None ≡ Some m → b ≡ true
    at true f = refl
    at false f = no_some m f

with_is : (r : Rank) (earlier : List Call) (call : Call) (index request : ℕ) (m : Option Message) (ops : List Operation) → message_started r earlier call index request ≡ m → slice_get (started_of call.body) index ≡ Some request
    → AllByRecursion (IsStarted r earlier call) ops → AllByRecursion (IsStarted r earlier call) (with_started (length earlier) index request m ops)
with_is r earlier call index request None ops e there all = all
with_is r earlier call index request (Some m) ops e there all = (
  (λ q f. let same = same_some request q f in
      (subst (λ (n : ℕ). starts_at r earlier call index n ≡ true) same (started_true r earlier call index request m e), there ∙ f)),
  all,
)

-- the requests from an index on
abbrev pub AreFrom : List ℕ → (index : ℕ) → List ℕ → Type 0
AreFrom all index requests = (j : ℕ) → slice_get all (index + j) ≡ slice_get requests j

from_here : (all : List ℕ) (index request : ℕ) (requests : List ℕ) → AreFrom all index (request ∷ requests) → slice_get all index ≡ Some request
from_here all index request requests are = let same : index ≡ index + 0 = omega arith in ap (slice_get all) same ∙ are 0

from_rest : (all : List ℕ) (index request : ℕ) (requests : List ℕ) → AreFrom all index (request ∷ requests) → AreFrom all (suc index) requests
from_rest all index request requests are j = let same : suc index + j ≡ index + suc j = omega arith in ap (slice_get all) same ∙ are (suc j)

pub from_is : (r : Rank) (earlier : List Call) (call : Call) (index : ℕ) (requests : List ℕ) → AreFrom (started_of call.body) index requests → AllByRecursion (IsStarted r earlier call) (started_from r earlier call index requests)
from_is r earlier call index [] are = tt
from_is r earlier call index (request ∷ requests) are =
    with_is r earlier call index request (message_started r earlier call index request) (started_from r earlier call (suc index) requests) refl (from_here (started_of call.body) index request requests are)
    (from_is r earlier call (suc index) requests (from_rest (started_of call.body) index request requests are))

-- ---- what starting says

none_of : (o : Option ℕ) → is_none o ≡ true → o ≡ None
none_of None e = refl
none_of (Some x) e = let no : false ≡ true = e in absurd cc

neither : (o : Option ℕ) (b : Bool) (n : ℕ) → or_then o (only_if b n) ≡ None → (o ≡ None) × (b ≡ false)
neither None true n e = no_some n (sym e)
neither None false n e = (refl, refl)
neither (Some x) b n e = no_some x (sym e)

record WasIdle (r : Rank) (earlier : List Call) (call : Call) (index q : ℕ) : Type 0 where
  clear : clear_behind r earlier call ≡ true
  kept : is_kept earlier Request q ≡ true
  idle : start_of (clear_behind r) earlier q ≡ None
  not_before : is_in (take index (started_of call.body)) q ≡ false

all_true : (c k b : Bool) → c ≡ true → k ≡ true → (c && (b && k)) ≡ false → b ≡ false
all_true true true true e f g = let no : true ≡ false = g in absurd cc
all_true true true false e f g = refl
all_true false k b e f g = let no : false ≡ true = e in absurd cc
all_true true false b e f g = let no : false ≡ true = f in absurd cc

was_idle : (r : Rank) (earlier : List Call) (call : Call) (index q : ℕ) → starts_at r earlier call index q ≡ true → WasIdle r earlier call index q
was_idle r earlier call index q e =
    let first = both (clear_behind r earlier call) (is_kept earlier Request q && is_none (start_at (clear_behind r) earlier call index q)) e in
    let second = both (is_kept earlier Request q) (is_none (start_at (clear_behind r) earlier call index q)) first.1 in
    let split = neither (start_of (clear_behind r) earlier q) (clear_behind r earlier call && (is_in (take index (started_of call.body)) q && is_kept earlier Request q)) (length earlier) (none_of (start_at (clear_behind r) earlier call index q) second.1) in
    record {
      clear = first.0;
      kept = second.0;
      idle = split.0;
      not_before = all_true (clear_behind r earlier call) (is_kept earlier Request q) (is_in (take index (started_of call.body)) q) first.0 second.0 split.1;
    }

in_list : (requests : List ℕ) (i q : ℕ) → slice_get requests i ≡ Some q → is_in requests q ≡ true
in_list [] i q e = no_some q e
in_list (x ∷ xs) zero q e = ap (λ (b : Bool). b || is_in xs q) (eq-eqb x q (same_some x q e))
in_list (x ∷ xs) (suc i) q e = ap (λ (b : Bool). (x == q) || b) (in_list xs i q e) ∙ at (x == q)
  where
    at : (b : Bool) → (b || true) ≡ true
    at true = refl
    at false = refl

in_front : (requests : List ℕ) (i n q : ℕ) → i < n → slice_get requests i ≡ Some q → is_in (take n requests) q ≡ true
in_front requests i zero q below e = absurd (omega (arith, below))
in_front [] i (suc n) q below e = no_some q e
in_front (x ∷ xs) zero (suc n) q below e = ap (λ (b : Bool). b || is_in (take n xs) q) (eq-eqb x q (same_some x q e))
in_front (x ∷ xs) (suc i) (suc n) q below e = ap (λ (b : Bool). (x == q) || b) (in_front xs i n q (omega (arith, below)) e) ∙ at (x == q)
  where
    at : (b : Bool) → (b || true) ≡ true
    at true = refl
    at false = refl

-- ---- what is started is found by its request, and its request is active with it

found_behind : (r : Rank) (earlier : List Call) (call : Call) (index request : ℕ) (m : Message) (ops others : List Operation) → slice_get (started_of call.body) index ≡ Some request
    → AllByRecursion (Found ops) others → AllByRecursion (IsFrom (length earlier) (suc index)) others → AllByRecursion (IsStarted r earlier call) others
    → AllByRecursion (Found (operation (length earlier) index (Some request) m ∷ ops)) others
found_behind r earlier call index request m ops [] there found parts started = tt
found_behind r earlier call index request m ops (op ∷ others) there found parts started =
    ((λ q e. at q e (request == q) refl), found_behind r earlier call index request m ops others there found.1 parts.1 started.1)
  where
    at : (q : ℕ) → op.request ≡ Some q → (b : Bool) → (request == q) ≡ b → cond b (Some (operation (length earlier) index (Some request) m)) (find (is_done_with q) ops) ≡ Some op
    at q e true same =
        let idle = was_idle r earlier call op.part q (started.0 q e).0 in
        let next = parts.0.1 in
        let front = in_front (started_of call.body) index op.part q (omega (arith, next)) (there ∙ ap Some (eqb-true request q same)) in
        let no : true ≡ false = sym front ∙ idle.not_before in absurd cc
    at q e false other = found.0 q e

with_found : (r : Rank) (earlier : List Call) (call : Call) (index request : ℕ) (m : Option Message) (ops : List Operation) → slice_get (started_of call.body) index ≡ Some request
    → AllByRecursion (Found ops) ops → AllByRecursion (IsFrom (length earlier) (suc index)) ops → AllByRecursion (IsStarted r earlier call) ops
    → AllByRecursion (Found (with_started (length earlier) index request m ops)) (with_started (length earlier) index request m ops)
with_found r earlier call index request None ops there found parts started = found
with_found r earlier call index request (Some m) ops there found parts started = (
  (λ q e. ap (λ (b : Bool). cond b (Some (operation (length earlier) index (Some request) m)) (find (is_done_with q) ops)) (eq-eqb request q (same_some request q e))),
  found_behind r earlier call index request m ops ops there found parts started,
)

pub started_found : (r : Rank) (earlier : List Call) (call : Call) (index : ℕ) (requests : List ℕ) → AreFrom (started_of call.body) index requests
    → AllByRecursion (Found (started_from r earlier call index requests)) (started_from r earlier call index requests)
started_found r earlier call index [] are = tt
started_found r earlier call index (request ∷ requests) are =
    let rest = from_rest (started_of call.body) index request requests are in
    with_found r earlier call index request (message_started r earlier call index request) (started_from r earlier call (suc index) requests)
    (from_here (started_of call.body) index request requests are)
    (started_found r earlier call (suc index) requests rest) (started_parts r earlier call (suc index) requests) (from_is r earlier call (suc index) requests rest)

-- a call that starts requests frees and completes none
starts_only : (b : Body) (i q : ℕ) → slice_get (started_of b) i ≡ Some q → (freed_of b ≡ None) × (completed_of b ≡ [])
starts_only (Persist (Start request)) i q e = (refl, refl)
starts_only (Persist (Startall requests)) i q e = (refl, refl)
starts_only _ i q e = no_some q e

and_false : (a : Bool) → (a && false) ≡ false
and_false true = refl
and_false false = refl

frees_none : (call : Call) (q : ℕ) → freed_of call.body ≡ None → frees Request q call ≡ false
unfolding frees
frees_none call q e = ap (λ (o : Option ClassedHandle). call.returned && is_handle Request q o) e ∙ and_false call.returned

completes_none : (call : Call) (q : ℕ) → completed_of call.body ≡ [] → completes Request q call ≡ false
unfolding completes
completes_none call q e = ap (λ (ns : List ℕ). call.returned && (same_class Request Request && is_in ns q)) e ∙ and_false call.returned

kept_live : (calls : List Call) (q : ℕ) → is_kept calls Request q ≡ true → (made : ℕ) × (life calls Request q ≡ Live made)
unfolding is_kept
kept_live calls q e = at (life calls Request q) e
  where
    at : (l : Life) → is_kept_by calls l ≡ true → (made : ℕ) × (l ≡ Live made)
    at (Live made) f = (made, refl)
    at Never f = let no : false ≡ true = f in absurd cc
    at (Freed made freed) f = let no : false ≡ true = f in absurd cc
    at Predefined f = let no : false ≡ true = f in absurd cc

names_it : (r : Rank) (calls : List Call) (call : Call) (q : ℕ) → clear_behind r calls call ≡ true → is_in (started_of call.body) q ≡ true → names_to_start (clear_behind r) calls call q ≡ true
unfolding names_to_start
names_it r calls call q clear named = ap (λ (b : Bool). b && is_in (started_of call.body) q) clear ∙ named

pub kept_starts : (r : Rank) (calls : List Call) (call : Call) (index q : ℕ) → starts_at r calls call index q ≡ true → slice_get (started_of call.body) index ≡ Some q → StartsNow r calls call q
kept_starts r calls call index q starts there =
    let idle = was_idle r calls call index q starts in
    let live = kept_live calls q idle.kept in
    let only = starts_only call.body index q there in
    let n = length calls in
    let m = makes Request q call in
    let p = persists call in
    let f = frees Request q call in
    let c = completes Request q call in
    let k = is_kept calls Request q in
    let s = names_to_start (clear_behind r) calls call q in
    start_more (clear_behind r) calls call q
    ∙ ap (λ (l : Life). next_start n m p (f || (not k && c)) c s l (start_of (clear_behind r) calls q)) live.1
    ∙ ap (λ (o : Option ℕ). next_start n m p (f || (not k && c)) c s (Live live.0) o) idle.idle
    ∙ ap (λ (b : Bool). next_start n m p (b || (not k && c)) c s (Live live.0) None) (frees_none call q only.0)
    ∙ ap (λ (b : Bool). next_start n m p (not k && b) b s (Live live.0) None) (completes_none call q only.1)
    ∙ ap (λ (b : Bool). next_start n m p b false s (Live live.0) None) (and_false (not k))
    ∙ ap (λ (b : Bool). next_start n m p false false b (Live live.0) None) (names_it r calls call q idle.clear (in_list (started_of call.body) index q there))
