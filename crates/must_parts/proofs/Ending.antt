-- What is left where requests are done.
use Rattle.std.proofs.Common.{◌≡◌, ℕ, ◌+◌, ◌<◌, ◌==◌, Bool, true, false, cond, not, ◌&&◌, ◌||◌, nat_eq, List, [], ◌∷◌, ◌++◌, take, get_or, length, Option, Some, None, refl, sym, ap, subst, ◌∙◌, arith}
use Rattle.std.specs.Prelude.{filter, slice_get, if◌then◌else◌}
use Rattle.std.specs.List.{cons_option}
use Rattle.std.specs.Option.{option_to_list}
use Rattle.std.proofs.lemmas.List.{take_more}
use Rattle.std.proofs.lemmas.List.Elements.{filter_map-append}
use Rattle.std.proofs.lemmas.List.Folds.{list_any-append}
use Rattle.must_call.specs.declared.class.Class.TheVariants.{Comm, Group, Datatype, Operation, Request}
use Rattle.must_call.specs.declared.items.Completion.{Completion}
use Rattle.must_call.specs.declared.call.Call.{Call}
use Rattle.must_call.specs.declared.body.Body.{Body}
use Rattle.must_call.specs.Handles.{ClassedHandle}
use Rattle.must_pending.specs.declared.held.Held.{Held}
use Rattle.must_pending.specs.Clashes.{without}
use Rattle.must_rules.specs.Making.{is_in, same_class, is_handle, picked, freed_of, completed_of, frees, completes}
use Rattle.must_rules.specs.Lives.{ends}
use Rattle.must_rules.specs.PendingOperations as pending
use Rattle.must_rules.specs.PendingOperations.{left_by}
use Rattle.must_parts.specs.Holding.{Holds, AreHeld}
use Rattle.must_parts.specs.Ending.{left, requests_freed, completed_in, freed_in}

-- ---- one list of requests behind another

step : (rs us : List ℕ) (h : Held) (hs : List Held) (a b : Bool) → is_in us h.request ≡ b → left us (cond (not a) (h ∷ left rs hs) (left rs hs)) ≡ cond (not (a || b)) (h ∷ left us (left rs hs)) (left us (left rs hs))
step rs us h hs true b e = refl
step rs us h hs false b e = ap (λ (c : Bool). cond (not c) (h ∷ left us (left rs hs)) (left us (left rs hs))) e

left_both : (rs us : List ℕ) (hs : List Held) → left us (left rs hs) ≡ left (rs ++ us) hs
left_both rs us [] = refl
left_both rs us (h ∷ hs) =
    step rs us h hs (is_in rs h.request) (is_in us h.request) refl
    ∙ ap (λ (l : List Held). cond (not (is_in rs h.request || is_in us h.request)) (h ∷ l) l) (left_both rs us hs)
    ∙ ap (λ (b : Bool). cond (not b) (h ∷ left (rs ++ us) hs) (left (rs ++ us) hs)) (sym (list_any-append (λ n. n == h.request) rs us))

or_false : (b : Bool) → b ≡ (b || false)
or_false true = refl
or_false false = refl

pub same_number : (m n : ℕ) → nat_eq n m ≡ (m == n)
same_number m n = at (m == n) (nat_eq n m) refl refl
  where
    at : (a b : Bool) → (m == n) ≡ a → nat_eq n m ≡ b → b ≡ a
    at true true p q = refl
    at false false p q = refl
    at true false p q = grind arith
    at false true p q = grind arith

pub same_test : (m n : ℕ) → nat_eq n m ≡ is_in (m ∷ []) n
same_test m n = same_number m n ∙ or_false (m == n)

pub none_left : (hs : List Held) → hs ≡ left [] hs
none_left [] = refl
none_left (h ∷ hs) = ap (λ (l : List Held). h ∷ l) (none_left hs)

one_left : (r : ℕ) (hs : List Held) → without r hs ≡ left (r ∷ []) hs
one_left r [] = refl
one_left r (h ∷ hs) =
    ap (λ (b : Bool). cond (not b) (h ∷ without r hs) (without r hs)) (same_test r h.request)
    ∙ ap (λ (l : List Held). cond (not (is_in (r ∷ []) h.request)) (h ∷ l) l) (one_left r hs)

pub left_next : (requests : List ℕ) (j : ℕ) (old mid new : List Held) → j < length requests → mid ≡ left (take j requests) old → new ≡ without (get_or requests j 0) mid → new ≡ left (take (j + 1) requests) old
left_next requests j old mid new within before e =
    e ∙ ap (without (get_or requests j 0)) before ∙ one_left (get_or requests j 0) (left (take j requests) old) ∙ left_both (take j requests) (get_or requests j 0 ∷ []) old
    ∙ ap (λ (l : List ℕ). left l old) (sym (take_more requests j 0 within))

one_picked : (requests : List ℕ) (c : Completion) → picked requests (c ∷ []) ≡ option_to_list (slice_get requests c.index)
one_picked requests c = at (slice_get requests c.index)
  where
    at : (o : Option ℕ) → cons_option o [] ≡ option_to_list o
    at None = refl
    at (Some n) = refl

pub left_picked : (requests : List ℕ) (completions : List Completion) (j : ℕ) (d : Completion) (old mid new : List Held) → j < length completions → mid ≡ left (picked requests (take j completions)) old
    → new ≡ left (option_to_list (slice_get requests (get_or completions j d).index)) mid → new ≡ left (picked requests (take (j + 1) completions)) old
left_picked requests completions j d old mid new within before e =
    let c = get_or completions j d in
    let more : picked requests (take (j + 1) completions) ≡ picked requests (take j completions) ++ option_to_list (slice_get requests c.index) =
    ap (picked requests) (take_more completions j d within) ∙ filter_map-append (λ (k : Completion). slice_get requests k.index) (take j completions) (c ∷ []) ∙ ap (λ (l : List ℕ). picked requests (take j completions) ++ l) (one_picked requests c) in
    e ∙ ap (left (option_to_list (slice_get requests c.index))) before ∙ left_both (picked requests (take j completions)) (option_to_list (slice_get requests c.index)) old ∙ ap (λ (l : List ℕ). left l old) (sym more)

-- ---- what a call ends

completes_is : (b : Bool) (body : Body) (n : ℕ) → (b && (same_class Request Request && is_in (completed_of body) n)) ≡ is_in (if b then completed_of body else []) n
completes_is true body n = refl
completes_is false body n = refl

pub frees_is : (b : Bool) (o : Option ClassedHandle) (n : ℕ) → (b && is_handle Request n o) ≡ is_in (if b then requests_freed o else []) n
frees_is false o n = refl
frees_is true None n = refl
frees_is true (Some (Comm, r)) n = refl
frees_is true (Some (Group, r)) n = refl
frees_is true (Some (Datatype, r)) n = refl
frees_is true (Some (Operation, r)) n = refl
frees_is true (Some (Request, r)) n = or_false (r == n)

ends_is : (call : Call) (n : ℕ) → ends false Request n call ≡ (is_in (freed_in call) n || is_in (completed_in call) n)
unfolding frees completes
ends_is call n =
    ap (λ (a : Bool). a || (call.returned && (same_class Request Request && is_in (completed_of call.body) n))) (frees_is call.returned (freed_of call.body) n)
    ∙ ap (λ (a : Bool). is_in (freed_in call) n || a) (completes_is call.returned call.body n)

-- ---- operations that are held

keep_both : (h : Held) (o : pending.Operation) (hs : List Held) (ops : List pending.Operation) (a b : Bool) → a ≡ b → Holds h o → AreHeld hs ops → AreHeld (cond a (h ∷ hs) hs) (cond b (o ∷ ops) ops)
keep_both h o hs ops true true e m n = (m, n)
keep_both h o hs ops false false e m n = n
keep_both h o hs ops true false e m n = absurd cc
keep_both h o hs ops false true e m n = absurd cc

matched_left : (rs : List ℕ) (hs : List Held) (ops : List pending.Operation) → AreHeld hs ops → AreHeld (left rs hs) (filter (λ o. not (is_in rs o.request)) ops)
matched_left rs [] [] m = tt
matched_left rs [] (o ∷ ops) m = absurd m
matched_left rs (h ∷ hs) [] m = absurd m
matched_left rs (h ∷ hs) (o ∷ ops) m =
    keep_both h o (left rs hs) (filter (λ (k : pending.Operation). not (is_in rs k.request)) ops) (not (is_in rs h.request)) (not (is_in rs o.request)) (ap (λ n. not (is_in rs n)) m.0.request_is) m.0 (matched_left rs hs ops m.1)

two_steps : (cs fs : List ℕ) (o : pending.Operation) (ops : List pending.Operation) (c f : Bool) → is_in fs o.request ≡ f
    → filter (λ (k : pending.Operation). not (is_in fs k.request)) (cond (not c) (o ∷ ops) ops)
    ≡ cond (not (f || c)) (o ∷ filter (λ (k : pending.Operation). not (is_in fs k.request)) ops) (filter (λ (k : pending.Operation). not (is_in fs k.request)) ops)
two_steps cs fs o ops false true e = ap (λ (b : Bool). cond (not b) (o ∷ filter (λ (k : pending.Operation). not (is_in fs k.request)) ops) (filter (λ (k : pending.Operation). not (is_in fs k.request)) ops)) e
two_steps cs fs o ops false false e = ap (λ (b : Bool). cond (not b) (o ∷ filter (λ (k : pending.Operation). not (is_in fs k.request)) ops) (filter (λ (k : pending.Operation). not (is_in fs k.request)) ops)) e
two_steps cs fs o ops true true e = refl
two_steps cs fs o ops true false e = refl

left_is : (call : Call) (ops : List pending.Operation)
    → filter (λ (k : pending.Operation). not (is_in (freed_in call) k.request)) (filter (λ (k : pending.Operation). not (is_in (completed_in call) k.request)) ops) ≡ left_by call ops
left_is call [] = refl
left_is call (o ∷ ops) =
    two_steps (completed_in call) (freed_in call) o (filter (λ (k : pending.Operation). not (is_in (completed_in call) k.request)) ops) (is_in (completed_in call) o.request) (is_in (freed_in call) o.request) refl
    ∙ ap (λ (l : List pending.Operation). cond (not (is_in (freed_in call) o.request || is_in (completed_in call) o.request)) (o ∷ l) l) (left_is call ops)
    ∙ ap (λ (b : Bool). cond (not b) (o ∷ left_by call ops) (left_by call ops)) (sym (ends_is call o.request))

-- what is left where what a call completes and what it frees is done
pub ended : (call : Call) (old mid new : List Held) (ops : List pending.Operation) → AreHeld old ops → mid ≡ left (completed_in call) old → new ≡ left (freed_in call) mid → AreHeld new (left_by call ops)
ended call old mid new ops m a b =
    let first = matched_left (completed_in call) old ops m in
    let second = matched_left (freed_in call) (left (completed_in call) old) (filter (λ (k : pending.Operation). not (is_in (completed_in call) k.request)) ops) first in
    subst (λ (l : List pending.Operation). AreHeld new l) (left_is call ops)
    (subst (λ (l : List Held). AreHeld l (filter (λ (k : pending.Operation). not (is_in (freed_in call) k.request)) (filter (λ (k : pending.Operation). not (is_in (completed_in call) k.request)) ops))) (sym (b ∙ ap (left (freed_in call)) a)) second)
