-- What is given of a rank's items and needs, over one call more: what was given stays in front, and what was held back is given, or
-- held back with what comes behind it.
use Rattle.std.proofs.Common.{◌≡◌, ℕ, zero, suc, ◌<◌, ◌≤◌, Bool, true, false, cond, ◌&&◌, List, [], ◌∷◌, ◌++◌, length, take, Option, Some, None, refl, ap, ◌∙◌, arith}
use Rattle.std.specs.Prelude.{map, filter_map, find, slice_get, if◌then◌else◌}
use Rattle.std.specs.List.{AllByRecursion, list_all, cons_option}
use Rattle.std.proofs.lemmas.List.Elements.{filter_map-append}
use Rattle.must_call.specs.declared.finish.Finish.{Finish}
use Rattle.must_call.specs.declared.finish.Finish.TheVariants.{Wait, Waitall, Waitany, Waitsome}
use Rattle.must_call.specs.declared.body.Body.{Body}
use Rattle.must_call.specs.declared.body.Body.TheVariants as body
use Rattle.must_call.specs.declared.call.Call.{Call}
use Rattle.must_call.specs.Fields.{output}
use Rattle.must_call.specs.Kinds.{kind_of}
use Rattle.must_entry.specs.declared.want.Want.{Want}
use Rattle.must_entry.specs.Entries.{Waits}
use Rattle.must_rules.specs.Rank.{Rank}
use Rattle.must_rules.specs.Starts.{start_of}
use Rattle.must_rules.specs.Known.{clear_behind}
use Rattle.must_messages.specs.PlainLaws.{both}
use Rattle.must_rules.specs.Operations.{Operation, operations_at, operations_of, operations_by, operations_in}
use Rattle.must_messages.specs.OperationLaws.{IsBegunBy, IsBegunBelow, begun_by, begun_below, operations_more}
use Rattle.must_rules.specs.Turns.{Turn, turn, turns}
use Rattle.must_messages.specs.TurnLaws.{IsTurnBelow, turns_more, turns_below, all_weaker}
use Rattle.std.proofs.lemmas.List.{map-append}
use Rattle.must_messages.specs.FateLaws.{fate_stays}
use Rattle.must_rules.specs.Fates.{fate_of}
use Rattle.must_rules.specs.Statuses.{is_done_with, begun_in, under_way}
use Rattle.must_messages.specs.MessageItems.{Item, item_of, items_of}
use Rattle.must_messages.specs.ItemLaws.{item_stays}
use Rattle.must_messages.specs.CallNeeds.{answers_request, waits, waits_of, needs_of}
use Rattle.must_messages.specs.NeedLaws.{AreSettled, ways_stay}
use Rattle.must_messages.specs.Holding.{front, back, is_settled, is_known, given, held, items_given, under_way_among, named_by, names_of, is_told, told, untold, needs_given}

-- ---- front and back

whole_by : {X : Type 0} (x : X) (f b xs : List X) (t : Bool) → xs ≡ f ++ b → x ∷ xs ≡ cond t (x ∷ f) [] ++ cond t b (x ∷ xs)
whole_by {X} x f b xs true e = ap (λ (ys : List X). x ∷ ys) e
whole_by x f b xs false e = refl

pub whole : {X : Type 0} (test : X → Bool) (xs : List X) → xs ≡ front test xs ++ back test xs
whole test [] = refl
whole test (x ∷ xs) = whole_by x (front test xs) (back test xs) xs (test x) (whole test xs)

-- what passes the old test passes the new one
abbrev pub Passes : {X : Type 0} → (old new : X → Bool) → List X → Type 0
Passes old new xs = AllByRecursion (λ x. old x ≡ true → new x ≡ true) xs

pub front_more : {X : Type 0} (old new : X → Bool) (xs ys : List X) → Passes old new xs → front new (xs ++ ys) ≡ front old xs ++ front new (back old xs ++ ys)
front_more old new [] ys passes = refl
front_more {X} old new (x ∷ xs) ys passes = at (front_more old new xs ys passes.1) (old x) passes.0
  where
    at : front new (xs ++ ys) ≡ front old xs ++ front new (back old xs ++ ys) → (b : Bool) → (b ≡ true → new x ≡ true) → cond (new x) (x ∷ front new (xs ++ ys)) [] ≡ cond b (x ∷ front old xs) [] ++ front new (cond b (back old xs) (x ∷ xs) ++ ys)
    at more true p = ap (λ (c : Bool). cond c (x ∷ front new (xs ++ ys)) []) (p refl) ∙ ap (λ (zs : List X). x ∷ zs) more
    at more false p = refl

pub back_more : {X : Type 0} (old new : X → Bool) (xs ys : List X) → Passes old new xs → back new (xs ++ ys) ≡ back new (back old xs ++ ys)
back_more old new [] ys passes = refl
back_more {X} old new (x ∷ xs) ys passes = at (back_more old new xs ys passes.1) (old x) passes.0
  where
    at : back new (xs ++ ys) ≡ back new (back old xs ++ ys) → (b : Bool) → (b ≡ true → new x ≡ true) → cond (new x) (back new (xs ++ ys)) (x ∷ xs ++ ys) ≡ back new (cond b (back old xs) (x ∷ xs) ++ ys)
    at more true p = ap (λ (c : Bool). cond c (back new (xs ++ ys)) (x ∷ xs ++ ys)) (p refl) ∙ more
    at more false p = refl

-- those in front pass the test, and have what all have
front_all : {X : Type 0} (P : X → Type 0) (test : X → Bool) (xs : List X) → AllByRecursion P xs → AllByRecursion (λ x. P x × (test x ≡ true)) (front test xs)
front_all P test [] all = tt
front_all {X} P test (x ∷ xs) all = at (front_all P test xs all.1) (test x) refl
  where
    at : AllByRecursion (λ (y : X). P y × (test y ≡ true)) (front test xs) → (b : Bool) → test x ≡ b → AllByRecursion (λ (y : X). P y × (test y ≡ true)) (cond b (x ∷ front test xs) [])
    at more true e = ((all.0, e), more)
    at more false e = tt

-- ---- items

known_stays : (calls : List Call) (call : Call) (ops : List Operation) → AllByRecursion (IsBegunBelow (length calls)) ops → Passes (is_known calls) (is_known (calls ++ call ∷ [])) ops
known_stays calls call [] below = tt
known_stays calls call (op ∷ ops) below = ((λ e. ap is_settled (fate_stays calls call op below.0 e) ∙ e), known_stays calls call ops below.1)

-- the operations whose items are given by one call more, and those that are still held back
pub given_more : (r : Rank) (calls : List Call) (call : Call)
    → given r (calls ++ call ∷ []) ≡ given r calls ++ front (is_known (calls ++ call ∷ [])) (held r calls ++ operations_at r calls call)
given_more r calls call =
    ap (front (is_known (calls ++ call ∷ []))) (operations_more r calls call)
    ∙ front_more (is_known calls) (is_known (calls ++ call ∷ [])) (operations_of r calls) (operations_at r calls call) (known_stays calls call (operations_of r calls) (begun_below r calls))

pub held_more : (r : Rank) (calls : List Call) (call : Call) → held r (calls ++ call ∷ []) ≡ back (is_known (calls ++ call ∷ [])) (held r calls ++ operations_at r calls call)
held_more r calls call =
    ap (back (is_known (calls ++ call ∷ []))) (operations_more r calls call)
    ∙ back_more (is_known calls) (is_known (calls ++ call ∷ [])) (operations_of r calls) (operations_at r calls call) (known_stays calls call (operations_of r calls) (begun_below r calls))

-- an operation of these calls that is settled
abbrev IsOver : List Call → Operation → Type 0
IsOver calls op = (op.call < length calls) × (is_settled (fate_of calls op) ≡ true)

items_same : (r : Rank) (calls : List Call) (call : Call) (ops : List Operation) → AllByRecursion (IsOver calls) ops → filter_map (item_of r (calls ++ call ∷ [])) ops ≡ filter_map (item_of r calls) ops
items_same r calls call [] over = refl
items_same r calls call (op ∷ ops) over =
    ap (λ (i : Option Item). cons_option i (filter_map (item_of r (calls ++ call ∷ [])) ops)) (item_stays r calls call op over.0.0 over.0.1)
    ∙ ap (λ (is : List Item). cons_option (item_of r calls op) is) (items_same r calls call ops over.1)

-- the items that were given stay, and those of what is settled now come behind them
pub items_given_more : (r : Rank) (calls : List Call) (call : Call)
    → items_given r (calls ++ call ∷ [])
    ≡ items_given r calls ++ filter_map (item_of r (calls ++ call ∷ [])) (front (is_known (calls ++ call ∷ [])) (held r calls ++ operations_at r calls call))
items_given_more r calls call =
    let more = front (is_known (calls ++ call ∷ [])) (held r calls ++ operations_at r calls call) in
    ap (filter_map (item_of r (calls ++ call ∷ []))) (given_more r calls call)
    ∙ filter_map-append (item_of r (calls ++ call ∷ [])) (given r calls) more
    ∙ ap (λ (is : List Item). is ++ filter_map (item_of r (calls ++ call ∷ [])) more)
    (items_same r calls call (given r calls) (front_all (IsBegunBelow (length calls)) (is_known calls) (operations_of r calls) (begun_below r calls)))

-- when the calls end, what is held back is given as it stands
pub items_whole : (r : Rank) (calls : List Call) → items_of r calls ≡ items_given r calls ++ filter_map (item_of r calls) (held r calls)
items_whole r calls = ap (filter_map (item_of r calls)) (whole (is_known calls) (operations_of r calls)) ∙ filter_map-append (item_of r calls) (given r calls) (held r calls)

-- ---- the operations that a call names

take_short : (k : ℕ) (xs : List Call) → length (take k xs) ≤ length xs
take_short zero xs = omega arith
take_short (suc k) [] = omega arith
take_short (suc k) (x ∷ xs) = let h = take_short k xs in omega (arith, h)

find_all : (P : Operation → Type 0) (test : Operation → Bool) (ops : List Operation) → AllByRecursion P ops → AllByRecursion P (cons_option (find test ops) [])
find_all P test [] all = tt
find_all P test (op ∷ ops) all = at (find_all P test ops all.1) (test op)
  where
    at : AllByRecursion P (cons_option (find test ops) []) → (b : Bool) → AllByRecursion P (cons_option (cond b (Some op) (find test ops)) [])
    at rest true = (all.0, tt)
    at rest false = rest

cons_all : (P : Operation → Type 0) (o : Option Operation) (ops : List Operation) → AllByRecursion P (cons_option o []) → AllByRecursion P ops → AllByRecursion P (cons_option o ops)
cons_all P None ops first rest = rest
cons_all P (Some op) ops first rest = (first.0, rest)

by_below : (r : Rank) (n : ℕ) (before : List Call) (call : Option Call) → length before < n → AllByRecursion (IsBegunBelow n) (operations_by r before call)
by_below r n before None below = tt
by_below r n before (Some call) below = all_weaker (IsBegunBy (length before)) (IsBegunBelow n) (λ op e. omega (arith, below)) (operations_at r before call) (begun_by r before call)

in_below : (r : Rank) (earlier : List Call) (request : ℕ) (start : Option ℕ) → AllByRecursion (IsBegunBelow (suc (length earlier))) (cons_option (begun_in r earlier request start) [])
in_below r earlier request None = tt
in_below r earlier request (Some k) =
    find_all (IsBegunBelow (suc (length earlier))) (is_done_with request) (operations_in r earlier k)
    (by_below r (suc (length earlier)) (take k earlier) (slice_get earlier k) (omega (arith, take_short k earlier)))

among_below : (r : Rank) (earlier : List Call) (requests : List ℕ) → AllByRecursion (IsBegunBelow (suc (length earlier))) (under_way_among r earlier requests)
among_below r earlier [] = tt
among_below r earlier (request ∷ requests) =
    cons_all (IsBegunBelow (suc (length earlier))) (under_way r earlier request) (under_way_among r earlier requests)
    (in_below r earlier request (start_of (clear_behind r) earlier request)) (among_below r earlier requests)

done_below : (r : Rank) (earlier : List Call) (call : Call) (answers : Bool) → AllByRecursion (IsBegunBelow (suc (length earlier))) (if answers then [] else operations_at r earlier call)
done_below r earlier call true = tt
done_below r earlier call false = by_below r (suc (length earlier)) earlier (Some call) (omega arith)

finish_below : (r : Rank) (earlier : List Call) (call : Call) (f : Finish) → AllByRecursion (IsBegunBelow (suc (length earlier))) (named_by r earlier call (body.Finish f))
finish_below r earlier call (Wait request status) = among_below r earlier (request ∷ [])
finish_below r earlier call (Waitall requests statuses) = among_below r earlier requests
finish_below r earlier call (Waitany requests choice) = among_below r earlier requests
finish_below r earlier call (Waitsome requests completions) = among_below r earlier requests
finish_below r earlier call _ = tt

-- they were begun by the call or by an earlier one
pub named_below : (r : Rank) (earlier : List Call) (call : Call) (b : Body) → AllByRecursion (IsBegunBelow (suc (length earlier))) (named_by r earlier call b)
named_below r earlier call (body.Point p) = done_below r earlier call (answers_request (output (kind_of call.body)))
named_below r earlier call (body.Finish f) = finish_below r earlier call f
named_below r earlier call _ = tt

-- ---- needs

and_true : (a b : Bool) → a ≡ true → b ≡ true → (a && b) ≡ true
and_true true true e f = refl
and_true true false e f = f
and_true false b e f = e

all_pass : (old new : Operation → Bool) (ops : List Operation) → Passes old new ops → list_all old ops ≡ true → list_all new ops ≡ true
all_pass old new [] passes e = refl
all_pass old new (op ∷ ops) passes e =
    let p = both (old op) (list_all old ops) e in
    and_true (new op) (list_all new ops) (passes.0 p.0) (all_pass old new ops passes.1 p.1)

names_here : (r : Rank) (calls : List Call) (t : Turn) → length t.earlier < length calls → AllByRecursion (IsBegunBelow (length calls)) (names_of r t)
names_here r calls t below =
    all_weaker (IsBegunBelow (suc (length t.earlier))) (IsBegunBelow (length calls)) (λ op h. omega (arith, below)) (names_of r t) (named_below r t.earlier t.call t.call.body)

told_stays : (r : Rank) (calls : List Call) (call : Call) (ts : List Turn) → AllByRecursion (IsTurnBelow (length calls)) ts → Passes (is_told r calls) (is_told r (calls ++ call ∷ [])) ts
told_stays r calls call [] below = tt
told_stays r calls call (t ∷ ts) below =
    (all_pass (is_known calls) (is_known (calls ++ call ∷ [])) (names_of r t) (known_stays calls call (names_of r t) (names_here r calls t below.0)), told_stays r calls call ts below.1)

-- the calls whose needs are given by one call more, and those that are still held back
pub told_more : (r : Rank) (calls : List Call) (call : Call)
    → told r (calls ++ call ∷ []) ≡ told r calls ++ front (is_told r (calls ++ call ∷ [])) (untold r calls ++ turn calls call ∷ [])
told_more r calls call =
    ap (front (is_told r (calls ++ call ∷ []))) (turns_more calls call)
    ∙ front_more (is_told r calls) (is_told r (calls ++ call ∷ [])) (turns calls) (turn calls call ∷ []) (told_stays r calls call (turns calls) (turns_below calls))

pub untold_more : (r : Rank) (calls : List Call) (call : Call) → untold r (calls ++ call ∷ []) ≡ back (is_told r (calls ++ call ∷ [])) (untold r calls ++ turn calls call ∷ [])
untold_more r calls call =
    ap (back (is_told r (calls ++ call ∷ []))) (turns_more calls call)
    ∙ back_more (is_told r calls) (is_told r (calls ++ call ∷ [])) (turns calls) (turn calls call ∷ []) (told_stays r calls call (turns calls) (turns_below calls))

all_settled : (calls : List Call) (ops : List Operation) → AllByRecursion (IsBegunBelow (length calls)) ops → list_all (is_known calls) ops ≡ true → AreSettled calls ops
all_settled calls [] below e = tt
all_settled calls (op ∷ ops) below e =
    let p = both (is_known calls op) (list_all (is_known calls) ops) e in
    ((below.0, p.0), all_settled calls ops below.1 p.1)

-- a turn whose needs are told
abbrev IsToldNow : Rank → List Call → Turn → Type 0
IsToldNow r calls t = (length t.earlier < length calls) × (is_told r calls t ≡ true)

waits_same : (r : Rank) (calls : List Call) (call : Call) (ts : List Turn) → AllByRecursion (IsToldNow r calls) ts → map (waits_of r (calls ++ call ∷ [])) ts ≡ map (waits_of r calls) ts
waits_same r calls call [] told_now = refl
waits_same r calls call (t ∷ ts) told_now =
    ap (λ (ways : List (List Want)). waits r (length t.earlier) ways ∷ map (waits_of r (calls ++ call ∷ [])) ts)
    (ways_stay r calls call t.earlier t.call (all_settled calls (names_of r t) (names_here r calls t told_now.0.0) told_now.0.1))
    ∙ ap (λ (ws : List Waits). waits_of r calls t ∷ ws) (waits_same r calls call ts told_now.1)

-- the needs that were given stay, and those that can be told now come behind them
pub needs_given_more : (r : Rank) (calls : List Call) (call : Call)
    → needs_given r (calls ++ call ∷ [])
    ≡ needs_given r calls ++ map (waits_of r (calls ++ call ∷ [])) (front (is_told r (calls ++ call ∷ [])) (untold r calls ++ turn calls call ∷ []))
needs_given_more r calls call =
    let more = front (is_told r (calls ++ call ∷ [])) (untold r calls ++ turn calls call ∷ []) in
    ap (map (waits_of r (calls ++ call ∷ []))) (told_more r calls call)
    ∙ map-append (waits_of r (calls ++ call ∷ [])) (told r calls) more
    ∙ ap (λ (ws : List Waits). ws ++ map (waits_of r (calls ++ call ∷ [])) more)
    (waits_same r calls call (told r calls) (front_all (IsTurnBelow (length calls)) (is_told r calls) (turns calls) (turns_below calls)))

-- when the calls end, the other needs are given as they stand
pub needs_whole : (r : Rank) (calls : List Call) → needs_of r calls ≡ needs_given r calls ++ map (waits_of r calls) (untold r calls)
needs_whole r calls = ap (map (waits_of r calls)) (whole (is_told r calls) (turns calls)) ∙ map-append (waits_of r calls) (told r calls) (untold r calls)
