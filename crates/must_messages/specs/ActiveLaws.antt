-- An open operation is the one that is under way with its request.
use Rattle.std.proofs.Common.{◌≡◌, ℕ, zero, suc, ◌+◌, ◌==◌, Bool, true, false, cond, ◌&&◌, ◌||◌, List, [], ◌∷◌, ◌++◌, length, take, Option, Some, None, refl, ap, sym, subst, ◌∙◌, arith, eqb-true}
use Rattle.std.specs.Prelude.{not, find, slice_get, option_map, filter_map, if◌then◌else◌}
use Rattle.std.specs.List.{AllByRecursion, cons_option}
use Rattle.std.proofs.lemmas.Option.{slice_get_past}
use Rattle.must_call.specs.declared.class.Class.TheVariants.{Request}
use Rattle.must_call.specs.declared.life.Life.{Life}
use Rattle.must_call.specs.declared.life.Life.TheVariants.{Never, Live, Freed, Predefined}
use Rattle.must_call.specs.declared.field.Side.TheVariants.{Send, Receive}
use Rattle.must_call.specs.declared.field.Field.TheVariants.{Buffer}
use Rattle.must_call.specs.declared.call.Call.{Call}
use Rattle.must_rules.specs.Rank.{Rank}
use Rattle.must_rules.specs.Making.{makes, persists, frees, completes, started_of, is_persistent_kind}
use Rattle.must_rules.specs.Lives.{life, ends, is_kept}
use Rattle.must_rules.specs.Numbered.{AreNumbered}
use Rattle.must_rules.specs.NumberedLaws.{numbered_at}
use Rattle.must_rules.specs.Starts.{start_by, start_of, names_to_start, under_way_by}
use Rattle.must_rules.specs.StartLaws.{next_start, start_more}
use Rattle.must_rules.specs.Known.{clear_behind}
use Rattle.must_rules.specs.Breaches.{part_in}
use Rattle.must_rules.specs.PendingOperations.{begun_request}
use Rattle.must_messages.specs.PlainLaws.{no_some}
use Rattle.must_rules.specs.Operations.{Operation, operation, Message, message_at, begun_here, started_from, operations_at, operations_by, operations_of}
use Rattle.must_messages.specs.OperationLaws.{IsBegunBelow, all_join, begun_below, operations_more}
use Rattle.must_rules.specs.Fates.{Fate, Open, Freed as WasFreed, Done, fate_by, fate_of, statuses_for}
use Rattle.must_messages.specs.FateLaws.{next_fate, fate_more}
use Rattle.must_rules.specs.Statuses.{is_done_with, begun_in, under_way}
use Rattle.must_messages.specs.UnderWayLaws.{next_under_way, under_way_more}
use Rattle.must_messages.specs.NameLaws.{take_next, take_past, take_all}
use Rattle.must_messages.specs.OneSideLaws.{begun_made}
use Rattle.must_messages.specs.OpenLaws.{itself, never_made, Found, StartsNow, begun_found, made_starts, IsStarted, from_is, started_found, kept_starts}

-- where an operation is open it is under way with its request
abbrev pub IsActive : Rank → List Call → Operation → Type 0
IsActive r calls op = (q : ℕ) → op.request ≡ Some q → fate_of calls op ≡ Open → under_way r calls q ≡ Some op

-- ---- what the last call begins

-- it is found by its request, which is active with what this call began
abbrev Begins : Rank → List Call → Call → List Operation → Operation → Type 0
Begins r calls call ops op = (q : ℕ) → op.request ≡ Some q → (find (is_done_with q) ops ≡ Some op) × StartsNow r calls call q

begins_started : (r : Rank) (calls : List Call) (call : Call) (ops others : List Operation) → AllByRecursion (Found ops) others → AllByRecursion (IsStarted r calls call) others → AllByRecursion (Begins r calls call ops) others
begins_started r calls call ops [] found started = tt
begins_started r calls call ops (op ∷ others) found started =
    ((λ q e. (found.0 q e, kept_starts r calls call op.part q (started.0 q e).0 (started.0 q e).1)), begins_started r calls call ops others found.1 started.1)

-- done with the request that the call makes
abbrev IsOfCall : Call → Operation → Type 0
IsOfCall call op = op.request ≡ begun_request call

two_of_call : (call : Call) (n p s : ℕ) (a b : Option Message) → AllByRecursion (IsOfCall call) (cons_option (option_map (operation n p (begun_request call)) a) (cons_option (option_map (operation n s (begun_request call)) b) []))
two_of_call call n p s None None = tt
two_of_call call n p s (Some a) None = (refl, tt)
two_of_call call n p s None (Some b) = (refl, tt)
two_of_call call n p s (Some a) (Some b) = (refl, (refl, tt))

begins_here : (r : Rank) (calls : List Call) (call : Call) (ops others : List Operation) → ((q : ℕ) → begun_request call ≡ Some q → StartsNow r calls call q)
    → AllByRecursion (Found ops) others → AllByRecursion (IsOfCall call) others → AllByRecursion (Begins r calls call ops) others
begins_here r calls call ops [] starts found of = tt
begins_here r calls call ops (op ∷ others) starts found of =
    ((λ q e. (found.0 q e, starts q (sym of.0 ∙ e))), begins_here r calls call ops others starts found.1 of.1)

either_begins : (r : Rank) (calls : List Call) (call : Call) (b : Bool) (ops others : List Operation) → AllByRecursion (Begins r calls call ops) ops → AllByRecursion (Begins r calls call others) others
    → AllByRecursion (Begins r calls call (if b then ops else others)) (if b then ops else others)
either_begins r calls call true ops others first second = first
either_begins r calls call false ops others first second = second

begins_all : (r : Rank) (calls : List Call) (call : Call) → ((q : ℕ) → begun_request call ≡ Some q → StartsNow r calls call q) → AllByRecursion (Begins r calls call (operations_at r calls call)) (operations_at r calls call)
unfolding operations_at
begins_all r calls call starts =
    either_begins r calls call (is_persistent_kind call.body) (started_from r calls call 0 (started_of call.body)) (begun_here r calls call)
    (begins_started r calls call (started_from r calls call 0 (started_of call.body)) (started_from r calls call 0 (started_of call.body))
    (started_found r calls call 0 (started_of call.body) (λ j. at_zero (started_of call.body) j)) (from_is r calls call 0 (started_of call.body) (λ j. at_zero (started_of call.body) j)))
    (begins_here r calls call (begun_here r calls call) (begun_here r calls call) starts (begun_found r calls call)
    (two_of_call call (length calls) (part_in call.body (Buffer Send)) (part_in call.body (Buffer Receive)) (message_at r calls call Send) (message_at r calls call Receive)))
  where
    at_zero : (requests : List ℕ) (j : ℕ) → slice_get requests (0 + j) ≡ slice_get requests j
    at_zero requests j = let same : 0 + j ≡ j = omega arith in ap (slice_get requests) same

-- the request of a call that makes one is the next handle, so it starts there
request_starts : (r : Rank) (calls : List Call) (k : ℕ) (call : Call) → AreNumbered 64 calls → slice_get calls k ≡ Some call → (q : ℕ) → begun_request call ≡ Some q → StartsNow r (take k calls) call q
request_starts r calls k call numbered there q e =
    let made = begun_made call q e in
    let is = numbered_at 64 calls k call numbered there Request q made.0 in
    made_starts r (take k calls) call q (never_made calls numbered k q (omega (arith, is))) made.0 made.1

-- under way with what the last call began
under_way_now : (r : Rank) (calls : List Call) (call : Call) (op : Operation) (q : ℕ) → find (is_done_with q) (operations_at r calls call) ≡ Some op → StartsNow r calls call q → under_way r (calls ++ call ∷ []) q ≡ Some op
under_way_now r calls call op q found starts =
    under_way_more r calls call q
    ∙ ap (next_under_way (length calls) (find (is_done_with q) (operations_at r calls call)) (under_way r calls q)) starts
    ∙ ap (λ (b : Bool). cond b (find (is_done_with q) (operations_at r calls call)) (under_way r calls q)) (itself (length calls))
    ∙ found

active_now : (r : Rank) (calls : List Call) (call : Call) (ops : List Operation) → AllByRecursion (Begins r calls call (operations_at r calls call)) ops → AllByRecursion (IsActive r (calls ++ call ∷ [])) ops
active_now r calls call [] begins = tt
active_now r calls call (op ∷ ops) begins =
    ((λ q e o. let here = begins.0 q e in under_way_now r calls call op q here.0 here.1), active_now r calls call ops begins.1)

-- ---- what was open before

done_open : {P : Type 0} (k : ℕ) (q : ℕ) (call : Call) (b : Bool) → cond b (Done k (statuses_for q call)) WasFreed ≡ Open → P
done_open k q call true e = let no : Done k (statuses_for q call) ≡ Open = e in absurd cc
done_open k q call false e = let no : WasFreed ≡ Open = e in absurd cc

stays_open : (n q : ℕ) (call : Call) (fate : Fate) → next_fate n (Some q) call fate ≡ Open → (fate ≡ Open) × (ends false Request q call ≡ false)
stays_open n q call Open e = at (ends false Request q call) e
  where
    at : (b : Bool) → cond b (fate_by q n (Some call)) Open ≡ Open → (Open ≡ Open) × (b ≡ false)
    at true f = done_open n q call (completes Request q call) f
    at false f = (refl, refl)
stays_open n q call WasFreed e = let no : WasFreed ≡ Open = e in absurd cc
stays_open n q call (Done k statuses) e = let no : Done k statuses ≡ Open = e in absurd cc

live_start : (kept : Bool) (start : Option ℕ) (l : Life) (j : ℕ) → start_by kept start l ≡ Some j → (made : ℕ) × (l ≡ Live made)
live_start false start (Live made) j e = (made, refl)
live_start true start (Live made) j e = (made, refl)
live_start false start Never j e = no_some j e
live_start true start Never j e = no_some j e
live_start false start (Freed made freed) j e = no_some j e
live_start true start (Freed made freed) j e = no_some j e
live_start false start Predefined j e = no_some j e
live_start true start Predefined j e = no_some j e

start_live : (r : Rank) (calls : List Call) (q j : ℕ) → start_of (clear_behind r) calls q ≡ Some j → (made : ℕ) × (life calls Request q ≡ Live made)
unfolding start_of
start_live r calls q j e = live_start (is_kept calls Request q) (under_way_by (clear_behind r) (Rattle.std.specs.Prelude.reverse calls) q) (life calls Request q) j e

neither_ends : (f c k : Bool) → (f || (not false && c)) ≡ false → ((f || (not k && c)) || c) ≡ false
neither_ends true c k e = e
neither_ends false true k e = let no : true ≡ false = e in absurd cc
neither_ends false false true e = refl
neither_ends false false false e = refl

-- a request that is active, and that a call neither frees nor completes, keeps its start
keeps_start : (r : Rank) (calls : List Call) (call : Call) (q j : ℕ) → start_of (clear_behind r) calls q ≡ Some j → ends false Request q call ≡ false → start_of (clear_behind r) (calls ++ call ∷ []) q ≡ Some j
keeps_start r calls call q j start ends_not =
    let live = start_live r calls q j start in
    let m = makes Request q call in
    let p = persists call in
    let e = ends (is_kept calls Request q) Request q call in
    let c = completes Request q call in
    let s = names_to_start (clear_behind r) calls call q in
    start_more (clear_behind r) calls call q
    ∙ ap (λ (l : Life). next_start (length calls) m p e c s l (start_of (clear_behind r) calls q)) live.1
    ∙ ap (λ (o : Option ℕ). next_start (length calls) m p e c s (Live live.0) o) start
    ∙ ap (λ (b : Bool). cond b None (Some j)) (neither_ends (frees Request q call) c (is_kept calls Request q) ends_not)

-- nothing was begun by a call that isn't there
begun_there : (r : Rank) (calls : List Call) (q j : ℕ) (op : Operation) → begun_in r calls q (Some j) ≡ Some op → (j == length calls) ≡ false
begun_there r calls q j op e = at (j == length calls) refl
  where
    past : slice_get calls (length calls) ≡ None
    past = slice_get_past calls (length calls) (omega arith)

    at : (b : Bool) → (j == length calls) ≡ b → b ≡ false
    at true same =
        no_some op
        (sym (ap (λ (o : Option Call). find (is_done_with q) (operations_by r (take (length calls) calls) o)) past)
        ∙ ap (λ (i : ℕ). begun_in r calls q (Some i)) (sym (eqb-true j (length calls) same))
        ∙ e)
    at false other = refl

under_way_still : (r : Rank) (calls : List Call) (call : Call) (op : Operation) (q : ℕ) → ends false Request q call ≡ false → under_way r calls q ≡ Some op → under_way r (calls ++ call ∷ []) q ≡ Some op
under_way_still r calls call op q ends_not before = at (start_of (clear_behind r) calls q) refl before
  where
    at : (start : Option ℕ) → start_of (clear_behind r) calls q ≡ start → begun_in r calls q start ≡ Some op → under_way r (calls ++ call ∷ []) q ≡ Some op
    at None same e = no_some op e
    at (Some j) same e =
        under_way_more r calls call q
        ∙ ap (next_under_way (length calls) (find (is_done_with q) (operations_at r calls call)) (under_way r calls q)) (keeps_start r calls call q j same ends_not)
        ∙ ap (λ (b : Bool). cond b (find (is_done_with q) (operations_at r calls call)) (under_way r calls q)) (begun_there r calls q j op e)
        ∙ before

active_still : (r : Rank) (calls : List Call) (call : Call) (ops : List Operation) → AllByRecursion (IsBegunBelow (length calls)) ops → AllByRecursion (IsActive r calls) ops → AllByRecursion (IsActive r (calls ++ call ∷ [])) ops
active_still r calls call [] below active = tt
active_still r calls call (op ∷ ops) below active = (still, active_still r calls call ops below.1 active.1)
  where
    still : IsActive r (calls ++ call ∷ []) op
    still q e o =
        let stays = stays_open (length calls) q call (fate_of calls op)
        (ap (λ (o : Option ℕ). next_fate (length calls) o call (fate_of calls op)) (sym e) ∙ sym (fate_more calls call op below.0) ∙ o) in
        under_way_still r calls call op q stays.1 (active.0 q e stays.0)

-- ---- a rank

abbrev AllActive : Rank → List Call → Type 0
AllActive r calls = AllByRecursion (IsActive r calls) (operations_of r calls)

active_by : (r : Rank) (calls : List Call) → AreNumbered 64 calls → (k : ℕ) → AllActive r (take k calls)
active_by r calls numbered zero = tt
active_by r calls numbered (suc k) = at (slice_get calls k) refl (active_by r calls numbered k)
  where
    at : (o : Option Call) → slice_get calls k ≡ o → AllActive r (take k calls) → AllActive r (take (suc k) calls)
    at None there before = subst (AllActive r) (sym (take_past calls k there)) before
    at (Some call) there before =
        subst (AllActive r) (sym (take_next calls k call there))
        (subst (AllByRecursion (IsActive r (take k calls ++ call ∷ []))) (sym (operations_more r (take k calls) call))
        (all_join (IsActive r (take k calls ++ call ∷ [])) (operations_of r (take k calls)) (operations_at r (take k calls) call)
        (active_still r (take k calls) call (operations_of r (take k calls)) (begun_below r (take k calls)) before)
        (active_now r (take k calls) call (operations_at r (take k calls) call) (begins_all r (take k calls) call (request_starts r calls k call numbered there)))))

-- each open operation of a rank is the one under way with its request
pub open_is_active : (r : Rank) (calls : List Call) → AreNumbered 64 calls → AllByRecursion (IsActive r calls) (operations_of r calls)
open_is_active r calls numbered = subst (AllActive r) (take_all calls (length calls) (omega arith)) (active_by r calls numbered (length calls))
