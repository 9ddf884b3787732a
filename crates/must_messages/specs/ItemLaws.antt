-- The items of a rank and what its operations need, over one call more: what is settled stays.
use Rattle.std.proofs.Common.{◌≡◌, ℕ, ◌<◌, Bool, true, false, cond, List, [], ◌∷◌, ◌++◌, length, Option, Some, None, refl, ap, ◌∙◌, arith}
use Rattle.std.specs.Prelude.{filter_map, is_some, slice_get}
use Rattle.std.specs.List.{list_any}
use Rattle.std.proofs.lemmas.List.{take-append-le}
use Rattle.std.proofs.lemmas.List.Elements.{filter_map-append}
use Rattle.must_call.specs.declared.class.Class.TheVariants.{Request}
use Rattle.must_call.specs.declared.status.Status3.{Status3}
use Rattle.must_call.specs.declared.call.Call.{Call}
use Rattle.must_rules.specs.Rank.{Rank}
use Rattle.must_rules.specs.Search.{first_behind}
use Rattle.must_rules.specs.Making.{completes}
use Rattle.must_rules.specs.Lives.{ends}
use Rattle.must_rules.specs.Operations.{Operation, operations_at, operations_of}
use Rattle.must_messages.specs.OperationLaws.{operations_more}
use Rattle.must_rules.specs.Fates.{Fate, Open, Freed, Done, own_statuses, own_fate, fate_by, fate_at, fate_with, fate_of, statuses_for}
use Rattle.must_messages.specs.FateLaws.{fate_stays, behind_within}
use Rattle.must_messages.specs.Holding.{is_settled}
use Rattle.must_rules.specs.Statuses.{contradiction, is_cancelled, asked_to_cancel, breaks_status_by, breaks_status}
use Rattle.must_messages.specs.MessageItems.{Item, item_by, item_of, items_of}
use Rattle.must_messages.specs.CallNeeds.{item_need, operation_need}

-- ---- the call that completes an operation is there

-- one of so many calls completes it, if any does
abbrev pub IsDoneBelow : ℕ → Fate → Type 0
IsDoneBelow n (Done call statuses) = call < n
IsDoneBelow n _ = Unit {0}

own_below : (n : ℕ) (op : Operation) (call : Option Call) → op.call < n → IsDoneBelow n (own_fate op call)
own_below n op None within = tt
own_below n op (Some call) within = at call.returned
  where
    at : (b : Bool) → IsDoneBelow n (cond b (Done op.call (own_statuses op.message.action call)) Open)
    at true = within
    at false = tt

by_below : (n request k : ℕ) (call : Option Call) → k < n → IsDoneBelow n (fate_by request k call)
by_below n request k None within = tt
by_below n request k (Some call) within = at (completes Request request call)
  where
    at : (b : Bool) → IsDoneBelow n (cond b (Done k (statuses_for request call)) Freed)
    at true = within
    at false = tt

at_below : (calls : List Call) (request : ℕ) (o : Option ℕ) → ((k : ℕ) → o ≡ Some k → k < length calls) → IsDoneBelow (length calls) (fate_at calls request o)
at_below calls request None within = tt
at_below calls request (Some k) within = by_below (length calls) request k (slice_get calls k) (within k refl)

with_below : (calls : List Call) (op : Operation) (request : Option ℕ) → op.call < length calls → IsDoneBelow (length calls) (fate_with calls op request)
with_below calls op None within = own_below (length calls) op (slice_get calls op.call) within
with_below calls op (Some request) within =
    at_below calls request (first_behind op.call (ends false Request request) calls) (λ k e. behind_within op.call (ends false Request request) calls k within e)

pub done_below : (calls : List Call) (op : Operation) → op.call < length calls → IsDoneBelow (length calls) (fate_of calls op)
unfolding fate_of
done_below calls op within = with_below calls op op.request within

-- ---- what is settled stays

breaks_same : (r : Rank) (calls : List Call) (call : Call) (op : Operation) (fate : Fate) → IsDoneBelow (length calls) fate → breaks_status_by r (calls ++ call ∷ []) op fate ≡ breaks_status_by r calls op fate
breaks_same r calls call op Open within = refl
breaks_same r calls call op Freed within = refl
breaks_same r calls call op (Done k statuses) within =
    ap (λ (cs : List Call). list_any (λ (status : Status3). is_some (contradiction r.tag_ub op.message (asked_to_cancel cs op) status)) statuses)
    (take-append-le k calls (call ∷ []) (omega arith))

item_same : (r : Rank) (calls : List Call) (call : Call) (op : Operation) (old new : Fate) → new ≡ old → IsDoneBelow (length calls) old
    → item_by r (is_cancelled op new) (breaks_status_by r (calls ++ call ∷ []) op new) new op op.message.action op.message.envelope
    ≡ item_by r (is_cancelled op old) (breaks_status_by r calls op old) old op op.message.action op.message.envelope
item_same r calls call op old new same within =
    ap (λ (f : Fate). item_by r (is_cancelled op f) (breaks_status_by r (calls ++ call ∷ []) op f) f op op.message.action op.message.envelope) same
    ∙ ap (λ b. item_by r (is_cancelled op old) b old op op.message.action op.message.envelope) (breaks_same r calls call op old within)

-- the item of a settled operation
pub item_stays : (r : Rank) (calls : List Call) (call : Call) (op : Operation) → op.call < length calls → is_settled (fate_of calls op) ≡ true
    → item_of r (calls ++ call ∷ []) op ≡ item_of r calls op
unfolding item_of breaks_status
item_stays r calls call op within settled =
    item_same r calls call op (fate_of calls op) (fate_of (calls ++ call ∷ []) op) (fate_stays calls call op within settled) (done_below calls op within)

-- what a settled operation needs
pub need_stays : (r : Rank) (calls : List Call) (call : Call) (op : Operation) → op.call < length calls → is_settled (fate_of calls op) ≡ true
    → operation_need r (calls ++ call ∷ []) op ≡ operation_need r calls op
unfolding operation_need
need_stays r calls call op within settled =
    ap (λ (f : Fate). cond (is_cancelled op f) (Some []) (item_need r op (item_of r (calls ++ call ∷ []) op))) (fate_stays calls call op within settled)
    ∙ ap (λ (i : Option Item). cond (is_cancelled op (fate_of calls op)) (Some []) (item_need r op i)) (item_stays r calls call op within settled)

-- ---- the items of a rank

-- those of what one call more begins stand behind those of the others
pub items_more : (r : Rank) (calls : List Call) (call : Call)
    → items_of r (calls ++ call ∷ [])
    ≡ filter_map (item_of r (calls ++ call ∷ [])) (operations_of r calls) ++ filter_map (item_of r (calls ++ call ∷ [])) (operations_at r calls call)
items_more r calls call =
    ap (filter_map (item_of r (calls ++ call ∷ []))) (operations_more r calls call)
    ∙ filter_map-append (item_of r (calls ++ call ∷ [])) (operations_of r calls) (operations_at r calls call)
