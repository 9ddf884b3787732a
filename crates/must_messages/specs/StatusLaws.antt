-- S1 judges the statuses of an operation by the operation itself: at the call that completes it, and among its own.
use Rattle.std.proofs.Common.{◌≡◌, ℕ, ◌<◌, Bool, true, false, cond, ◌&&◌, ◌||◌, List, [], ◌∷◌, ◌++◌, length, Option, Some, refl, ap, ◌∙◌}
use Rattle.std.specs.Prelude.{not, option_map, is_some}
use Rattle.std.specs.List.{list_any}
use Rattle.std.proofs.Math.Seq.{take-append_seam}
use Rattle.must_base.specs.Listing.{Has}
use Rattle.must_call.specs.declared.class.Class.TheVariants.{Request}
use Rattle.must_call.specs.declared.status.Status3.{Status3}
use Rattle.must_call.specs.declared.call.Call.{Call}
use Rattle.must_base.specs.ListingLaws.{all_has}
use Rattle.must_rules.specs.Rank.{Rank, seen}
use Rattle.must_rules.specs.Making.{frees, completes}
use Rattle.must_rules.specs.Numbered.{AreNumbered}
use Rattle.must_rules.specs.Operations.{Operation, operations_of}
use Rattle.must_rules.specs.Fates.{Completed, Fate, Open, Freed, Done, fate_by, fate_of, statuses_for}
use Rattle.must_messages.specs.FateLaws.{next_fate, fate_more}
use Rattle.must_rules.specs.Statuses.{asked_to_cancel, contradiction, contradiction_of, completed_wrongly, breaks_status_by, breaks_status}
use Rattle.must_messages.specs.ActiveLaws.{IsActive, open_is_active}

-- a completion of the request of an open operation is judged by that operation, and sees its beginning
pub judged_by : (r : Rank) (calls : List Call) (op : Operation) (c : Completed) → AreNumbered 64 calls → Has (operations_of r calls) op → op.request ≡ Some c.request → fate_of calls op ≡ Open
    → completed_wrongly r calls (Some c) ≡ option_map (λ value. (seen r.rank op.call, value)) (contradiction r.tag_ub op.message (asked_to_cancel calls op) c.status)
judged_by r calls op c numbered there request is_open =
    ap (λ (o : Option Operation). contradiction_of r calls o c.status) (all_has (IsActive r calls) (operations_of r calls) op (open_is_active r calls numbered) there c.request request is_open)

ends_by : (f c : Bool) → c ≡ true → (f || (not false && c)) ≡ true
ends_by true c e = refl
ends_by false c e = e

-- an operation breaks S1 by the statuses that the call which completes it recorded for its request
pub breaks_now : (r : Rank) (calls : List Call) (call : Call) (op : Operation) (q : ℕ) → op.call < length calls → op.request ≡ Some q → fate_of calls op ≡ Open → completes Request q call ≡ true
    → breaks_status r (calls ++ call ∷ []) op ≡ list_any (λ status. is_some (contradiction r.tag_ub op.message (asked_to_cancel calls op) status)) (statuses_for q call)
unfolding breaks_status
breaks_now r calls call op q below request is_open completed =
    let n = length calls in
    ap (breaks_status_by r (calls ++ call ∷ []) op)
    (fate_more calls call op below
    ∙ ap (λ (f : Fate). next_fate n op.request call f) is_open
    ∙ ap (λ (o : Option ℕ). next_fate n o call Open) request
    ∙ ap (λ (b : Bool). cond b (fate_by q n (Some call)) Open) (ends_by (frees Request q call) (completes Request q call) completed)
    ∙ ap (λ (b : Bool). cond b (Done n (statuses_for q call)) Freed) completed)
    ∙ ap (λ (cs : List Call). list_any (λ (status : Status3). is_some (contradiction r.tag_ub op.message (asked_to_cancel cs op) status)) (statuses_for q call)) (take-append_seam calls (call ∷ []))
