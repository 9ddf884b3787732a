-- Operations that a call ends: what is told of them.
use Rattle.std.proofs.Common.{◌≡◌, ◌⊎◌, inl, inr, ℕ, ℤ, suc, ◌+◌, ◌<◌, ◌≤◌, ◌==◌, Bool, true, false, cond, ◌&&◌, ◌||◌, List, [], ◌∷◌, ◌++◌, length, Option, Some, None, refl, ap, sym, subst, ◌∙◌, arith}
use Rattle.std.specs.Prelude.{map, filter, option_map, is_some, slice_get, not}
use Rattle.std.specs.List.{list_any}
use Rattle.std.specs.Ordering.{nat_cmp}
use Rattle.std.specs.BTreeMap.{BTreeMap, get}
use Rattle.must_call.specs.declared.class.Class.TheVariants.{Comm, Group, Datatype, Request}
use Rattle.must_call.specs.declared.class.Class.TheVariants as class
use Rattle.must_call.specs.Handles.{ClassedHandle}
use Rattle.must_call.specs.declared.status.Status3.{Status3}
use Rattle.must_call.specs.declared.call.Call.{Call}
use Rattle.must_rules.specs.Rank.{Rank, seen}
use Rattle.must_rules.specs.Answer.{Answer}
use Rattle.must_rules.specs.Numbered.{AreNumbered}
use Rattle.must_rules.specs.Making.{is_in, is_handle, frees, freed_of, completes, same_class, completed_of}
use Rattle.must_rules.specs.Lives.{ends}
use Rattle.must_messages.specs.PlainLaws.{no_some, same_some}
use Rattle.must_rules.specs.Operations.{Operation, operations_of}
use Rattle.must_messages.specs.OperationLaws.{IsBegunBelow, begun_below}
use Rattle.must_rules.specs.Fates.{Completed, Fate, Open as StillOpen, Freed, Done, fate_by, fate_of, first_of, status_of, done_in, statuses_for, completions_in}
use Rattle.must_messages.specs.FateLaws.{next_fate, fate_more}
use Rattle.must_rules.specs.Statuses.{contradiction, asked_to_cancel, completed_wrongly, is_cancelled, breaks_status_by, breaks_status}
use Rattle.must_messages.specs.StatusLaws.{judged_by, breaks_now}
use Rattle.must_messages.specs.MessageItems.{item_by, item_of}
use Rattle.must_messages.specs.Holding.{is_settled, is_known}
use Rattle.must_hold.specs.Named.{completed_in, freed_in, requests_freed}
use Rattle.must_hold.specs.declared.held.Pending.{Pending}
use Rattle.must_hold.specs.declared.held.End.{End}
use Rattle.must_hold.specs.declared.judge.Told.{Told}
use Rattle.must_hold.specs.declared.table.Table.{Table}
use Rattle.must_hold.specs.Ended.{IsPending, item_ended}
use Rattle.must_hold.specs.Queue.{IsOpenAt, Holds}
use Rattle.must_hold.specs.Changes.{Finishes, Closes, ClosesOthers, not_done, is_either}
use Rattle.must_hold.specs.Told.{Wrong, told_by, end_told}
use Rattle.must_hold.specs.Judging.{Judges}
use Rattle.must_hold.specs.ActiveLaws.{all_get, has_get}
use Rattle.must_hold.proofs.Items.{item_is}
use Rattle.must_hold.proofs.Needing.{need_told}
use Rattle.must_hold.proofs.Judging.{first_told, breaks_told, first_is, breaks_is}

pub completes_is : (call : Call) (q : ℕ) → is_in (completed_in call) q ≡ completes Request q call
unfolding completes
completes_is call q = at call.returned
  where
    at : (b : Bool) → is_in (cond b (completed_of call.body) []) q ≡ (b && (same_class Request Request && is_in (completed_of call.body) q))
    at true = refl
    at false = refl

or_false : (b : Bool) → b ≡ (b || false)
or_false true = refl
or_false false = refl

frees_is : (b : Bool) (o : Option ClassedHandle) (n : ℕ) → (b && is_handle Request n o) ≡ is_in (cond b (requests_freed o) []) n
frees_is false o n = refl
frees_is true None n = refl
frees_is true (Some (Comm, r)) n = refl
frees_is true (Some (Group, r)) n = refl
frees_is true (Some (Datatype, r)) n = refl
frees_is true (Some (class.Operation, r)) n = refl
frees_is true (Some (Request, r)) n = or_false (r == n)

or_swap : (a b : Bool) → (a || b) ≡ (b || a)
or_swap true true = refl
or_swap true false = refl
or_swap false true = refl
or_swap false false = refl

-- the call ends what it completes and what it frees
pub ends_is : (call : Call) (n : ℕ) → ends false Request n call ≡ is_either (completed_in call) (freed_in call) n
unfolding frees
ends_is call n =
    ap (λ (a : Bool). a || completes Request n call) (frees_is call.returned (freed_of call.body) n)
    ∙ ap (λ (a : Bool). is_in (freed_in call) n || a) (sym (completes_is call n))
    ∙ or_swap (is_in (freed_in call) n) (is_in (completed_in call) n)

ends_by : (f c : Bool) → c ≡ true → (f || (not false && c)) ≡ true
ends_by true c e = refl
ends_by false c e = e

status_told : (k : ℕ) (t : Option Told) → first_told t ≡ (end_told k t).status
status_told k None = refl
status_told k (Some t) = refl

done_told : (k : ℕ) (t : Option Told) → Some k ≡ (end_told k t).done
done_told k None = refl
done_told k (Some t) = refl

breaks_ended : (k : ℕ) (t : Option Told) → (end_told k t).breaks ≡ breaks_told t
breaks_ended k None = refl
breaks_ended k (Some t) = refl

some_map : {X Y : Type 0} (f : X → Y) (o : Option X) → is_some (option_map f o) ≡ is_some o
some_map f None = refl
some_map f (Some x) = refl

module _ (r : Rank) (calls : List Call) (call : Call) (numbered : AreNumbered 64 calls) where
  done_fate : (op : Operation) (q : ℕ) → op.call < length calls → op.request ≡ Some q → fate_of calls op ≡ StillOpen → completes Request q call ≡ true → fate_of (calls ++ call ∷ []) op ≡ Done (length calls) (statuses_for q call)
  done_fate op q below request is_open done =
      fate_more calls call op below
      ∙ ap (λ (f : Fate). next_fate (length calls) op.request call f) is_open
      ∙ ap (λ (o : Option ℕ). next_fate (length calls) o call StillOpen) request
      ∙ ap (λ (b : Bool). cond b (fate_by q (length calls) (Some call)) StillOpen) (ends_by (frees Request q call) (completes Request q call) done)
      ∙ ap (λ (b : Bool). cond b (Done (length calls) (statuses_for q call)) Freed) done

  -- the item of an operation with this fate
  item_now : (op : Operation) (p : Pending) (end : End) (fate : Fate) → IsPending p op → fate_of (calls ++ call ∷ []) op ≡ fate → status_of fate ≡ end.status → done_in fate ≡ end.done → end.breaks ≡ breaks_status r (calls ++ call ∷ []) op
      → item_ended r.rank p end p.asked.deed ≡ item_of r (calls ++ call ∷ []) op
  unfolding item_of
  item_now op p end fate pending is status done breaks =
      item_is r p op pending end fate status done
      ∙ ap (λ (b : Bool). item_by r (is_cancelled op fate) b fate op op.message.action op.message.envelope) breaks
      ∙ ap (λ (f : Fate). item_by r (is_cancelled op f) (breaks_status r (calls ++ call ∷ []) op) f op op.message.action op.message.envelope) (sym is)

  -- an operation with this fate, which is settled
  finishes : (op : Operation) (p : Pending) (end : End) (fate : Fate) → IsPending p op → fate_of (calls ++ call ∷ []) op ≡ fate → is_settled fate ≡ true → status_of fate ≡ end.status → done_in fate ≡ end.done → end.breaks ≡ breaks_status r (calls ++ call ∷ []) op
      → Finishes r (calls ++ call ∷ []) r.rank p end op
  finishes op p end fate pending is settled status done breaks =
      let item = item_now op p end fate pending is status done breaks in
      record { known = ap is_settled is ∙ settled; item = item; need = need_told r p op pending (calls ++ call ∷ []) end fate is status done item }

  -- the operations that the call completes
  pub closes_completed : (wrong : Wrong) (told : ℕ → Option Told) → ((c : Completed) → wrong c ≡ completed_wrongly r calls (Some c)) → ((q : ℕ) → told q ≡ told_by wrong q None (completions_in call))
      → Closes r calls call (operations_of r calls) r.rank (completed_in call) (λ q. end_told (length calls) (told q))
  closes_completed wrong told wrong_is told_is q n p op inside there request is_open pending =
      let below = all_get (IsBegunBelow (length calls)) (operations_of r calls) (begun_below r calls) n op there in
      let completed = sym (completes_is call q) ∙ inside in
      let fate = done_fate op q below request is_open completed in
      let judged : (c : Completed) → c.request ≡ q → is_some (wrong c) ≡ is_some (contradiction r.tag_ub op.message (asked_to_cancel calls op) c.status) =
      λ c same. ap is_some (wrong_is c ∙ judged_by r calls op c numbered (has_get (operations_of r calls) n op there) (request ∙ ap Some (sym same)) is_open)
      ∙ some_map (λ (value : ℤ). (seen r.rank op.call, value)) (contradiction r.tag_ub op.message (asked_to_cancel calls op) c.status) in
      finishes op p (end_told (length calls) (told q)) (Done (length calls) (statuses_for q call)) pending fate refl
      (sym (ap first_told (told_is q) ∙ first_is wrong q (completions_in call)) ∙ status_told (length calls) (told q))
      (done_told (length calls) (told q))
      (breaks_ended (length calls) (told q) ∙ ap breaks_told (told_is q)
      ∙ breaks_is wrong q (λ status. is_some (contradiction r.tag_ub op.message (asked_to_cancel calls op) status)) (completions_in call) judged
      ∙ sym (breaks_now r calls call op q below request is_open completed))

  -- what the call frees, and doesn't complete
  pub closes_freed : ClosesOthers r calls call (operations_of r calls) r.rank (completed_in call) (freed_in call) not_done
  unfolding breaks_status
  closes_freed q n p op not_completed inside there request is_open pending =
      let below = all_get (IsBegunBelow (length calls)) (operations_of r calls) (begun_below r calls) n op there in
      let ended : ends false Request q call ≡ true = ends_is call q ∙ ap (λ (b : Bool). is_in (completed_in call) q || b) inside ∙ or_last (is_in (completed_in call) q) in
      let fate : fate_of (calls ++ call ∷ []) op ≡ Freed =
      fate_more calls call op below
      ∙ ap (λ (f : Fate). next_fate (length calls) op.request call f) is_open
      ∙ ap (λ (o : Option ℕ). next_fate (length calls) o call StillOpen) request
      ∙ ap (λ (b : Bool). cond b (fate_by q (length calls) (Some call)) StillOpen) ended
      ∙ ap (λ (b : Bool). cond b (Done (length calls) (statuses_for q call)) Freed) (sym (completes_is call q) ∙ not_completed) in
      finishes op p not_done Freed pending fate refl refl refl (ap (breaks_status_by r (calls ++ call ∷ []) op) (sym fate))
    where
      or_last : (b : Bool) → (b || true) ≡ true
      or_last true = refl
      or_last false = refl
