-- S1 stands at a call by its own status, or by those of its completions: no call has both.
use Rattle.std.proofs.Common.{◌≡◌, ℕ, ℤ, Bool, true, false, cond, List, [], ◌∷◌, Option, Some, None, length, refl, sym, ap, inl, inr, ◌∙◌}
use Rattle.std.specs.Prelude.{◌⊎◌, ◌==◌, pos, negsuc, find, flat_map, option_map}
use Rattle.must_call.specs.declared.items.Completion.{Completion}
use Rattle.must_call.specs.declared.status.Status3.{Status3}
use Rattle.must_call.specs.declared.field.Side.TheVariants.{Receive}
use Rattle.must_call.specs.declared.field.Field.TheVariants.{Buffer}
use Rattle.must_call.specs.declared.field.Output.{Output}
use Rattle.must_call.specs.declared.field.Output.TheVariants as output
use Rattle.must_call.specs.declared.frame.Frame.{Frame}
use Rattle.must_call.specs.declared.frame.Frame.TheVariants as frame
use Rattle.must_call.specs.declared.point.Point.{Point}
use Rattle.must_call.specs.declared.point.Point.TheVariants as point
use Rattle.must_call.specs.declared.derive.Derive.{Derive}
use Rattle.must_call.specs.declared.derive.Derive.TheVariants as derive
use Rattle.must_call.specs.declared.object.Object.{Object}
use Rattle.must_call.specs.declared.object.Object.TheVariants as object
use Rattle.must_call.specs.declared.collective.Collective.{Collective}
use Rattle.must_call.specs.declared.collective.Collective.TheVariants as collective
use Rattle.must_call.specs.declared.persist.Persist.{Persist}
use Rattle.must_call.specs.declared.persist.Persist.TheVariants as persist
use Rattle.must_call.specs.declared.started.Started.{Started}
use Rattle.must_call.specs.declared.started.Started.TheVariants as started
use Rattle.must_call.specs.declared.finish.Finish.{Finish}
use Rattle.must_call.specs.declared.finish.Finish.TheVariants as finish
use Rattle.must_call.specs.declared.body.Body.{Body}
use Rattle.must_call.specs.declared.body.Body.TheVariants as body
use Rattle.must_call.specs.declared.call.Call.{Call}
use Rattle.must_call.specs.Values.{OutputValue, TypedOutput}
use Rattle.must_call.specs.Kinds.{kind_of}
use Rattle.must_call.specs.Bodies.{given_of}
use Rattle.must_call.specs.Fields.{source}
use Rattle.must_find.specs.declared.rule.Rule.TheVariants.{S1}
use Rattle.must_find.specs.declared.finding.Finding.{Finding}
use Rattle.must_find.specs.Adds.{Adds}
use Rattle.must_rules.specs.Answer.{Answer, alone, at_part}
use Rattle.must_rules.specs.Rank.{Rank}
use Rattle.must_rules.specs.Making.{requests_of}
use Rattle.must_rules.specs.Communicators.{comm_named}
use Rattle.must_rules.specs.Significant.{or_else}
use Rattle.must_rules.specs.Breaches.{part_in}
use Rattle.must_rules.specs.Parts.{with_both, numbered}
use Rattle.must_rules.specs.PendingOperations.{parts_behind}
use Rattle.must_rules.specs.Operations.{Message, message, message_of, message_probed, probed, envelope_of, envelope_on, probes, action_of}
use Rattle.must_rules.specs.Fates.{Completed, at_index, at_choice, completed_by, completed_among, completions_in, own_status}
use Rattle.must_rules.specs.Statuses.{received_here, own_contradiction, completed_wrongly, status_contradicts}
use Rattle.must_hold.specs.Taking.{IsCompletedWrongly}
use Rattle.must_local.specs.Adding.{IsOfRule, own_answer}
use Rattle.must_local.proofs.Gathered.{adds_both}

-- ---- a call that names a communicator names no requests

abbrev NoRequests : Body → Type 0
NoRequests b = requests_of b ≡ []

no_comm : (comm : ℕ) {P : Type 0} → None ≡ Some comm → P
no_comm comm e = absurd cc

frame_names : (x : Frame) (comm : ℕ) → comm_named (body.Frame x) ≡ Some comm → NoRequests (body.Frame x)
frame_names frame.Init comm is = refl
frame_names frame.Finalize comm is = refl

point_names : (x : Point) (comm : ℕ) → comm_named (body.Point x) ≡ Some comm → NoRequests (body.Point x)
point_names (point.Send a b c d e f) comm is = refl
point_names (point.Ssend a b c d e f) comm is = refl
point_names (point.Bsend a b c d e f) comm is = refl
point_names (point.Rsend a b c d e f) comm is = refl
point_names (point.Recv a b c d e f g) comm is = refl
point_names (point.Sendrecv a b c d e f g h i j k l) comm is = refl
point_names (point.Probe a b c d) comm is = refl
point_names (point.Iprobe a b c d) comm is = refl
point_names (point.Isend a b c d e f g) comm is = refl
point_names (point.Issend a b c d e f g) comm is = refl
point_names (point.Ibsend a b c d e f g) comm is = refl
point_names (point.Irsend a b c d e f g) comm is = refl
point_names (point.Irecv a b c d e f g) comm is = refl

derive_names : (x : Derive) (comm : ℕ) → comm_named (body.Derive x) ≡ Some comm → NoRequests (body.Derive x)
derive_names (derive.TypeContiguous a b c) comm is = refl
derive_names (derive.TypeVector a b c d e) comm is = refl
derive_names (derive.TypeHvector a b c d e) comm is = refl
derive_names (derive.TypeIndexed a b c) comm is = refl
derive_names (derive.TypeHindexed a b c) comm is = refl
derive_names (derive.TypeIndexedBlock a b c d) comm is = refl
derive_names (derive.TypeHindexedBlock a b c d) comm is = refl
derive_names (derive.TypeStruct a b) comm is = refl
derive_names (derive.TypeDup a b) comm is = refl
derive_names (derive.TypeResized a b c d) comm is = refl
derive_names (derive.TypeSubarray a b c d) comm is = refl
derive_names (derive.TypeCommit a) comm is = refl
derive_names (derive.TypeFree a) comm is = refl

object_names : (x : Object) (comm : ℕ) → comm_named (body.Object x) ≡ Some comm → NoRequests (body.Object x)
object_names (object.OpCreate a b) comm is = refl
object_names (object.OpFree a) comm is = refl
object_names (object.CommGroup a b) comm is = refl
object_names (object.GroupIncl a b c) comm is = refl
object_names (object.GroupExcl a b c) comm is = refl
object_names (object.GroupUnion a b c) comm is = refl
object_names (object.GroupIntersection a b c) comm is = refl
object_names (object.GroupDifference a b c) comm is = refl
object_names (object.GroupFree a) comm is = refl
object_names (object.CommDup a b) comm is = refl
object_names (object.CommSplit a b c d) comm is = refl
object_names (object.CommCreate a b c) comm is = refl
object_names (object.CommFree a) comm is = refl

collective_names : (x : Collective) (comm : ℕ) → comm_named (body.Collective x) ≡ Some comm → NoRequests (body.Collective x)
collective_names (collective.Barrier a) comm is = refl
collective_names (collective.Bcast a b c d e) comm is = refl
collective_names (collective.Gather a b c d e f g h i) comm is = refl
collective_names (collective.Gatherv a b c d e f g h i) comm is = refl
collective_names (collective.Scatter a b c d e f g h i) comm is = refl
collective_names (collective.Scatterv a b c d e f g h i) comm is = refl
collective_names (collective.Allgather a b c d e f g h) comm is = refl
collective_names (collective.Allgatherv a b c d e f g h) comm is = refl
collective_names (collective.Alltoall a b c d e f g h) comm is = refl
collective_names (collective.Alltoallv a b c d e f g h) comm is = refl
collective_names (collective.Reduce a b c d e f g h) comm is = refl
collective_names (collective.Allreduce a b c d e f g) comm is = refl
collective_names (collective.ReduceScatter a b c d e f g) comm is = refl
collective_names (collective.ReduceScatterBlock a b c d e f g) comm is = refl
collective_names (collective.Scan a b c d e f g) comm is = refl
collective_names (collective.Exscan a b c d e f g) comm is = refl

persist_names : (x : Persist) (comm : ℕ) → comm_named (body.Persist x) ≡ Some comm → NoRequests (body.Persist x)
persist_names (persist.SendInit a b c d e f g) comm is = refl
persist_names (persist.SsendInit a b c d e f g) comm is = refl
persist_names (persist.RecvInit a b c d e f g) comm is = refl
persist_names (persist.Start a) comm is = no_comm comm is
persist_names (persist.Startall a) comm is = no_comm comm is

started_names : (x : Started) (comm : ℕ) → comm_named (body.Started x) ≡ Some comm → NoRequests (body.Started x)
started_names (started.Ibarrier a b) comm is = refl
started_names (started.Ibcast a b c d e f) comm is = refl
started_names (started.Igather a b c d e f g h i j) comm is = refl
started_names (started.Iallgather a b c d e f g h i) comm is = refl
started_names (started.Ialltoall a b c d e f g h i) comm is = refl
started_names (started.Ireduce a b c d e f g h i) comm is = refl
started_names (started.Iallreduce a b c d e f g h) comm is = refl

finish_names : (x : Finish) (comm : ℕ) → comm_named (body.Finish x) ≡ Some comm → NoRequests (body.Finish x)
finish_names (finish.Wait a b) comm is = no_comm comm is
finish_names (finish.Waitall a b) comm is = no_comm comm is
finish_names (finish.Waitany a b) comm is = no_comm comm is
finish_names (finish.Waitsome a b) comm is = no_comm comm is
finish_names (finish.Test a b) comm is = no_comm comm is
finish_names (finish.Testall a b) comm is = no_comm comm is
finish_names (finish.Testany a b) comm is = no_comm comm is
finish_names (finish.Testsome a b) comm is = no_comm comm is
finish_names (finish.RequestFree a) comm is = no_comm comm is
finish_names (finish.Cancel a) comm is = no_comm comm is

names_none : (b : Body) (comm : ℕ) → comm_named b ≡ Some comm → NoRequests b
names_none (body.Frame x) comm e = frame_names x comm e
names_none (body.Point x) comm e = point_names x comm e
names_none (body.Derive x) comm e = derive_names x comm e
names_none (body.Object x) comm e = object_names x comm e
names_none (body.Collective x) comm e = collective_names x comm e
names_none (body.Persist x) comm e = persist_names x comm e
names_none (body.Started x) comm e = started_names x comm e
names_none (body.Finish x) comm e = finish_names x comm e

-- ---- of no requests none is completed

picked_none : (completions : List Completion) → flat_map (λ (c : Completion). at_index [] c.status c.index) completions ≡ []
picked_none [] = refl
picked_none (c ∷ cs) = picked_none cs

none_by : (o : Output) (v : OutputValue o) → completed_by o v [] ≡ []
none_by output.Status status = refl
none_by output.MaybeStatus None = refl
none_by output.MaybeStatus (Some status) = refl
none_by output.Statuses statuses = refl
none_by output.MaybeStatuses None = refl
none_by output.MaybeStatuses (Some statuses) = refl
none_by output.Choice choice = at_none choice.index choice.status
  where
    at_none : (i : ℤ) (status : Status3) → at_choice [] status i ≡ []
    at_none (pos n) status = refl
    at_none (negsuc n) status = refl
none_by output.MaybeChoice None = refl
none_by output.MaybeChoice (Some choice) = at_none choice.index choice.status
  where
    at_none : (i : ℤ) (status : Status3) → at_choice [] status i ≡ []
    at_none (pos n) status = refl
    at_none (negsuc n) status = refl
none_by output.Completions None = refl
none_by output.Completions (Some completions) = picked_none completions
none_by _ v = refl

none_among : (o : Option TypedOutput) → completed_among o [] ≡ []
none_among None = refl
none_among (Some t) = none_by t.0 t.1

none_if : (b : Bool) (l : List Completed) → l ≡ [] → cond b l [] ≡ []
none_if true l e = e
none_if false l e = refl

none_completed : (call : Call) → NoRequests call.body → completions_in call ≡ []
none_completed call none = none_if call.returned (completed_among (given_of call.body) (requests_of call.body)) (ap (completed_among (given_of call.body)) none ∙ none_among (given_of call.body))

-- ---- what a call without a communicator asks for

no_message : (r : Rank) (earlier : List Call) (call : Call) → comm_named call.body ≡ None → message_of r earlier call Receive ≡ None
unfolding message_of
no_message r earlier call e =
    ap (λ (o : Option ℕ). with_both (message (action_of (kind_of call.body) Receive)) (envelope_on r earlier call.body Receive o) (numbered (part_in call.body (Buffer Receive)) (parts_behind r earlier call))) e

neither : (b : Bool) → cond b (option_map probed None) None ≡ None
neither true = refl
neither false = refl

no_probe : (r : Rank) (earlier : List Call) (call : Call) → comm_named call.body ≡ None → message_probed r earlier call ≡ None
unfolding message_probed
no_probe r earlier call e =
    ap (λ (o : Option ℕ). cond (probes r earlier call) (option_map probed (envelope_on r earlier call.body Receive o)) None) e ∙ neither (probes r earlier call)

not_received : (r : Rank) (earlier : List Call) (call : Call) → comm_named call.body ≡ None → received_here r earlier call ≡ None
not_received r earlier call e = ap (λ (o : Option Message). or_else o (message_probed r earlier call)) (no_message r earlier call e) ∙ no_probe r earlier call e

no_value : (v : ℤ) {P : Type 0} → None ≡ Some v → P
no_value v e = absurd cc

-- a call that its own status contradicts completes no request
own_alone : (r : Rank) (earlier : List Call) (call : Call) (v : ℤ) → own_contradiction r.tag_ub (received_here r earlier call) (own_status call) ≡ Some v → completions_in call ≡ []
own_alone r earlier call v e = at (comm_named call.body) refl
  where
    at : (o : Option ℕ) → comm_named call.body ≡ o → completions_in call ≡ []
    at None is = no_value v (sym (ap (λ (m : Option Message). own_contradiction r.tag_ub m (own_status call)) (not_received r earlier call is)) ∙ e)
    at (Some comm) is = none_completed call (names_none call.body comm is)

-- ---- the rows

no_answer : (a : Answer) {P : Type 0} → None ≡ Some a → P
no_answer a e = absurd cc

abbrev no_finding : Option Answer
no_finding = None

at_no_part : (n part : ℕ) → at_part n no_finding part ≡ None
at_no_part n part = either (part == n)
  where
    either : (b : Bool) → cond b no_finding None ≡ None
    either true = refl
    either false = refl

-- the answers of completions at the parts of a call
abbrev completed_at : Rank → List Call → Call → ℕ → Option Answer
completed_at r calls call part = completed_wrongly r calls (find (λ (c : Completed). c.index == part) (completions_in call))

status_is : (r : Rank) (calls : List Call) (call : Call) (part : ℕ)
    → status_contradicts r calls call part ≡ or_else (at_part (part_in call.body source) (own_answer (own_contradiction r.tag_ub (received_here r calls call) (own_status call))) part) (completed_at r calls call part)
unfolding status_contradicts
status_is r calls call part = refl

-- where a completion is wrong, the call's own status isn't
beside_own : (r : Rank) (calls : List Call) (call : Call) (n part : ℕ) (a : Answer) (own : Option ℤ) → own_contradiction r.tag_ub (received_here r calls call) (own_status call) ≡ own → completed_at r calls call part ≡ Some a
    → or_else (at_part n (own_answer own) part) (completed_at r calls call part) ≡ Some a
beside_own r calls call n part a None e is = ap (λ (o : Option Answer). or_else o (completed_at r calls call part)) (at_no_part n part) ∙ is
beside_own r calls call n part a (Some v) e is =
    no_answer a (sym (ap (λ (cs : List Completed). completed_wrongly r calls (find (λ (c : Completed). c.index == part) cs)) (own_alone r calls call v e)) ∙ is)

either_of : (x y : Option Answer) (a : Answer) → or_else x y ≡ Some a → (y ≡ Some a) ⊎ (x ≡ Some a)
either_of None y a e = inl e
either_of (Some b) y a e = inr e

pub status_rows : (r : Rank) (calls : List Call) (call : Call) (rank k n : ℕ) (value : Option ℤ) (a b c : List Finding) → r.rank ≡ rank → length calls ≡ k → n ≡ part_in call.body source → value ≡ own_contradiction r.tag_ub (received_here r calls call) (own_status call)
    → Adds a b (IsCompletedWrongly r calls call) → Adds b c (IsOfRule rank k S1 (at_part n (own_answer value))) → Adds a c (IsOfRule rank k S1 (status_contradicts r calls call))
status_rows r calls call rank k n value a b c rank_is call_is part_is value_is first then =
    let own = own_contradiction r.tag_ub (received_here r calls call) (own_status call) in
    let m = part_in call.body source in
    let same : (part : ℕ) → at_part n (own_answer value) part ≡ at_part m (own_answer own) part = λ part. ap (λ (v : Option ℤ). at_part n (own_answer v) part) value_is ∙ ap (λ (q : ℕ). at_part q (own_answer own) part) part_is in
    adds_both (IsCompletedWrongly r calls call) (IsOfRule rank k S1 (at_part n (own_answer value))) (IsOfRule rank k S1 (status_contradicts r calls call)) a b c first then
    (λ f is. record { rank_is = is.rank_is ∙ rank_is; call_is = is.call_is ∙ call_is; rule_is = is.rule_is; gives = status_is r calls call f.part ∙ beside_own r calls call m f.part (f.see, f.value) own refl is.gives })
    (λ f is. record {
      rank_is = is.rank_is;
      call_is = is.call_is;
      rule_is = is.rule_is;
      gives = status_is r calls call f.part ∙ ap (λ (o : Option Answer). or_else o (completed_at r calls call f.part)) (sym (same f.part) ∙ is.gives);
    })
    (λ f is. elim (either_of (at_part m (own_answer own) f.part) (completed_at r calls call f.part) (f.see, f.value) (sym (status_is r calls call f.part) ∙ is.gives)) [
      | inl done ↦ inl (record { rank_is = is.rank_is ∙ sym rank_is; call_is = is.call_is ∙ sym call_is; rule_is = is.rule_is; gives = done })
      | inr own_is ↦ inr (record { rank_is = is.rank_is; call_is = is.call_is; rule_is = is.rule_is; gives = same f.part ∙ own_is })
    ])
