-- Operations that a call begins.
use Rattle.std.proofs.Common.{◌≡◌, ◌⊎◌, inl, inr, ℕ, ℤ, suc, ◌+◌, ◌<◌, ◌≤◌, ◌==◌, Bool, true, false, cond, ◌||◌, List, [], ◌∷◌, ◌++◌, length, take, drop, Option, Some, None, refl, ap, sym, subst, ◌∙◌, arith, append_assoc}
use Rattle.std.specs.Prelude.{option_map, is_some, slice_get, not, reverse}
use Rattle.std.specs.List.{list_any, AllByRecursion}
use Rattle.std.specs.Option.{option_to_list}
use Rattle.std.specs.BTreeMap.{BTreeMap, get}
use Rattle.std.proofs.Math.Seq.{take-append_seam}
use Rattle.std.proofs.lemmas.List.{reverse-append, length-append, append-nil}
use Rattle.must_call.specs.declared.status.Status3.{Status3}
use Rattle.must_call.specs.declared.call.Call.{Call}
use Rattle.must_rules.specs.Rank.{Rank}
use Rattle.must_rules.specs.Numbered.{AreNumbered}
use Rattle.must_messages.specs.PlainLaws.{no_some, same_some}
use Rattle.must_messages.specs.declared.asked.Begun.{Begun}
use Rattle.must_messages.specs.Asking.{IsAsked, IsBegun, AreBegun}
use Rattle.must_rules.specs.Operations.{Operation, operations_at, operations_of}
use Rattle.must_messages.specs.OperationLaws.{operations_more}
use Rattle.must_rules.specs.Fates.{Fate, Open as StillOpen, Done, own_fate, fate_of, own_statuses, first_of}
use Rattle.must_messages.specs.FateLaws.{first_fate, fate_first}
use Rattle.must_messages.specs.TableLaws.{asked_first}
use Rattle.must_rules.specs.Statuses.{contradiction, asked_to_cancel, is_cancel_of, is_cancelled, breaks_status_by, breaks_status}
use Rattle.must_messages.specs.MessageItems.{item_by, item_of, item_seen}
use Rattle.must_messages.specs.Holding.{is_settled, is_known}
use Rattle.must_p2p.specs.declared.item.MsgItem.{MsgItem}
use Rattle.must_hold.specs.declared.held.Pending.{Pending}
use Rattle.must_hold.specs.declared.held.End.{End}
use Rattle.must_hold.specs.declared.held.Held.{Held}
use Rattle.must_hold.specs.declared.held.Held.TheVariants.{Open, Settled}
use Rattle.must_hold.specs.declared.table.Table.{Table}
use Rattle.must_hold.specs.Ended.{IsPending, item_ended, need_ended}
use Rattle.must_hold.specs.Queue.{Shows, IsOpenAt, Holds, EndsHere, IsNew, is_done}
use Rattle.must_hold.specs.declared.held.Need.{Need}
use Rattle.must_hold.specs.Needing.{Tells}
use Rattle.must_hold.specs.Changes.{Pushes, Begins, not_done}
use Rattle.must_hold.specs.ActiveLaws.{get_append, get_last, one_open}
use Rattle.must_hold.proofs.Items.{item_is}
use Rattle.must_hold.proofs.Needing.{need_told, open_told}
use Rattle.must_hold.proofs.Pushing.{pushed}

abbrev pub pending_of : ℕ → Begun → Pending
pending_of k begun = record { call = k; part = begun.part; request = begun.request; asked = begun.asked; cancel = false }

pub is_pending : (k : ℕ) (begun : Begun) (op : Operation) → IsBegun k begun op → IsPending (pending_of k begun) op
is_pending k begun op is = record { call_is = is.call_is; part_is = is.part_is; request_is = is.request_is; asked_is = is.asked_is }

module _ (r : Rank) (calls : List Call) (call : Call) (op : Operation) (k : ℕ) (begun : Begun) (is : IsBegun k begun op) (here : length calls ≡ k) where
  begins : op.call ≡ length calls
  begins = is.call_is ∙ sym here

  fate_now : (o : Option ℕ) → begun.request ≡ o → fate_of (calls ++ call ∷ []) op ≡ first_fate op o call
  fate_now o e = fate_first calls call op begins ∙ ap (λ (x : Option ℕ). first_fate op x call) (is.request_is ∙ e)

  -- it has a request, or its call didn't return
  pub shows_open : ((is_some begun.request ≡ true) ⊎ (call.returned ≡ false)) → Shows r (calls ++ call ∷ []) (Open (pending_of k begun)) op
  shows_open cases = (is_pending k begun op is, sym (asked_first calls call op begins), at begun.request refl cases)
    where
      at : (o : Option ℕ) → begun.request ≡ o → ((is_some begun.request ≡ true) ⊎ (call.returned ≡ false)) → fate_of (calls ++ call ∷ []) op ≡ StillOpen
      at (Some q) e c = fate_now (Some q) e
      at None e (inl some) = absurd (let no : false ≡ true = sym (ap is_some e) ∙ some in cc)
      at None e (inr not) = fate_now None e ∙ ap (λ (b : Bool). cond b (Done op.call (own_statuses op.message.action call)) StillOpen) not

  none_behind : (cs : List Call) → drop (suc (length cs)) cs ≡ []
  none_behind [] = refl
  none_behind (c ∷ cs) = none_behind cs

  not_asked : asked_to_cancel (take op.call (calls ++ call ∷ [])) op ≡ false
  not_asked =
      ap (λ (n : ℕ). asked_to_cancel (take n (calls ++ call ∷ [])) op) begins
      ∙ ap (λ (cs : List Call). asked_to_cancel cs op) (take-append_seam calls (call ∷ []))
      ∙ ap (λ (n : ℕ). list_any (is_cancel_of op.request) (drop (suc n) calls)) begins
      ∙ ap (list_any (is_cancel_of op.request)) (none_behind calls)

  done_now : begun.request ≡ None → call.returned ≡ true → fate_of (calls ++ call ∷ []) op ≡ Done op.call (own_statuses op.message.action call)
  done_now none returned = fate_now None none ∙ ap (λ (b : Bool). cond b (Done op.call (own_statuses op.message.action call)) StillOpen) returned

  item_now : (end : End) → EndsHere r.tag_ub k op.message call end → begun.request ≡ None → call.returned ≡ true
      → item_ended r.rank (pending_of k begun) end begun.asked.deed ≡ item_of r (calls ++ call ∷ []) op
  unfolding item_of breaks_status
  item_now end ends none returned =
      let statuses = own_statuses op.message.action call in
      let fate = Done op.call statuses in
      item_is r (pending_of k begun) op (is_pending k begun op is) end fate (sym ends.status) (ap Some is.call_is ∙ sym ends.done)
      ∙ ap (λ (b : Bool). item_by r (is_cancelled op fate) b fate op op.message.action op.message.envelope)
      (ends.breaks ∙ ap (λ (b : Bool). list_any (λ (status : Status3). is_some (contradiction r.tag_ub op.message b status)) statuses) (sym not_asked))
      ∙ ap (λ (f : Fate). item_by r (is_cancelled op f) (breaks_status_by r (calls ++ call ∷ []) op f) f op op.message.action op.message.envelope) (sym (done_now none returned))

  -- it is done in its call, which returned
  pub shows_settled : (item : Option MsgItem) (end : End) → EndsHere r.tag_ub k op.message call end → begun.request ≡ None → call.returned ≡ true
      → option_map item_seen item ≡ item_ended r.rank (pending_of k begun) end begun.asked.deed → Shows r (calls ++ call ∷ []) (Settled item) op
  shows_settled item end ends none returned e = (ap is_settled (done_now none returned), e ∙ item_now end ends none returned)

  -- what it needs as it stands
  pub tells_open : ((is_some begun.request ≡ true) ⊎ (call.returned ≡ false)) → Tells r (calls ++ call ∷ []) (need_ended r.rank (pending_of k begun) not_done) op
  tells_open cases = let s = shows_open cases in open_told r (pending_of k begun) op (calls ++ call ∷ []) s.0 s.2

  pub tells_settled : (end : End) → EndsHere r.tag_ub k op.message call end → begun.request ≡ None → call.returned ≡ true → Tells r (calls ++ call ∷ []) (need_ended r.rank (pending_of k begun) end) op
  tells_settled end ends none returned =
      need_told r (pending_of k begun) op (is_pending k begun op is) (calls ++ call ∷ []) end (Done op.call (own_statuses op.message.action call)) (done_now none returned) (sym ends.status) (ap Some is.call_is ∙ sym ends.done)
      (item_now end ends none returned)

  still_open : (q : ℕ) → begun.request ≡ Some q → fate_of (calls ++ call ∷ []) op ≡ StillOpen
  still_open q e = fate_now (Some q) e

  -- one operation more in the table
  pub begun_one : (ops : List Operation) (n : ℕ) (one : Held) (old new : Table) → IsNew (calls ++ call ∷ []) ops op → old.given ≤ length ops → Holds r (calls ++ call ∷ []) ops old → Shows r (calls ++ call ∷ []) one op
      → Pushes n one begun.request old new → Holds r (calls ++ call ∷ []) (ops ++ op ∷ []) new × (new.given ≡ old.given)
  begun_one ops n one old new apart few h shows p = (
    pushed r (calls ++ call ∷ []) ops op n one begun.request old new h few p shows
        (λ q e. (is.request_is ∙ e, still_open q e))
        (λ q e f. sym is.request_is ∙ e)
        (λ q m e. apart q m (is.request_is ∙ e)),
    p.given,
  )

-- ---- all of them

module _ (r : Rank) (calls : List Call) (call : Call) (numbered : AreNumbered 64 (calls ++ call ∷ [])) where
  -- an operation is new among those before it
  new_one : (ops : List Operation) (op : Operation) (rest : List Operation) → ops ++ op ∷ rest ≡ operations_of r (calls ++ call ∷ []) → ((q : ℕ) → op.request ≡ Some q → fate_of (calls ++ call ∷ []) op ≡ StillOpen) → IsNew (calls ++ call ∷ []) ops op
  new_one ops op rest whole is_open q m request o =
      let last : IsOpenAt (calls ++ call ∷ []) (operations_of r (calls ++ call ∷ [])) q (length ops) = record {
        op = op;
        there = ap (λ (xs : List Operation). slice_get xs (length ops)) (sym whole) ∙ at_seam ops op rest;
        request_is = request;
        is_open = is_open q request;
      } in
      let first : IsOpenAt (calls ++ call ∷ []) (operations_of r (calls ++ call ∷ [])) q m = record {
        op = o.op;
        there = ap (λ (xs : List Operation). slice_get xs m) (sym whole) ∙ get_append ops (op ∷ rest) m o.op o.there;
        request_is = o.request_is;
        is_open = o.is_open;
      } in
      let same = one_open r (calls ++ call ∷ []) q m (length ops) numbered first last in
      let inside = Rattle.must_hold.specs.ActiveLaws.get_within ops m o.op o.there in
      omega (arith, same, inside)
    where
      at_seam : (xs : List Operation) (x : Operation) (ys : List Operation) → slice_get (xs ++ x ∷ ys) (length xs) ≡ Some x
      at_seam [] x ys = refl
      at_seam (y ∷ xs) x ys = at_seam xs x ys

  module _ (k : ℕ) (here : length calls ≡ k) (given : ℕ) where
    pub begin_first : (begun reversed : List Begun) (table : Table) → reversed ≡ reverse begun → AreBegun k begun (operations_at r calls call) → table.given ≡ given → given ≤ length (operations_of r calls) → Holds r (calls ++ call ∷ []) (operations_of r calls) table
        → Begins r (calls ++ call ∷ []) k given table reversed
    begin_first begun reversed table e are same few holds = record {
      ops = operations_of r calls;
      rest = operations_at r calls call;
      whole = sym (operations_more r calls call);
      are = subst (λ (bs : List Begun). AreBegun k bs (operations_at r calls call)) (sym (ap reverse e ∙ Rattle.std.proofs.lemmas.List.reverse-reverse begun)) are;
      holds = holds;
      same = same;
      few = few;
    }

    longer : (ops : List Operation) (op : Operation) → given ≤ length ops → given ≤ length (ops ++ op ∷ [])
    longer ops op few = omega (arith, few, length-append ops (op ∷ []))

    pub begin_next : (front : List Begun) (one : Begun) (old new : Table) → Begins r (calls ++ call ∷ []) k given old (front ++ one ∷ [])
        → ((op : Operation) (ops : List Operation) → IsBegun k one op → IsNew (calls ++ call ∷ []) ops op → old.given ≤ length ops → Holds r (calls ++ call ∷ []) ops old → Holds r (calls ++ call ∷ []) (ops ++ op ∷ []) new × (new.given ≡ old.given))
        → Begins r (calls ++ call ∷ []) k given new front
    begin_next front one old new b more = at b.rest b.whole (subst (λ (bs : List Begun). AreBegun k bs b.rest) (reverse-append front (one ∷ [])) b.are)
      where
        at : (rest : List Operation) → b.ops ++ rest ≡ operations_of r (calls ++ call ∷ []) → AreBegun k (one ∷ reverse front) rest → Begins r (calls ++ call ∷ []) k given new front
        at [] whole are = absurd are
        at (op ∷ rest) whole are =
            let apart = new_one b.ops op rest whole (λ q e. still_open r calls call op k one are.0 here q (sym are.0.request_is ∙ e)) in
            let next = more op b.ops are.0 apart (subst (λ (g : ℕ). g ≤ length b.ops) (sym b.same) b.few) b.holds in
            record {
              ops = b.ops ++ op ∷ [];
              rest = rest;
              whole = append_assoc b.ops (op ∷ []) rest ∙ whole;
              are = are.1;
              holds = next.0;
              same = next.1 ∙ b.same;
              few = longer b.ops op b.few;
            }

    pub begin_last : (table : Table) → Begins r (calls ++ call ∷ []) k given table [] → Holds r (calls ++ call ∷ []) (operations_of r (calls ++ call ∷ [])) table × (table.given ≡ given)
    begin_last table b = (at b.rest b.whole b.are, b.same)
      where
        at : (rest : List Operation) → b.ops ++ rest ≡ operations_of r (calls ++ call ∷ []) → AreBegun k [] rest → Holds r (calls ++ call ∷ []) (operations_of r (calls ++ call ∷ [])) table
        at [] whole are = subst (λ (ops : List Operation). Holds r (calls ++ call ∷ []) ops table) (sym (append-nil b.ops) ∙ whole) b.holds
        at (op ∷ rest) whole are = absurd are

-- ---- done in its call, or not

pub not_done_here : (request : Option ℕ) (returned : Bool) → is_done request returned ≡ false → (is_some request ≡ true) ⊎ (returned ≡ false)
not_done_here None returned e = inr e
not_done_here (Some q) returned e = inl refl

pub done_here : (request : Option ℕ) (returned : Bool) → is_done request returned ≡ true → (request ≡ None) × (returned ≡ true)
done_here None returned e = (refl, e)
done_here (Some q) returned e = absurd (let no : false ≡ true = e in cc)

pub held_done : (r : Rank) (calls : List Call) (call : Call) (op : Operation) (rank k : ℕ) (begun : Begun) (item : Option MsgItem) (end : End) → r.rank ≡ rank → IsBegun k begun op → length calls ≡ k → is_done begun.request call.returned ≡ true
    → EndsHere r.tag_ub k op.message call end → option_map item_seen item ≡ item_ended rank (pending_of k begun) end begun.asked.deed → Shows r (calls ++ call ∷ []) (Settled item) op
held_done r calls call op rank k begun item end same is here done ends e =
    let d = done_here begun.request call.returned done in
    shows_settled r calls call op k begun is here item end ends d.0 d.1 (e ∙ ap (λ (n : ℕ). item_ended n (pending_of k begun) end begun.asked.deed) (sym same))

pub need_done : (r : Rank) (calls : List Call) (call : Call) (op : Operation) (rank k : ℕ) (begun : Begun) (end : End) (need : Need) → r.rank ≡ rank → IsBegun k begun op → length calls ≡ k → is_done begun.request call.returned ≡ true
    → EndsHere r.tag_ub k op.message call end → need ≡ need_ended rank (pending_of k begun) end → Tells r (calls ++ call ∷ []) need op
need_done r calls call op rank k begun end need same is here done ends e =
    let d = done_here begun.request call.returned done in
    subst (λ (n : Need). Tells r (calls ++ call ∷ []) n op) (sym (e ∙ ap (λ (n : ℕ). need_ended n (pending_of k begun) end) (sym same))) (tells_settled r calls call op k begun is here end ends d.0 d.1)

pub need_open : (r : Rank) (calls : List Call) (call : Call) (op : Operation) (rank k : ℕ) (begun : Begun) (end : End) (need : Need) → r.rank ≡ rank → IsBegun k begun op → length calls ≡ k → is_done begun.request call.returned ≡ false
    → end ≡ not_done → need ≡ need_ended rank (pending_of k begun) end → Tells r (calls ++ call ∷ []) need op
need_open r calls call op rank k begun end need same is here done ended e =
    subst (λ (n : Need). Tells r (calls ++ call ∷ []) n op) (sym (e ∙ ap (need_ended rank (pending_of k begun)) ended ∙ ap (λ (n : ℕ). need_ended n (pending_of k begun) not_done) (sym same)))
    (tells_open r calls call op k begun is here (not_done_here begun.request call.returned done))

pub last_popped : (xs rest : List Begun) (o : Option Begun) (x : Begun) → o ≡ Some x → xs ≡ rest ++ option_to_list o → xs ≡ rest ++ x ∷ []
last_popped xs rest o x e is = is ∙ ap (λ (p : Option Begun). rest ++ option_to_list p) e

pub none_popped : (xs rest : List Begun) (o : Option Begun) → length xs ≡ 0 → xs ≡ []
none_popped [] rest o e = refl
none_popped (x ∷ xs) rest o e = absurd (let no : suc (length xs) ≡ 0 = e in cc)
