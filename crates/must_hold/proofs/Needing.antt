-- What an operation needs is told by how it ended, and stays once that is known.
use Rattle.std.proofs.Common.{◌≡◌, ℕ, ◌<◌, Bool, true, false, cond, ◌&&◌, ◌||◌, List, [], ◌∷◌, ◌++◌, length, Option, Some, None, refl, ap, sym, subst, ◌∙◌}
use Rattle.std.specs.Prelude.{option_and_then, is_some, is_none}
use Rattle.must_call.specs.declared.status.Status3.{Status3}
use Rattle.must_call.specs.declared.call.Call.{Call}
use Rattle.must_p2p.specs.declared.side.Side.TheVariants as side
use Rattle.must_p2p.specs.declared.wild.Wild.{Wild}
use Rattle.must_entry.specs.declared.want.Want.{Want}
use Rattle.must_rules.specs.Rank.{Rank}
use Rattle.must_rules.specs.Operations.{Action, Sends, Receives, Probes, Envelope, Operation}
use Rattle.must_rules.specs.Fates.{Fate, Open as StillOpen, Freed, Done, fate_of, status_of, done_in}
use Rattle.must_rules.specs.Statuses.{says_cancelled, is_cancelled_by, is_cancelled, names_any, names_any_source, names_any_tag, is_receive, is_open_wildcard, breaks_status_by, breaks_status}
use Rattle.must_messages.specs.declared.asked.Mode.TheVariants as mode
use Rattle.must_messages.specs.declared.asked.Deed.{Deed}
use Rattle.must_messages.specs.declared.asked.Deed.TheVariants as deed
use Rattle.must_messages.specs.Asking.{action_seen}
use Rattle.must_messages.specs.PlainLaws.{no_some, same_some}
use Rattle.must_messages.specs.MessageItems.{Item, rank_at, wild_of, known_source, known_tag, item_by, item_of, taken}
use Rattle.must_messages.specs.CallNeeds.{Need as Alternative, place_of, wants_by, item_need, operation_need}
use Rattle.must_messages.specs.Holding.{is_settled}
use Rattle.must_messages.specs.FateLaws.{fate_stays}
use Rattle.must_messages.specs.ItemLaws.{need_stays}
use Rattle.must_hold.specs.declared.held.Need.{Need}
use Rattle.must_hold.specs.declared.held.Need.TheVariants as held
use Rattle.must_hold.specs.declared.held.Pending.{Pending}
use Rattle.must_hold.specs.declared.held.End.{End}
use Rattle.must_hold.specs.Ended.{IsPending, envelope, item_ended, is_unmet, is_cancelled_as, partner, need_by, need_ended, need_seen, unmet_at}
use Rattle.must_hold.specs.Changes.{not_done}
use Rattle.must_hold.specs.Needing.{Tells, unmet_of}
use Rattle.must_hold.proofs.Items.{item_is}

-- ---- open wildcards

no_status : (fate : Fate) → done_in fate ≡ None → status_of fate ≡ None
no_status StillOpen e = refl
no_status Freed e = refl
no_status (Done k statuses) e = let no : Some k ≡ None = e in absurd cc

none_there : (o : Option ℕ) → is_none o ≡ true → o ≡ None
none_there None e = refl
none_there (Some k) e = let no : false ≡ true = e in absurd cc

both_true : (a b : Bool) → (a && b) ≡ true → (a ≡ true) × (b ≡ true)
both_true true b e = (refl, e)
both_true false b e = let no : false ≡ true = e in absurd cc

no_tag : (r : Rank) (op : Operation) (w : Wild) (source : Option ℕ) → taken r op side.Receive w source None ≡ None
no_tag r op w None = refl
no_tag r op w (Some source) = refl

not_taken : (r : Rank) (op : Operation) (w : Wild) (e : Envelope) (a b : Bool) → names_any_source e ≡ a → names_any_tag e ≡ b → (a || b) ≡ true
    → taken r op side.Receive w (option_and_then (rank_at e) (known_source e None)) (known_tag e None) ≡ None
not_taken r op w e true b f g any = ap (λ (x : Bool). taken r op side.Receive w (option_and_then (rank_at e) (cond x None (Some e.peer))) (known_tag e None)) f
not_taken r op w e false true f g any =
    ap (λ (x : Bool). taken r op side.Receive w (option_and_then (rank_at e) (known_source e None)) (cond x None (Some e.tag))) g
    ∙ no_tag r op w (option_and_then (rank_at e) (known_source e None))
not_taken r op w e false false f g any = let no : false ≡ true = any in absurd cc

cond_none : (b : Bool) (i : Option Item) → i ≡ None → cond b None i ≡ None
cond_none true i e = refl
cond_none false i e = e

-- it has no item
open_item : (r : Rank) (op : Operation) (c b : Bool) (fate : Fate) (a : Action) (e : Envelope) → (is_receive a && (names_any e && is_none (done_in fate))) ≡ true → item_by r c b fate op a e ≡ None
open_item r op c b fate (Sends m) e is = let no : false ≡ true = is in absurd cc
open_item r op c b fate Probes e is = let no : false ≡ true = is in absurd cc
open_item r op c b fate Receives e is =
    let p = both_true (names_any e) (is_none (done_in fate)) is in
    let status = no_status fate (none_there (done_in fate) p.1) in
    ap (λ (s : Option Status3). cond (c || b) None (taken r op side.Receive (wild_of e fate) (option_and_then (rank_at e) (known_source e s)) (known_tag e s))) status
    ∙ cond_none (c || b) (taken r op side.Receive (wild_of e fate) (option_and_then (rank_at e) (known_source e None)) (known_tag e None))
    (not_taken r op (wild_of e fate) e (names_any_source e) (names_any_tag e) refl refl p.0)

-- ---- what is needed

-- what an operation needs that isn't cancelled, by its item
abbrev by_item : Rank → Operation → Action → Option Item → Alternative
by_item r op a None = None
by_item r op a (Some item) = Some (wants_by (place_of r op.call) op.part a)

by_item_is : (r : Rank) (op : Operation) (i : Option Item) → by_item r op op.message.action i ≡ item_need r op i
by_item_is r op None = refl
by_item_is r op (Some item) = refl

partner_seen : (r : Rank) (op : Operation) (d : Deed) (i : Option Item) → need_seen r.rank (cond (is_some i) (partner op.call op.part d) held.Never) ≡ by_item r op (action_seen d) i
partner_seen r op d None = refl
partner_seen r op (deed.Send mode.Standard) (Some item) = refl
partner_seen r op (deed.Send mode.Buffered) (Some item) = refl
partner_seen r op (deed.Send mode.Synchronous) (Some item) = refl
partner_seen r op (deed.Send mode.Ready) (Some item) = refl
partner_seen r op deed.Receive (Some item) = refl
partner_seen r op deed.Probe (Some item) = refl

module _ (r : Rank) (op : Operation) (e : Envelope) (status : Option Status3) (done : Option ℕ) (fate : Fate) (status_is : status_of fate ≡ status) (done_is : done_in fate ≡ done) where
  abbrev seen : Deed → Option Item → Alternative
  seen d i = need_seen r.rank (need_by op.call op.part d e status done (is_some i))

  plain : (d : Deed) (i : Option Item) (b : Bool)
      → need_seen r.rank (cond b held.Nothing (cond (is_some i) (partner op.call op.part d) held.Never)) ≡ cond b (Some []) (by_item r op (action_seen d) i)
  plain d i true = refl
  plain d i false = partner_seen r op d i

  by_deed : (d : Deed) (i : Option Item) → (is_unmet d e done ≡ true → i ≡ None) → seen d i ≡ cond (is_cancelled_by (action_seen d) fate) (Some []) (by_item r op (action_seen d) i)
  by_deed (deed.Send m) i none = plain (deed.Send m) i (says_cancelled status) ∙ ap (λ (s : Option Status3). cond (says_cancelled s) (Some []) (by_item r op (action_seen (deed.Send m)) i)) (sym status_is)
  by_deed deed.Probe i none = partner_seen r op deed.Probe i
  by_deed deed.Receive i none = at (names_any e && is_none done) refl
    where
      at : (u : Bool) → (names_any e && is_none done) ≡ u
          → need_seen r.rank (cond u (held.Unmet op.call op.part) (cond (says_cancelled status) held.Nothing (cond (is_some i) (partner op.call op.part deed.Receive) held.Never)))
          ≡ cond (says_cancelled (status_of fate)) (Some []) (by_item r op Receives i)
      at true h =
          let p = both_true (names_any e) (is_none done) h in
          let nothing = no_status fate (done_is ∙ none_there done p.1) in
          sym (ap (λ (s : Option Status3). cond (says_cancelled s) (Some []) (by_item r op Receives i)) nothing ∙ ap (by_item r op Receives) (none h))
      at false h = plain deed.Receive i (says_cancelled status) ∙ ap (λ (s : Option Status3). cond (says_cancelled s) (Some []) (by_item r op Receives i)) (sym status_is)

partner_met : (call part : ℕ) (d : Deed) → unmet_at (partner call part d) ≡ None
partner_met call part (deed.Send mode.Standard) = refl
partner_met call part (deed.Send mode.Buffered) = refl
partner_met call part (deed.Send mode.Synchronous) = refl
partner_met call part (deed.Send mode.Ready) = refl
partner_met call part deed.Receive = refl
partner_met call part deed.Probe = refl

unmet_by : (call part : ℕ) (d : Deed) (u b there : Bool)
    → unmet_at (cond u (held.Unmet call part) (cond b held.Nothing (cond there (partner call part d) held.Never)))
    ≡ cond u (Some (call, part)) None
unmet_by call part d true b there = refl
unmet_by call part d false true there = refl
unmet_by call part d false false true = partner_met call part d
unmet_by call part d false false false = refl

module _ (r : Rank) (p : Pending) (op : Operation) (pending : IsPending p op) (now : List Call) (end : End) (fate : Fate) (is : fate_of now op ≡ fate) (status_is : status_of fate ≡ end.status) (done_is : done_in fate ≡ end.done)
    (item_told : item_ended r.rank p end p.asked.deed ≡ item_of r now op) where
  abbrev wild_here : Deed → Bool
  wild_here d = is_receive (action_seen d) && (names_any (envelope p) && is_none end.done)

  wild_is : wild_here p.asked.deed ≡ is_open_wildcard now op
  wild_is =
      ap (λ (a : Action). is_receive a && (names_any (envelope p) && is_none end.done)) (sym pending.asked_is.action_is)
      ∙ ap (λ (e : Envelope). is_receive op.message.action && (names_any e && is_none end.done)) (sym pending.asked_is.envelope_is)
      ∙ ap (λ (o : Option ℕ). is_receive op.message.action && (names_any op.message.envelope && is_none o)) (sym done_is ∙ ap done_in (sym is))

  no_item : is_unmet p.asked.deed (envelope p) end.done ≡ true → item_of r now op ≡ None
  unfolding item_of
  no_item h = open_item r op (is_cancelled op (fate_of now op)) (breaks_status r now op) (fate_of now op) op.message.action op.message.envelope (sym wild_is ∙ h)

  -- what an operation needs that ended so
  pub need_told : Tells r now (need_ended r.rank p end) op
  unfolding operation_need
  need_told = record {
    wants =
        ap (λ (b : Bool). need_seen r.rank (need_by p.call p.part p.asked.deed (envelope p) end.status end.done b)) (ap is_some item_told)
        ∙ ap (λ (k : ℕ). need_seen r.rank (need_by k p.part p.asked.deed (envelope p) end.status end.done (is_some (item_of r now op)))) (sym pending.call_is)
        ∙ ap (λ (k : ℕ). need_seen r.rank (need_by op.call k p.asked.deed (envelope p) end.status end.done (is_some (item_of r now op)))) (sym pending.part_is)
        ∙ by_deed r op (envelope p) end.status end.done fate status_is done_is p.asked.deed (item_of r now op) no_item
        ∙ ap (λ (a : Action). cond (is_cancelled_by a fate) (Some []) (by_item r op a (item_of r now op))) (sym pending.asked_is.action_is)
        ∙ ap (λ (f : Fate). cond (is_cancelled op f) (Some []) (by_item r op op.message.action (item_of r now op))) (sym is)
        ∙ ap (λ (n : Alternative). cond (is_cancelled op (fate_of now op)) (Some []) n) (by_item_is r op (item_of r now op));
    unmet =
        unmet_by p.call p.part p.asked.deed (is_unmet p.asked.deed (envelope p) end.done) (is_cancelled_as p.asked.deed end.status) (is_some (item_ended r.rank p end p.asked.deed))
        ∙ ap (λ (b : Bool). cond b (Some (p.call, p.part)) None) wild_is
        ∙ ap (λ (k : ℕ). cond (is_open_wildcard now op) (Some (k, p.part)) None) (sym pending.call_is)
        ∙ ap (λ (k : ℕ). cond (is_open_wildcard now op) (Some (op.call, k)) None) (sym pending.part_is);
  }

-- the item of an operation that stays open
open_left : (r : Rank) (p : Pending) (op : Operation) (now : List Call) → IsPending p op → fate_of now op ≡ StillOpen → item_ended r.rank p not_done p.asked.deed ≡ item_of r now op
unfolding item_of breaks_status
open_left r p op now pending is_open =
    item_is r p op pending not_done StillOpen refl refl
    ∙ ap (λ (f : Fate). item_by r (is_cancelled op f) (breaks_status_by r now op f) f op op.message.action op.message.envelope) (sym is_open)

-- what an open operation needs
pub open_told : (r : Rank) (p : Pending) (op : Operation) (now : List Call) → IsPending p op → fate_of now op ≡ StillOpen → Tells r now (need_ended r.rank p not_done) op
open_told r p op now pending is_open = need_told r p op pending now not_done StillOpen is_open refl refl (open_left r p op now pending is_open)

-- ---- one call more

same_unmet : (calls now : List Call) (op : Operation) → fate_of now op ≡ fate_of calls op → unmet_of calls op ≡ unmet_of now op
same_unmet calls now op e = ap (λ (f : Fate). cond (is_receive op.message.action && (names_any op.message.envelope && is_none (done_in f))) (Some (op.call, op.part)) None) (sym e)

-- of a settled operation
pub told_stays : (r : Rank) (calls : List Call) (call : Call) (need : Need) (op : Operation) → op.call < length calls → is_settled (fate_of calls op) ≡ true → Tells r calls need op → Tells r (calls ++ call ∷ []) need op
told_stays r calls call need op below settled t = record {
  wants = t.wants ∙ sym (need_stays r calls call op below settled);
  unmet = t.unmet ∙ same_unmet calls (calls ++ call ∷ []) op (fate_stays calls call op below settled);
}

open_need : (r : Rank) (calls : List Call) (op : Operation) → fate_of calls op ≡ StillOpen
    → operation_need r calls op ≡ cond (is_cancelled op StillOpen) (Some []) (item_need r op (item_by r (is_cancelled op StillOpen) false StillOpen op op.message.action op.message.envelope))
unfolding operation_need item_of breaks_status
open_need r calls op e = ap (λ (f : Fate). cond (is_cancelled op f) (Some []) (item_need r op (item_by r (is_cancelled op f) (breaks_status_by r calls op f) f op op.message.action op.message.envelope))) e

-- of one that stays open
pub told_open : (r : Rank) (calls : List Call) (call : Call) (need : Need) (op : Operation) → fate_of calls op ≡ StillOpen → fate_of (calls ++ call ∷ []) op ≡ StillOpen → Tells r calls need op → Tells r (calls ++ call ∷ []) need op
told_open r calls call need op old new t = record {
  wants = t.wants ∙ open_need r calls op old ∙ sym (open_need r (calls ++ call ∷ []) op new);
  unmet = t.unmet ∙ same_unmet calls (calls ++ call ∷ []) op (new ∙ sym old);
}
