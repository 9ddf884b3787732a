-- What a rank gives of its messages comes in the order that channels and nodes want: each item stands at its rank's end of the
-- message, and they rise by call and part.
use Rattle.std.proofs.Common.{◌≡◌, ℕ, ℤ, ◌<◌, Bool, true, false, List, [], ◌∷◌, Option, Some, None, refl, ap, sym, subst, ◌∙◌, inl, inr, Ordering, Less, Equal}
use Rattle.std.specs.Prelude.{◌⊎◌, map, filter_map, option_and_then}
use Rattle.std.specs.Ordering.{nat_cmp, ordering_then}
use Rattle.std.specs.Cmp.{nat_cmp_is}
use Rattle.std.specs.List.{AllByRecursion, cons_option}
use Rattle.must_call.specs.declared.place.Place.{Place}
use Rattle.must_call.specs.declared.call.Call.{Call}
use Rattle.must_p2p.specs.declared.side.Side.{Side}
use Rattle.must_p2p.specs.declared.side.Side.TheVariants.{Send, Receive, Probe}
use Rattle.must_p2p.specs.declared.wild.Wild.{Wild}
use Rattle.must_p2p.specs.declared.item.MsgItem.{MsgItem}
use Rattle.must_p2p.specs.Items.{end_of, spot_cmp, InOrder}
use Rattle.must_rules.specs.Rank.{Rank}
use Rattle.must_messages.specs.PlainLaws.{no_some, same_some}
use Rattle.must_rules.specs.Operations.{Action, Sends, Receives, Probes, Envelope, Operation, operations_of}
use Rattle.must_rules.specs.Fates.{Fate, fate_of, status_of}
use Rattle.must_rules.specs.Statuses.{is_cancelled, breaks_status}
use Rattle.must_messages.specs.MessageItems.{Item, item_seen, known_source, known_tag, probed_source, probed_tag, rank_at, no_wild, wild_of, item, sent, taken, item_by, item_of, items_of, AreMessagesOf}
use Rattle.must_messages.specs.RiseLaws.{IsBefore, Rise, operations_rise}

-- ---- the item of an operation

-- the rank at which an item of this side stands
abbrev pub end_at : Item → Side → ℕ
end_at i Send = i.source
end_at i Receive = i.dest
end_at i Probe = i.dest

-- the item stands where its operation began, at its rank's end, on the communicator that the operation named
pub record IsFor (r : Rank) (op : Operation) (i : Item) : Type 0 where
  pub place_is : i.place ≡ record { rank = r.rank; call = op.call }
  pub part_is : i.part ≡ op.part
  pub end_is : end_at i i.side ≡ r.rank
  pub comm_is : i.comm ≡ op.message.envelope.comm
  pub name_is : i.name ≡ op.message.envelope.name

there : (r : Rank) (op : Operation) (s : Side) (w : Wild) (from to : ℕ) (t : ℤ) → end_at (item r op s w from to t) s ≡ r.rank → IsFor r op (item r op s w from to t)
there r op s w from to t e = record { place_is = refl; part_is = refl; end_is = e; comm_is = refl; name_is = refl }

sent_for : (r : Rank) (op : Operation) (dest : Option ℕ) (i : Item) → sent r op dest ≡ Some i → IsFor r op i
sent_for r op None i e = no_some i e
sent_for r op (Some to) i e =
    subst (IsFor r op) (same_some (item r op Send no_wild r.rank to op.message.envelope.tag) i e) (there r op Send no_wild r.rank to op.message.envelope.tag refl)

taken_for : (r : Rank) (op : Operation) (s : Side) (w : Wild) (source : Option ℕ) (tag : Option ℤ) (i : Item)
    → ((from : ℕ) (t : ℤ) → end_at (item r op s w from r.rank t) s ≡ r.rank) → taken r op s w source tag ≡ Some i → IsFor r op i
taken_for r op s w None tag i end e = no_some i e
taken_for r op s w (Some from) None i end e = no_some i e
taken_for r op s w (Some from) (Some t) i end e = subst (IsFor r op) (same_some (item r op s w from r.rank t) i e) (there r op s w from r.rank t (end from t))

by_for : (r : Rank) (cancelled breaks : Bool) (fate : Fate) (op : Operation) (a : Action) (e : Envelope) (i : Item) → item_by r cancelled breaks fate op a e ≡ Some i → IsFor r op i
by_for r true breaks fate op (Sends mode) e i h = no_some i h
by_for r false breaks fate op (Sends mode) e i h = sent_for r op (rank_at e e.peer) i h
by_for r true breaks fate op Receives e i h = no_some i h
by_for r false true fate op Receives e i h = no_some i h
by_for r false false fate op Receives e i h =
    taken_for r op Receive (wild_of e fate) (option_and_then (rank_at e) (known_source e (status_of fate))) (known_tag e (status_of fate)) i (λ from t. refl) h
by_for r cancelled breaks fate op Probes e i h =
    taken_for r op Probe no_wild (option_and_then (rank_at e) (probed_source e (status_of fate))) (probed_tag e (status_of fate)) i (λ from t. refl) h

pub item_is_for : (r : Rank) (calls : List Call) (op : Operation) (i : Item) → item_of r calls op ≡ Some i → IsFor r op i
unfolding item_of
item_is_for r calls op i e = by_for r (is_cancelled op (fate_of calls op)) (breaks_status r calls op) (fate_of calls op) op op.message.action op.message.envelope i e

-- ---- the items of a rank

-- at its rank's end of the message
abbrev pub IsAtRank : ℕ → Item → Type 0
IsAtRank rank i = (i.place.rank ≡ rank) × (end_at i i.side ≡ rank)

-- by call, then by part
abbrev pub IsEarlier : Item → Item → Type 0
IsEarlier i j = ordering_then (nat_cmp i.place.call j.place.call) (nat_cmp i.part j.part) ≡ Less

abbrev pub ItemsRise : List Item → Type 0
ItemsRise [] = Unit {0}
ItemsRise (i ∷ is) = AllByRecursion (IsEarlier i) is × ItemsRise is

less : (a b p q : ℕ) → ((a < b) ⊎ ((a ≡ b) × (p < q))) → ordering_then (nat_cmp a b) (nat_cmp p q) ≡ Less
less a b p q (inl h) = ap (λ (o : Ordering). ordering_then o (nat_cmp p q)) (sym (nat_cmp_is a b Less h))
less a b p q (inr h) = ap (λ (o : Ordering). ordering_then o (nat_cmp p q)) (sym (nat_cmp_is a b Equal h.0)) ∙ sym (nat_cmp_is p q Less h.1)

earlier_for : (r : Rank) (x y : Operation) (i j : Item) → IsFor r x i → IsFor r y j → IsBefore x y → IsEarlier i j
earlier_for r x y i j a b h =
    ap (λ (p : Place). ordering_then (nat_cmp p.call j.place.call) (nat_cmp i.part j.part)) a.place_is
    ∙ ap (λ (p : Place). ordering_then (nat_cmp x.call p.call) (nat_cmp i.part j.part)) b.place_is
    ∙ ap (λ (n : ℕ). ordering_then (nat_cmp x.call y.call) (nat_cmp n j.part)) a.part_is
    ∙ ap (λ (n : ℕ). ordering_then (nat_cmp x.call y.call) (nat_cmp x.part n)) b.part_is
    ∙ less x.call y.call x.part y.part h

at_rank : (r : Rank) (calls : List Call) (ops : List Operation) → AllByRecursion (IsAtRank r.rank) (filter_map (item_of r calls) ops)
at_rank r calls [] = tt
at_rank r calls (op ∷ ops) = at (item_of r calls op) refl (at_rank r calls ops)
  where
    at : (o : Option Item) → item_of r calls op ≡ o → AllByRecursion (IsAtRank r.rank) (filter_map (item_of r calls) ops) → AllByRecursion (IsAtRank r.rank) (cons_option o (filter_map (item_of r calls) ops))
    at None e rest = rest
    at (Some i) e rest = let is = item_is_for r calls op i e in ((ap (λ (p : Place). p.rank) is.place_is, is.end_is), rest)

-- each item of a rank is at its end of the message
pub items_at_rank : (r : Rank) (calls : List Call) → AllByRecursion (IsAtRank r.rank) (items_of r calls)
items_at_rank r calls = at_rank r calls (operations_of r calls)

all_earlier : (r : Rank) (calls : List Call) (x : Operation) (i : Item) → IsFor r x i → (ops : List Operation) → AllByRecursion (IsBefore x) ops → AllByRecursion (IsEarlier i) (filter_map (item_of r calls) ops)
all_earlier r calls x i is [] before = tt
all_earlier r calls x i is (op ∷ ops) before = at (item_of r calls op) refl (all_earlier r calls x i is ops before.1)
  where
    at : (o : Option Item) → item_of r calls op ≡ o → AllByRecursion (IsEarlier i) (filter_map (item_of r calls) ops) → AllByRecursion (IsEarlier i) (cons_option o (filter_map (item_of r calls) ops))
    at None e rest = rest
    at (Some j) e rest = (earlier_for r x op i j is (item_is_for r calls op j e) before.0, rest)

rise_for : (r : Rank) (calls : List Call) (ops : List Operation) → Rise ops → ItemsRise (filter_map (item_of r calls) ops)
rise_for r calls [] rise = tt
rise_for r calls (op ∷ ops) rise = at (item_of r calls op) refl (rise_for r calls ops rise.1)
  where
    at : (o : Option Item) → item_of r calls op ≡ o → ItemsRise (filter_map (item_of r calls) ops) → ItemsRise (cons_option o (filter_map (item_of r calls) ops))
    at None e rest = rest
    at (Some i) e rest = (all_earlier r calls op i (item_is_for r calls op i e) ops rise.0, rest)

-- the items of a rank rise by call and part
pub items_rise : (r : Rank) (calls : List Call) → ItemsRise (items_of r calls)
items_rise r calls = rise_for r calls (operations_of r calls) (operations_rise r calls)

-- ---- as channels and nodes take them

abbrev pub IsMessageAt : ℕ → MsgItem → Type 0
IsMessageAt rank x = (x.place.rank ≡ rank) × (end_of x x.side ≡ rank)

end_seen : (x : MsgItem) (s : Side) → end_at (item_seen x) s ≡ end_of x s
end_seen x Send = refl
end_seen x Receive = refl
end_seen x Probe = refl

seen_at : (rank : ℕ) (xs : List MsgItem) → AllByRecursion (IsAtRank rank) (map item_seen xs) → AllByRecursion (IsMessageAt rank) xs
seen_at rank [] all = tt
seen_at rank (x ∷ xs) all = ((all.0.0, sym (end_seen x x.side) ∙ all.0.1), seen_at rank xs all.1)

seen_earlier : (x : MsgItem) (xs : List MsgItem) → AllByRecursion (IsEarlier (item_seen x)) (map item_seen xs) → AllByRecursion (λ y. x.place.rank ≡ y.place.rank → spot_cmp x y ≡ Less) xs
seen_earlier x [] all = tt
seen_earlier x (y ∷ ys) all = ((λ same. all.0), seen_earlier x ys all.1)

seen_rise : (xs : List MsgItem) → ItemsRise (map item_seen xs) → InOrder xs
seen_rise [] rise = tt
seen_rise (x ∷ xs) rise = (seen_earlier x xs rise.0, seen_rise xs rise.1)

-- the messages of a rank are at its end
pub messages_at_rank : (r : Rank) (calls : List Call) (xs : List MsgItem) → AreMessagesOf r calls xs → AllByRecursion (IsMessageAt r.rank) xs
messages_at_rank r calls xs are = seen_at r.rank xs (subst (AllByRecursion (IsAtRank r.rank)) (sym are) (items_at_rank r calls))

-- the messages of a rank are in order
pub messages_in_order : (r : Rank) (calls : List Call) (xs : List MsgItem) → AreMessagesOf r calls xs → InOrder xs
messages_in_order r calls xs are = seen_rise xs (subst ItemsRise (sym are) (items_rise r calls))
