-- What a rank gives of its messages has each communicator by one handle number, as channels and nodes want.
use Rattle.std.proofs.Common.{◌≡◌, ℕ, zero, suc, ℤ, Bool, true, false, cond, List, [], ◌∷◌, ◌++◌, length, take, Option, Some, None, refl, ap, sym, subst, ◌∙◌, append_assoc}
use Rattle.std.specs.Prelude.{map, option_map, flat_map, filter_map, slice_get, if◌then◌else◌}
use Rattle.std.specs.List.{AllByRecursion, cons_option}
use Rattle.std.proofs.Math.Seq.{take-append_seam}
use Rattle.must_base.specs.ListingLaws.{all_has}
use Rattle.must_call.specs.declared.class.Class.TheVariants.{Request}
use Rattle.must_call.specs.declared.life.Life.{Life}
use Rattle.must_call.specs.declared.life.Life.TheVariants.{Never, Live, Freed, Predefined}
use Rattle.must_call.specs.declared.call.Call.{Call}
use Rattle.must_call.specs.declared.body.Body.{Body}
use Rattle.must_call.specs.declared.field.Side.{Side}
use Rattle.must_call.specs.declared.field.Side.TheVariants.{Send, Receive}
use Rattle.must_call.specs.declared.field.Field.TheVariants.{Buffer}
use Rattle.must_call.specs.Bodies.{inputs_of}
use Rattle.must_call.specs.Kinds.{kind_of}
use Rattle.must_group.specs.Names.{Name}
use Rattle.must_p2p.specs.declared.item.MsgItem.{MsgItem}
use Rattle.must_p2p.specs.Items.{IsPlaced, AreNamedOnce, Orderly}
use Rattle.must_rules.specs.Rank.{Rank}
use Rattle.must_rules.specs.Making.{is_persistent_kind, started_of}
use Rattle.must_rules.specs.Lives.{life}
use Rattle.must_rules.specs.Significant.{or_else, first_told}
use Rattle.must_rules.specs.Breaches.{part_in}
use Rattle.must_rules.specs.UsableParts.{peer_in}
use Rattle.must_rules.specs.Numbered.{AreNumbered}
use Rattle.must_rules.specs.Communicators.{is_there, there, comm_named, name_of, usable_name}
use Rattle.must_rules.specs.Parts.{Part, with_both, numbered}
use Rattle.must_rules.specs.PendingOperations.{parts_behind, begun_request, starts_at}
use Rattle.must_messages.specs.PlainLaws.{no_some, same_some}
use Rattle.must_rules.specs.Turns.{Turn, turns_from, turns}
use Rattle.must_rules.specs.Operations.{Operation, operation, Envelope, Message, message, action_of, tag_in, envelope_by, envelope_on, envelope_of, message_of, probes, probed, message_probed, waits_for_probe, message_at, message_by, message_made, message_started, begun_by_side, begun_here, with_started, started_from, operations_at, operations_in_turn, operations_of}
use Rattle.must_messages.specs.OperationLaws.{all_join}
use Rattle.must_messages.specs.NameLaws.{name_stays}
use Rattle.must_messages.specs.MessageItems.{Item, item_seen, item_of, AreMessagesOf}
use Rattle.must_messages.specs.ItemOrderLaws.{item_is_for, IsMessageAt, messages_at_rank, messages_in_order}

-- ---- envelopes

-- the communicator of an envelope has its name behind these calls
abbrev pub IsNamed : Rank → List Call → Envelope → Type 0
IsNamed r calls e = name_of r calls e.comm ≡ Some e.name

there_some : (l : Life) (o : Option Name) (n : Name) → there l o ≡ Some n → o ≡ Some n
there_some l o n e = at (is_there l) e
  where
    at : (b : Bool) → cond b o None ≡ Some n → o ≡ Some n
    at true f = f
    at false f = no_some n f

by_named : (comm : ℕ) (name : Option Name) (peer tag : Option ℤ) (e : Envelope) → envelope_by comm name peer tag ≡ Some e → (comm ≡ e.comm) × (name ≡ Some e.name)
by_named comm None peer tag e h = no_some e h
by_named comm (Some name) None tag e h = no_some e h
by_named comm (Some name) (Some peer) None e h = no_some e h
by_named comm (Some name) (Some peer) (Some tag) e h =
    let same : record { comm = comm; name = name; peer = peer; tag = tag } ≡ e = cc in
    (ap (λ (x : Envelope). x.comm) same, ap (λ (x : Envelope). Some x.name) same)

on_named : (r : Rank) (before : List Call) (b : Body) (s : Side) (comm : Option ℕ) (e : Envelope) → envelope_on r before b s comm ≡ Some e → IsNamed r before e
on_named r before b s None e h = no_some e h
on_named r before b s (Some comm) e h =
    let is = by_named comm (usable_name r before comm) (first_told (peer_in s) (inputs_of b)) (first_told (tag_in s) (inputs_of b)) e h in
    ap (name_of r before) (sym is.0) ∙ there_some (life before Rattle.must_call.specs.declared.class.Class.TheVariants.Comm comm) (name_of r before comm) e.name is.1

-- ---- messages

abbrev pub IsNamedMessage : Rank → List Call → Message → Type 0
IsNamedMessage r calls m = IsNamed r calls m.envelope

both_named : (r : Rank) (before : List Call) (f : Envelope → Part → Message) (x : Option Envelope) (y : Option Part) (m : Message) → ((e : Envelope) (p : Part) → (f e p).envelope ≡ e)
    → ((e : Envelope) → x ≡ Some e → IsNamed r before e) → with_both f x y ≡ Some m → IsNamedMessage r before m
both_named r before f None y m keeps named h = no_some m h
both_named r before f (Some e) None m keeps named h = no_some m h
both_named r before f (Some e) (Some p) m keeps named h =
    subst (IsNamedMessage r before) (same_some (f e p) m h) (subst (IsNamed r before) (sym (keeps e p)) (named e refl))

of_named : (r : Rank) (before : List Call) (call : Call) (s : Side) (m : Message) → message_of r before call s ≡ Some m → IsNamedMessage r before m
unfolding message_of
of_named r before call s m h =
    both_named r before (message (action_of (kind_of call.body) s)) (envelope_of r before call.body s) (numbered (part_in call.body (Buffer s)) (parts_behind r before call)) m
    (λ e p. refl) (λ e. on_named r before call.body s (comm_named call.body) e) h

probed_by : (r : Rank) (before : List Call) (o : Option Envelope) (m : Message) → ((e : Envelope) → o ≡ Some e → IsNamed r before e) → option_map probed o ≡ Some m → IsNamedMessage r before m
probed_by r before None m named h = no_some m h
probed_by r before (Some e) m named h = subst (IsNamedMessage r before) (same_some (probed e) m h) (named e refl)

probed_named : (r : Rank) (earlier : List Call) (call : Call) (m : Message) → message_probed r earlier call ≡ Some m → IsNamedMessage r earlier m
unfolding message_probed
probed_named r earlier call m h = at (probes r earlier call) h
  where
    at : (b : Bool) → cond b (option_map probed (envelope_of r earlier call.body Receive)) None ≡ Some m → IsNamedMessage r earlier m
    at true f = probed_by r earlier (envelope_of r earlier call.body Receive) m (λ e. on_named r earlier call.body Receive (comm_named call.body) e) f
    at false f = no_some m f

else_named : (r : Rank) (before : List Call) (first second : Option Message) (m : Message) → (first ≡ Some m → IsNamedMessage r before m) → (second ≡ Some m → IsNamedMessage r before m)
    → or_else first second ≡ Some m → IsNamedMessage r before m
else_named r before None second m a b h = b h
else_named r before (Some n) second m a b h = a h

received_named : (r : Rank) (earlier : List Call) (call : Call) (m : Message) → message_at r earlier call Receive ≡ Some m → IsNamedMessage r earlier m
received_named r earlier call m h =
    else_named r earlier (message_of r earlier call Receive) (if waits_for_probe (kind_of call.body) then message_probed r earlier call else None) m
    (of_named r earlier call Receive m) (at (waits_for_probe (kind_of call.body))) h
  where
    at : (b : Bool) → cond b (message_probed r earlier call) None ≡ Some m → IsNamedMessage r earlier m
    at true f = probed_named r earlier call m f
    at false f = no_some m f

maker_named : (r : Rank) (before : List Call) (maker : Option Call) (m : Message) → message_by r before maker ≡ Some m → IsNamedMessage r before m
maker_named r before None m h = no_some m h
maker_named r before (Some maker) m h =
    else_named r before (message_of r before maker Send) (message_of r before maker Receive) m (of_named r before maker Send m) (of_named r before maker Receive m) h

-- behind the first ones of these calls
abbrev pub IsNamedIn : Rank → List Call → Message → Type 0
IsNamedIn r calls m = (k : ℕ) × IsNamedMessage r (take k calls) m

take_whole : (xs : List Call) → take (length xs) xs ≡ xs
take_whole [] = refl
take_whole (x ∷ xs) = ap (λ (ys : List Call). x ∷ ys) (take_whole xs)

in_whole : (r : Rank) (calls : List Call) (m : Message) → IsNamedMessage r calls m → IsNamedIn r calls m
in_whole r calls m named = (length calls, subst (λ (cs : List Call). IsNamedMessage r cs m) (sym (take_whole calls)) named)

life_named : (r : Rank) (calls : List Call) (l : Life) (m : Message) → message_made r calls l ≡ Some m → IsNamedIn r calls m
life_named r calls (Live made) m h = (made, maker_named r (take made calls) (slice_get calls made) m h)
life_named r calls Never m h = no_some m h
life_named r calls (Freed made freed) m h = no_some m h
life_named r calls Predefined m h = no_some m h

started_named : (r : Rank) (earlier : List Call) (call : Call) (index request : ℕ) (m : Message) → message_started r earlier call index request ≡ Some m → IsNamedIn r earlier m
unfolding message_started
started_named r earlier call index request m h = at (starts_at r earlier call index request) h
  where
    at : (b : Bool) → cond b (message_made r earlier (life earlier Request request)) None ≡ Some m → IsNamedIn r earlier m
    at true f = life_named r earlier (life earlier Request request) m f
    at false f = no_some m f

-- ---- operations

abbrev pub IsNamedOperation : Rank → List Call → Operation → Type 0
IsNamedOperation r calls op = IsNamedIn r calls op.message

with_named : (r : Rank) (earlier : List Call) (call index request : ℕ) (m : Option Message) (ops : List Operation) → ((n : Message) → m ≡ Some n → IsNamedIn r earlier n)
    → AllByRecursion (IsNamedOperation r earlier) ops → AllByRecursion (IsNamedOperation r earlier) (with_started call index request m ops)
with_named r earlier call index request None ops named all = all
with_named r earlier call index request (Some m) ops named all = (named m refl, all)

from_named : (r : Rank) (earlier : List Call) (call : Call) (index : ℕ) (requests : List ℕ) → AllByRecursion (IsNamedOperation r earlier) (started_from r earlier call index requests)
from_named r earlier call index [] = tt
from_named r earlier call index (request ∷ requests) =
    with_named r earlier (length earlier) index request (message_started r earlier call index request) (started_from r earlier call (suc index) requests)
    (started_named r earlier call index request) (from_named r earlier call (suc index) requests)

cons_named : (r : Rank) (earlier : List Call) (call part : ℕ) (request : Option ℕ) (m : Option Message) (ops : List Operation) → ((n : Message) → m ≡ Some n → IsNamedMessage r earlier n)
    → AllByRecursion (IsNamedOperation r earlier) ops → AllByRecursion (IsNamedOperation r earlier) (cons_option (option_map (operation call part request) m) ops)
cons_named r earlier call part request None ops named all = all
cons_named r earlier call part request (Some m) ops named all = (in_whole r earlier m (named m refl), all)

either_named : (r : Rank) (earlier : List Call) (starts : Bool) (ops others : List Operation) → AllByRecursion (IsNamedOperation r earlier) ops → AllByRecursion (IsNamedOperation r earlier) others
    → AllByRecursion (IsNamedOperation r earlier) (if starts then ops else others)
either_named r earlier true ops others a b = a
either_named r earlier false ops others a b = b

call_named : (r : Rank) (earlier : List Call) (call : Call) → AllByRecursion (IsNamedOperation r earlier) (operations_at r earlier call)
unfolding operations_at
call_named r earlier call =
    either_named r earlier (is_persistent_kind call.body) (started_from r earlier call 0 (started_of call.body)) (begun_here r earlier call)
    (from_named r earlier call 0 (started_of call.body))
    (cons_named r earlier (length earlier) (part_in call.body (Buffer Send)) (begun_request call) (message_at r earlier call Send) (filter_map (begun_by_side r earlier call) (Receive ∷ []))
    (of_named r earlier call Send)
    (cons_named r earlier (length earlier) (part_in call.body (Buffer Receive)) (begun_request call) (message_at r earlier call Receive) [] (received_named r earlier call) tt))

-- ---- a rank

take_twice : (j k : ℕ) (xs : List Call) → (m : ℕ) × (take k (take j xs) ≡ take m xs)
take_twice zero zero xs = (zero, refl)
take_twice zero (suc k) xs = (zero, refl)
take_twice (suc j) zero xs = (zero, refl)
take_twice (suc j) (suc k) [] = (zero, refl)
take_twice (suc j) (suc k) (x ∷ xs) = let rest = take_twice j k xs in (suc rest.0, ap (λ (ys : List Call). x ∷ ys) rest.1)

-- the calls before a turn are the first ones of these
abbrev IsTurnOf : List Call → Turn → Type 0
IsTurnOf calls t = take (length t.earlier) calls ≡ t.earlier

turns_of_from : (whole earlier calls : List Call) → earlier ++ calls ≡ whole → AllByRecursion (IsTurnOf whole) (turns_from earlier calls)
turns_of_from whole earlier [] e = tt
turns_of_from whole earlier (c ∷ calls) e =
    (ap (take (length earlier)) (sym e) ∙ take-append_seam earlier (c ∷ calls), turns_of_from whole (earlier ++ c ∷ []) calls (append_assoc earlier (c ∷ []) calls ∙ e))

abbrev IsNamedAtLast : Rank → List Call → Operation → Type 0
IsNamedAtLast r calls op = IsNamedMessage r calls op.message

last_named : (r : Rank) (calls : List Call) (t : Turn) → AreNumbered 64 calls → IsTurnOf calls t → (op : Operation) → IsNamedOperation r t.earlier op → IsNamedAtLast r calls op
last_named r calls t numbered is op named =
    let twice = take_twice (length t.earlier) named.0 calls in
    name_stays r calls op.message.envelope.comm numbered twice.0 op.message.envelope.name
    (ap (λ (cs : List Call). name_of r cs op.message.envelope.comm) (sym twice.1 ∙ ap (take named.0) is) ∙ named.1)

all_kept : (P Q : Operation → Type 0) → ((op : Operation) → P op → Q op) → (ops : List Operation) → AllByRecursion P ops → AllByRecursion Q ops
all_kept P Q f [] all = tt
all_kept P Q f (op ∷ ops) all = (f op all.0, all_kept P Q f ops all.1)

turns_named : (r : Rank) (calls : List Call) → AreNumbered 64 calls → (ts : List Turn) → AllByRecursion (IsTurnOf calls) ts → AllByRecursion (IsNamedAtLast r calls) (flat_map (operations_in_turn r) ts)
turns_named r calls numbered [] are = tt
turns_named r calls numbered (t ∷ ts) are =
    all_join (IsNamedAtLast r calls) (operations_at r t.earlier t.call) (flat_map (operations_in_turn r) ts)
    (all_kept (IsNamedOperation r t.earlier) (IsNamedAtLast r calls) (last_named r calls t numbered are.0) (operations_at r t.earlier t.call) (call_named r t.earlier t.call))
    (turns_named r calls numbered ts are.1)

operations_named : (r : Rank) (calls : List Call) → AreNumbered 64 calls → AllByRecursion (IsNamedAtLast r calls) (operations_of r calls)
operations_named r calls numbered = turns_named r calls numbered (turns calls) (turns_of_from calls [] calls refl)

-- ---- items

-- the communicator of an item has its name after all calls
abbrev pub HasName : Rank → List Call → (comm : ℕ) → Name → Type 0
HasName r calls comm name = name_of r calls comm ≡ Some name

abbrev IsNamedItem : Rank → List Call → Item → Type 0
IsNamedItem r calls i = HasName r calls i.comm i.name

items_named : (r : Rank) (calls : List Call) (ops : List Operation) → AllByRecursion (IsNamedAtLast r calls) ops → AllByRecursion (IsNamedItem r calls) (filter_map (item_of r calls) ops)
items_named r calls [] all = tt
items_named r calls (op ∷ ops) all = at (item_of r calls op) refl (items_named r calls ops all.1)
  where
    at : (o : Option Item) → item_of r calls op ≡ o → AllByRecursion (IsNamedItem r calls) (filter_map (item_of r calls) ops) → AllByRecursion (IsNamedItem r calls) (cons_option o (filter_map (item_of r calls) ops))
    at None e rest = rest
    at (Some i) e rest = let is = item_is_for r calls op i e in ((ap (name_of r calls) is.comm_is ∙ all.0 ∙ ap Some (sym is.name_is)), rest)

abbrev pub IsNamedMsg : Rank → List Call → MsgItem → Type 0
IsNamedMsg r calls x = HasName r calls x.comm x.name

seen_named : (r : Rank) (calls : List Call) (xs : List MsgItem) → AllByRecursion (IsNamedItem r calls) (map item_seen xs) → AllByRecursion (IsNamedMsg r calls) xs
seen_named r calls [] all = tt
seen_named r calls (x ∷ xs) all = (all.0, seen_named r calls xs all.1)

-- the messages of a rank have the names that their communicators have after all calls
pub messages_named : (r : Rank) (calls : List Call) (xs : List MsgItem) → AreNumbered 64 calls → AreMessagesOf r calls xs → AllByRecursion (IsNamedMsg r calls) xs
messages_named r calls xs numbered are =
    seen_named r calls xs (subst (AllByRecursion (IsNamedItem r calls)) (sym are) (items_named r calls (operations_of r calls) (operations_named r calls numbered)))

-- ---- orderly

named_once : (r : Rank) (calls : List Call) (xs : List MsgItem) → AllByRecursion (IsNamedMsg r calls) xs → AreNamedOnce xs
named_once r calls xs named x y a b same_rank same_comm =
    same_some x.name y.name (sym (all_has (IsNamedMsg r calls) xs x named a) ∙ ap (name_of r calls) same_comm ∙ all_has (IsNamedMsg r calls) xs y named b)

placed : (r : Rank) (xs : List MsgItem) → AllByRecursion (IsMessageAt r.rank) xs → AllByRecursion IsPlaced xs
placed r [] all = tt
placed r (x ∷ xs) all = ((all.0.0 ∙ sym all.0.1), placed r xs all.1)

-- what a rank gives of its messages is what channels and nodes may be given
pub messages_orderly : (r : Rank) (calls : List Call) (xs : List MsgItem) → AreNumbered 64 calls → AreMessagesOf r calls xs → Orderly xs
messages_orderly r calls xs numbered are = record {
  placed = placed r xs (messages_at_rank r calls xs are);
  rising = messages_in_order r calls xs are;
  named = named_once r calls xs (messages_named r calls xs numbered are);
}
