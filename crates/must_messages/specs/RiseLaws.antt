-- The operations of a rank rise by call and part.
use Rattle.std.proofs.Common.{◌≡◌, ℕ, suc, ◌<◌, ◌≤◌, ℤ, Bool, true, false, ◌||◌, List, [], ◌∷◌, ◌++◌, length, Option, Some, None, refl, ap, sym, ◌∙◌, inl, inr, arith, length-append}
use Rattle.std.specs.Prelude.{◌⊎◌, option_map, flat_map, if◌then◌else◌}
use Rattle.std.specs.List.{AllByRecursion, cons_option}
use Rattle.must_call.specs.declared.call.Call.{Call}
use Rattle.must_call.specs.declared.body.Body.{Body}
use Rattle.must_call.specs.declared.field.Side.{Side}
use Rattle.must_call.specs.declared.field.Side.TheVariants.{Send, Receive}
use Rattle.must_call.specs.declared.field.Int.TheVariants as int
use Rattle.must_call.specs.declared.field.Field.{Field}
use Rattle.must_call.specs.declared.field.Field.TheVariants.{Buffer, I32}
use Rattle.must_call.specs.Values.{Value, Typed}
use Rattle.must_call.specs.Kinds.{kind_of}
use Rattle.must_call.specs.Bodies.{inputs_of}
use Rattle.must_group.specs.Names.{Name}
use Rattle.must_rules.specs.Rank.{Rank}
use Rattle.must_rules.specs.Making.{is_persistent_kind, started_of}
use Rattle.must_rules.specs.Significant.{or_else, first_told, side, is_send}
use Rattle.must_rules.specs.Breaches.{sends, part_of, part_in}
use Rattle.must_rules.specs.UsableParts.{peer_in}
use Rattle.must_rules.specs.Communicators.{comm_named, usable_name}
use Rattle.must_rules.specs.Parts.{with_both, numbered}
use Rattle.must_rules.specs.PendingOperations.{begun_request, parts_behind}
use Rattle.must_messages.specs.PlainLaws.{no_some}
use Rattle.must_rules.specs.Turns.{Turn, turns_from}
use Rattle.must_messages.specs.TurnLaws.{all_weaker}
use Rattle.must_rules.specs.Operations.{Operation, operation, Envelope, Message, message, action_of, envelope_by, envelope_on, envelope_of, tag_in, message_of, message_at, message_started, begun_here, with_started, started_from, operations_at, operations_in_turn, operations_of}
use Rattle.must_messages.specs.OperationLaws.{IsBegunBy, begun_by, all_join}

-- by call, then by part
abbrev pub IsBefore : Operation → Operation → Type 0
IsBefore x y = (x.call < y.call) ⊎ ((x.call ≡ y.call) × (x.part < y.part))

abbrev pub Rise : List Operation → Type 0
Rise [] = Unit {0}
Rise (op ∷ ops) = AllByRecursion (IsBefore op) ops × Rise ops

-- each of one list stands before each of the other
abbrev pub AreBefore : List Operation → List Operation → Type 0
AreBefore ops others = AllByRecursion (λ op. AllByRecursion (IsBefore op) others) ops

rise_join : (ops others : List Operation) → Rise ops → Rise others → AreBefore ops others → Rise (ops ++ others)
rise_join [] others a b before = b
rise_join (op ∷ ops) others a b before = (all_join (IsBefore op) ops others a.0 before.0, rise_join ops others a.1 b before.1)

-- ---- what a call starts

-- an operation of this call, of this part or a later one
abbrev pub IsFrom : (call part : ℕ) → Operation → Type 0
IsFrom call part op = (op.call ≡ call) × (part ≤ op.part)

from_next : (call part : ℕ) (ops : List Operation) → AllByRecursion (IsFrom call (suc part)) ops → AllByRecursion (IsFrom call part) ops
from_next call part ops all = all_weaker (IsFrom call (suc part)) (IsFrom call part) (λ op h. (h.0, omega (arith, h.1))) ops all

with_from : (call index request : ℕ) (m : Option Message) (ops : List Operation) → AllByRecursion (IsFrom call (suc index)) ops → AllByRecursion (IsFrom call index) (with_started call index request m ops)
with_from call index request None ops all = from_next call index ops all
with_from call index request (Some m) ops all = ((refl, omega arith), from_next call index ops all)

pub started_parts : (r : Rank) (earlier : List Call) (call : Call) (index : ℕ) (requests : List ℕ) → AllByRecursion (IsFrom (length earlier) index) (started_from r earlier call index requests)
started_parts r earlier call index [] = tt
started_parts r earlier call index (request ∷ requests) =
    with_from (length earlier) index request (message_started r earlier call index request) (started_from r earlier call (suc index) requests) (started_parts r earlier call (suc index) requests)

with_rise : (call index request : ℕ) (m : Option Message) (ops : List Operation) → AllByRecursion (IsFrom call (suc index)) ops → Rise ops → Rise (with_started call index request m ops)
with_rise call index request None ops all rise = rise
with_rise call index request (Some m) ops all rise =
    (all_weaker (IsFrom call (suc index)) (IsBefore (operation call index (Some request) m)) (λ op h. inr (sym h.0, omega (arith, h.1))) ops all, rise)

started_rise : (r : Rank) (earlier : List Call) (call : Call) (index : ℕ) (requests : List ℕ) → Rise (started_from r earlier call index requests)
started_rise r earlier call index [] = tt
started_rise r earlier call index (request ∷ requests) =
    with_rise (length earlier) index request (message_started r earlier call index request) (started_from r earlier call (suc index) requests)
    (started_parts r earlier call (suc index) requests) (started_rise r earlier call (suc index) requests)

-- ---- the sides of a call

pub both_first : {X Y Z : Type 0} (f : X → Y → Z) (x : Option X) (y : Option Y) (z : Z) → with_both f x y ≡ Some z → (v : X) × (x ≡ Some v)
both_first f None y z e = no_some z e
both_first f (Some x) y z e = (x, refl)

named_peer : (comm : ℕ) (name : Option Name) (peer tag : Option ℤ) (e : Envelope) → envelope_by comm name peer tag ≡ Some e → (z : ℤ) × (peer ≡ Some z)
named_peer comm None peer tag e h = no_some e h
named_peer comm (Some name) None tag e h = no_some e h
named_peer comm (Some name) (Some peer) tag e h = (peer, refl)

pub on_peer : (r : Rank) (before : List Call) (b : Body) (s : Side) (comm : Option ℕ) (e : Envelope) → envelope_on r before b s comm ≡ Some e → (z : ℤ) × (first_told (peer_in s) (inputs_of b) ≡ Some z)
on_peer r before b s None e h = no_some e h
on_peer r before b s (Some comm) e h = named_peer comm (usable_name r before comm) (first_told (peer_in s) (inputs_of b)) (first_told (tag_in s) (inputs_of b)) e h

-- a field that names a destination is of what is sent
dest_sends : (f : Field) (v : Value f) → (peer_in Send f v ≡ None) ⊎ (is_send (side f) ≡ true)
dest_sends (I32 int.Dest) v = inr refl
dest_sends (I32 int.Source) v = inl refl
dest_sends _ v = inl refl

told_sends : (ts : List Typed) (z : ℤ) → first_told (peer_in Send) ts ≡ Some z → sends ts ≡ true
told_sends [] z e = no_some z e
told_sends (t ∷ ts) z e = at (dest_sends t.0 t.1) (λ f. told_sends ts z f)
  where
    here : (b c : Bool) → b ≡ true → (b || c) ≡ true
    here true c f = refl
    here false c f = let no : false ≡ true = f in absurd cc

    there : (b c : Bool) → c ≡ true → (b || c) ≡ true
    there true c f = refl
    there false c f = f

    at : (peer_in Send t.0 t.1 ≡ None) ⊎ (is_send (side t.0) ≡ true) → (first_told (peer_in Send) ts ≡ Some z → sends ts ≡ true) → (is_send (side t.0) || sends ts) ≡ true
    at (inl none) rest = there (is_send (side t.0)) (sends ts) (rest (ap (λ (o : Option ℤ). or_else o (first_told (peer_in Send) ts)) (sym none) ∙ e))
    at (inr is) rest = here (is_send (side t.0)) (sends ts) is

message_sends : (r : Rank) (earlier : List Call) (call : Call) (m : Message) → message_of r earlier call Send ≡ Some m → sends (inputs_of call.body) ≡ true
unfolding message_of
message_sends r earlier call m e =
    let envelope = both_first (message (action_of (kind_of call.body) Send)) (envelope_of r earlier call.body Send) (numbered (part_in call.body (Buffer Send)) (parts_behind r earlier call)) m e in
    let peer = on_peer r earlier call.body Send (comm_named call.body) envelope.0 envelope.1 in
    told_sends (inputs_of call.body) peer.0 peer.1

part_sent : (sending : Bool) → part_of sending Send ≡ 0
part_sent true = refl
part_sent false = refl

-- what is received comes behind what is sent
parts_apart : (call : Call) → sends (inputs_of call.body) ≡ true → part_in call.body (Buffer Send) < part_in call.body (Buffer Receive)
parts_apart call e =
    let sent = part_sent (sends (inputs_of call.body)) in
    let received : part_of (sends (inputs_of call.body)) Receive ≡ 1 = ap (λ (b : Bool). part_of b Receive) e in
    omega (arith, sent, received)

two_rise : (call p q : ℕ) (request : Option ℕ) (sent received : Option Message) → ((m : Message) → sent ≡ Some m → p < q)
    → Rise (cons_option (option_map (operation call p request) sent) (cons_option (option_map (operation call q request) received) []))
two_rise call p q request None None apart = tt
two_rise call p q request None (Some n) apart = (tt, tt)
two_rise call p q request (Some m) None apart = (tt, tt)
two_rise call p q request (Some m) (Some n) apart = ((inr (refl, apart m refl), tt), (tt, tt))

-- ---- a call

either_rise : (starts : Bool) (ops others : List Operation) → Rise ops → Rise others → Rise (if starts then ops else others)
either_rise true ops others a b = a
either_rise false ops others a b = b

pub call_rise : (r : Rank) (earlier : List Call) (call : Call) → Rise (operations_at r earlier call)
unfolding operations_at
call_rise r earlier call =
    either_rise (is_persistent_kind call.body) (started_from r earlier call 0 (started_of call.body)) (begun_here r earlier call)
    (started_rise r earlier call 0 (started_of call.body))
    (two_rise (length earlier) (part_in call.body (Buffer Send)) (part_in call.body (Buffer Receive)) (begun_request call) (message_at r earlier call Send) (message_at r earlier call Receive)
    (λ m e. parts_apart call (message_sends r earlier call m e)))

-- ---- a rank

-- at least so many calls stand before it
abbrev IsTurnFrom : ℕ → Turn → Type 0
IsTurnFrom n t = n ≤ length t.earlier

turns_above : (n : ℕ) (earlier calls : List Call) → n ≤ length earlier → AllByRecursion (IsTurnFrom n) (turns_from earlier calls)
turns_above n earlier [] h = tt
turns_above n earlier (c ∷ calls) h = (h, turns_above n (earlier ++ c ∷ []) calls (omega (arith, h, length-append earlier (c ∷ []))))

-- an operation of this call or of a later one
abbrev IsBegunFrom : ℕ → Operation → Type 0
IsBegunFrom n op = n ≤ op.call

begun_above : (r : Rank) (n : ℕ) (ts : List Turn) → AllByRecursion (IsTurnFrom n) ts → AllByRecursion (IsBegunFrom n) (flat_map (operations_in_turn r) ts)
begun_above r n [] above = tt
begun_above r n (t ∷ ts) above =
    all_join (IsBegunFrom n) (operations_at r t.earlier t.call) (flat_map (operations_in_turn r) ts)
    (all_weaker (IsBegunBy (length t.earlier)) (IsBegunFrom n) (λ op e. omega (arith, above.0, e)) (operations_at r t.earlier t.call) (begun_by r t.earlier t.call))
    (begun_above r n ts above.1)

calls_apart : (n : ℕ) (ops others : List Operation) → AllByRecursion (IsBegunBy n) ops → AllByRecursion (IsBegunFrom (suc n)) others → AreBefore ops others
calls_apart n [] others a b = tt
calls_apart n (op ∷ ops) others a b =
    (all_weaker (IsBegunFrom (suc n)) (IsBefore op) (λ other h. inl (omega (arith, h, a.0))) others b, calls_apart n ops others a.1 b)

turns_rise : (r : Rank) (earlier calls : List Call) → Rise (flat_map (operations_in_turn r) (turns_from earlier calls))
turns_rise r earlier [] = tt
turns_rise r earlier (c ∷ calls) =
    rise_join (operations_at r earlier c) (flat_map (operations_in_turn r) (turns_from (earlier ++ c ∷ []) calls))
    (call_rise r earlier c) (turns_rise r (earlier ++ c ∷ []) calls)
    (calls_apart (length earlier) (operations_at r earlier c) (flat_map (operations_in_turn r) (turns_from (earlier ++ c ∷ []) calls))
    (begun_by r earlier c)
    (begun_above r (suc (length earlier)) (turns_from (earlier ++ c ∷ []) calls)
    (turns_above (suc (length earlier)) (earlier ++ c ∷ []) calls (omega (arith, length-append earlier (c ∷ []))))))

-- the operations of a rank come in order of call and part
pub operations_rise : (r : Rank) (calls : List Call) → Rise (operations_of r calls)
operations_rise r calls = turns_rise r [] calls
