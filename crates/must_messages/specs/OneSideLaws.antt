-- A call that makes a request begins one operation at the most.
use Rattle.std.proofs.Common.{◌≡◌, ℕ, ℤ, Bool, true, false, cond, ◌&&◌, ◌||◌, List, [], ◌∷◌, Option, Some, None, refl, ap, sym, ◌∙◌, inl, inr}
use Rattle.std.specs.Prelude.{◌⊎◌, option_map}
use Rattle.std.specs.List.{list_any}
use Rattle.must_call.specs.declared.class.Class.{Class}
use Rattle.must_call.specs.declared.class.Class.TheVariants as class
use Rattle.must_call.specs.declared.kind.Kind.{Kind}
use Rattle.must_call.specs.declared.kind.Kind.TheVariants as kind
use Rattle.must_call.specs.declared.field.Side.{Side}
use Rattle.must_call.specs.declared.field.Side.TheVariants.{Send, Receive}
use Rattle.must_call.specs.declared.field.Int.TheVariants as int
use Rattle.must_call.specs.declared.field.Field.{Field}
use Rattle.must_call.specs.declared.field.Field.TheVariants.{Buffer, I32}
use Rattle.must_call.specs.declared.field.Output.{Output}
use Rattle.must_call.specs.declared.field.Output.TheVariants as output
use Rattle.must_call.specs.declared.body.Body.{Body}
use Rattle.must_call.specs.declared.call.Call.{Call}
use Rattle.must_call.specs.Fields as fields
use Rattle.must_call.specs.Values.{Value, Values, Outcome, typed, given}
use Rattle.must_call.specs.Kinds.{kind_of}
use Rattle.must_call.specs.Bodies.{inputs_of, given_of}
use Rattle.must_call.specs.BodyLaws.{again, inputs_of-body_of, given_of-body_of}
use Rattle.must_call.specs.Handles.{ClassedHandle}
use Rattle.must_call.specs.Made.{handle_given}
use Rattle.must_rules.specs.Rank.{Rank}
use Rattle.must_rules.specs.Making.{made_by, persists}
use Rattle.must_rules.specs.MakingLaws.{made_is}
use Rattle.must_rules.specs.Significant.{or_else, first_told}
use Rattle.must_rules.specs.Breaches.{part_in}
use Rattle.must_rules.specs.UsableParts.{peer_in}
use Rattle.must_rules.specs.Communicators.{comm_named}
use Rattle.must_rules.specs.Parts.{numbered}
use Rattle.must_rules.specs.PendingOperations.{parts_behind, request_in, begun_request}
use Rattle.must_messages.specs.PlainLaws.{no_some, same_some}
use Rattle.must_rules.specs.Operations.{Envelope, Message, message, action_of, envelope_of, message_of, probes, probed, message_probed, waits_for_probe, message_at}
use Rattle.must_messages.specs.RiseLaws.{both_first, on_peer}
use Rattle.must_messages.specs.CallNeeds.{answers_request}

-- ---- the table of the kinds

abbrev pub is_dest : Field → Bool
is_dest (I32 int.Dest) = true
is_dest _ = false

abbrev pub is_source : Field → Bool
is_source (I32 int.Source) = true
is_source _ = false

-- a kind that sends and receives makes no request
one_sided : (k : Kind) → ((list_any is_dest (fields.inputs k) && list_any is_source (fields.inputs k)) && answers_request (fields.output k)) ≡ false
one_sided kind.Init = refl
one_sided _ = refl

-- ---- fields

dest_told : (f : Field) (v : Value f) → (peer_in Send f v ≡ None) ⊎ (is_dest f ≡ true)
dest_told (I32 int.Dest) v = inr refl
dest_told (I32 int.Source) v = inl refl
dest_told _ v = inl refl

source_told : (f : Field) (v : Value f) → (peer_in Receive f v ≡ None) ⊎ (is_source f ≡ true)
source_told (I32 int.Source) v = inr refl
source_told (I32 int.Dest) v = inl refl
source_told _ v = inl refl

first_of_two : (b c : Bool) → b ≡ true → (b || c) ≡ true
first_of_two true c f = refl
first_of_two false c f = let no : false ≡ true = f in absurd cc

second_of_two : (b c : Bool) → c ≡ true → (b || c) ≡ true
second_of_two true c f = refl
second_of_two false c f = f

any_told : (test : Field → Bool) (s : Side) → ((f : Field) (v : Value f) → (peer_in s f v ≡ None) ⊎ (test f ≡ true)) → (fs : List Field) (v : Values fs) (z : ℤ)
    → first_told (peer_in s) (typed fs v) ≡ Some z → list_any test fs ≡ true
any_told test s told [] v z e = no_some z e
any_told test s told (f ∷ fs) v z e = at (told f v.0) (λ h. any_told test s told fs v.1 z h)
  where
    at : (peer_in s f v.0 ≡ None) ⊎ (test f ≡ true) → (first_told (peer_in s) (typed fs v.1) ≡ Some z → list_any test fs ≡ true) → (test f || list_any test fs) ≡ true
    at (inl none) rest = second_of_two (test f) (list_any test fs) (rest (ap (λ (o : Option ℤ). or_else o (first_told (peer_in s) (typed fs v.1))) (sym none) ∙ e))
    at (inr is) rest = first_of_two (test f) (list_any test fs) is

body_told : (test : Field → Bool) (s : Side) → ((f : Field) (v : Value f) → (peer_in s f v ≡ None) ⊎ (test f ≡ true)) → (b : Body) (z : ℤ)
    → first_told (peer_in s) (inputs_of b) ≡ Some z → list_any test (fields.inputs (kind_of b)) ≡ true
body_told test s told b z e =
    let is = again b in
    any_told test s told (fields.inputs (kind_of b)) is.0 z
    (ap (first_told (peer_in s)) (sym (inputs_of-body_of (kind_of b) is.0 is.1) ∙ ap inputs_of is.2) ∙ e)

-- ---- the request

-- a handle of a class
abbrev handle : Class → ℕ → Option ClassedHandle
handle c h = Some (c, h)

same_class : (c d : Class) (h q : ℕ) → handle c h ≡ handle d q → c ≡ d
same_class c d h q e = ap (λ (x : ClassedHandle). x.0) (same_some (c, h) (d, q) e)

comm_request : {P : Type 0} (h q : ℕ) → handle class.Comm h ≡ handle class.Request q → P
comm_request h q e = let no : class.Comm ≡ class.Request = same_class class.Comm class.Request h q e in absurd cc

request_answered : (o : Option Output) (x : Outcome o) (q : ℕ) → handle_given (given o x) ≡ Some (class.Request, q) → answers_request o ≡ true
request_answered None x q e = no_some _ e
request_answered (Some (output.Made c)) None q e = no_some _ e
request_answered (Some (output.Made c)) (Some h) q e = ap (λ (d : Class). answers_request (Some (output.Made d))) (same_class c class.Request h q e)
request_answered (Some output.MadeComm) None q e = no_some _ e
request_answered (Some output.MadeComm) (Some m) q e = comm_request _ q e
request_answered (Some output.Status) None q e = no_some _ e
request_answered (Some output.Status) (Some s) q e = no_some _ e
request_answered (Some output.MaybeStatus) None q e = no_some _ e
request_answered (Some output.MaybeStatus) (Some s) q e = no_some _ e
request_answered (Some output.Statuses) None q e = no_some _ e
request_answered (Some output.Statuses) (Some s) q e = no_some _ e
request_answered (Some output.MaybeStatuses) None q e = no_some _ e
request_answered (Some output.MaybeStatuses) (Some s) q e = no_some _ e
request_answered (Some output.Choice) None q e = no_some _ e
request_answered (Some output.Choice) (Some s) q e = no_some _ e
request_answered (Some output.MaybeChoice) None q e = no_some _ e
request_answered (Some output.MaybeChoice) (Some s) q e = no_some _ e
request_answered (Some output.Completions) None q e = no_some _ e
request_answered (Some output.Completions) (Some s) q e = no_some _ e

-- the request that a call makes for what it begins
pub begun_made : (call : Call) (q : ℕ) → begun_request call ≡ Some q → (made_by call ≡ Some (class.Request, q)) × (persists call ≡ false)
begun_made call q e = at (persists call) refl e
  where
    made : (o : Option ClassedHandle) → request_in o ≡ Some q → o ≡ Some (class.Request, q)
    made None f = no_some q f
    made (Some (class.Request, h)) f = ap (λ (n : ℕ). Some (class.Request, n)) (let same : h ≡ q = cc in same)
    made (Some (class.Comm, h)) f = no_some q f
    made (Some (class.Group, h)) f = no_some q f
    made (Some (class.Datatype, h)) f = no_some q f
    made (Some (class.Operation, h)) f = no_some q f

    at : (b : Bool) → persists call ≡ b → cond b None (request_in (made_by call)) ≡ Some q → (made_by call ≡ Some (class.Request, q)) × (persists call ≡ false)
    at true p f = no_some q f
    at false p f = (made (made_by call) f, p)

begun_answers : (call : Call) (q : ℕ) → made_by call ≡ Some (class.Request, q) → answers_request (fields.output (kind_of call.body)) ≡ true
begun_answers call q e =
    let is = again call.body in
    request_answered (fields.output (kind_of call.body)) is.1 q
    (ap handle_given (sym (given_of-body_of (kind_of call.body) is.0 is.1) ∙ ap given_of is.2) ∙ made_is call (class.Request, q) e)

-- ---- sides

sent_peer : (r : Rank) (earlier : List Call) (call : Call) (m : Message) → message_of r earlier call Send ≡ Some m → (z : ℤ) × (first_told (peer_in Send) (inputs_of call.body) ≡ Some z)
unfolding message_of
sent_peer r earlier call m e =
    let envelope = both_first (message (action_of (kind_of call.body) Send)) (envelope_of r earlier call.body Send) (numbered (part_in call.body (Buffer Send)) (parts_behind r earlier call)) m e in
    on_peer r earlier call.body Send (comm_named call.body) envelope.0 envelope.1

taken_peer : (r : Rank) (earlier : List Call) (call : Call) (m : Message) → message_of r earlier call Receive ≡ Some m → (z : ℤ) × (first_told (peer_in Receive) (inputs_of call.body) ≡ Some z)
unfolding message_of
taken_peer r earlier call m e =
    let envelope = both_first (message (action_of (kind_of call.body) Receive)) (envelope_of r earlier call.body Receive) (numbered (part_in call.body (Buffer Receive)) (parts_behind r earlier call)) m e in
    on_peer r earlier call.body Receive (comm_named call.body) envelope.0 envelope.1

probed_peer : (r : Rank) (earlier : List Call) (call : Call) (m : Message) → message_probed r earlier call ≡ Some m → (z : ℤ) × (first_told (peer_in Receive) (inputs_of call.body) ≡ Some z)
unfolding message_probed
probed_peer r earlier call m e = at (probes r earlier call) e
  where
    by : (o : Option Envelope) → envelope_of r earlier call.body Receive ≡ o → option_map probed o ≡ Some m → (z : ℤ) × (first_told (peer_in Receive) (inputs_of call.body) ≡ Some z)
    by None same f = no_some m f
    by (Some envelope) same f = on_peer r earlier call.body Receive (comm_named call.body) envelope same

    at : (b : Bool) → cond b (option_map probed (envelope_of r earlier call.body Receive)) None ≡ Some m → (z : ℤ) × (first_told (peer_in Receive) (inputs_of call.body) ≡ Some z)
    at true f = by (envelope_of r earlier call.body Receive) refl f
    at false f = no_some m f

received_peer : (r : Rank) (earlier : List Call) (call : Call) (m : Message) → message_at r earlier call Receive ≡ Some m → (z : ℤ) × (first_told (peer_in Receive) (inputs_of call.body) ≡ Some z)
received_peer r earlier call m e = at (message_of r earlier call Receive) refl (waits_for_probe (kind_of call.body)) e
  where
    at : (o : Option Message) → message_of r earlier call Receive ≡ o → (b : Bool) → or_else o (cond b (message_probed r earlier call) None) ≡ Some m → (z : ℤ) × (first_told (peer_in Receive) (inputs_of call.body) ≡ Some z)
    at (Some n) same b f = taken_peer r earlier call n same
    at None same true f = probed_peer r earlier call m f
    at None same false f = no_some m f

all_three : (a b c : Bool) {P : Type 0} → ((a && b) && c) ≡ false → a ≡ true → b ≡ true → c ≡ true → P
all_three true true true e f g h = let no : true ≡ false = e in absurd cc
all_three false b c e f g h = let no : false ≡ true = f in absurd cc
all_three true false c e f g h = let no : false ≡ true = g in absurd cc
all_three true true false e f g h = let no : false ≡ true = h in absurd cc

-- no call begins both a send and a receive with one request
pub not_both : (r : Rank) (earlier : List Call) (call : Call) (q : ℕ) {P : Type 0} (m n : Message) → made_by call ≡ Some (class.Request, q)
    → message_at r earlier call Send ≡ Some m → message_at r earlier call Receive ≡ Some n → P
not_both r earlier call q m n made sent received =
    let to = sent_peer r earlier call m sent in
    let from = received_peer r earlier call n received in
    all_three (list_any is_dest (fields.inputs (kind_of call.body))) (list_any is_source (fields.inputs (kind_of call.body))) (answers_request (fields.output (kind_of call.body)))
    (one_sided (kind_of call.body)) (body_told is_dest Send dest_told call.body to.0 to.1) (body_told is_source Receive source_told call.body from.0 from.1) (begun_answers call q made)
