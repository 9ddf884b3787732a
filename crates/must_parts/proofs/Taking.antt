-- What a call does to what is pending.
use Rattle.std.proofs.Common.{◌≡◌, ℕ, ◌+◌, ◌<◌, Bool, true, false, List, [], ◌∷◌, ◌++◌, length, take, reverse, Option, Some, None, refl, sym, ap, ◌∙◌, arith, append-nil}
use Rattle.std.specs.Prelude.{nat_lt, if◌then◌else◌, filter_map, sum_by, is_some, slice_get}
use Rattle.std.specs.List.{cons_option}
use Rattle.std.proofs.lemmas.List.{reverse-append, reverse-reverse}
use Rattle.std.proofs.lemmas.List.Sums.{sum_by-cons}
use Rattle.must_call.specs.declared.field.Side.{Side}
use Rattle.must_call.specs.declared.field.Side.TheVariants.{Send, Receive, Both}
use Rattle.must_call.specs.declared.field.Field.{Field}
use Rattle.must_call.specs.declared.field.Field.TheVariants as field
use Rattle.must_call.specs.declared.body.Body.{Body}
use Rattle.must_call.specs.declared.body.Body.TheVariants.{Frame, Point, Finish, Derive, Object, Collective, Persist, Started}
use Rattle.must_call.specs.declared.persist.Persist.TheVariants.{SendInit, SsendInit, RecvInit, Start, Startall}
use Rattle.must_call.specs.declared.call.Call.{Call}
use Rattle.must_call.specs.Values.{Value, Typed}
use Rattle.must_call.specs.Bodies.{inputs_of}
use Rattle.must_format.specs.declared.cause.Limit.TheVariants as limit
use Rattle.must_type.specs.Tree.{TypeTree}
use Rattle.must_pending.specs.declared.held.Held.{Held}
use Rattle.must_pending.specs.Clashes.{weight_of}
use Rattle.must_rules.specs.Rank.{Rank}
use Rattle.must_rules.specs.Facts.{Facts, Comm}
use Rattle.must_rules.specs.Known.{facts_of, clear_behind}
use Rattle.must_rules.specs.Types.{type_of}
use Rattle.must_rules.specs.Significant.{comm_of}
use Rattle.must_rules.specs.Breaches.{part_of, part_in}
use Rattle.must_rules.specs.UsableParts.{is_usable}
use Rattle.must_rules.specs.Making.{is_persistent_kind, persists, made_by, started_of}
use Rattle.must_rules.specs.Starts.{is_start_kind}
use Rattle.must_rules.specs.Parts.{Part, part_at, part_told, with_both, datatype_of, parts_of, numbered, part_weight}
use Rattle.must_rules.specs.PendingOperations.{Operation, parts_behind, request_in, begun_request, begun_with, started, started_from, started_below, started_at, begun, left_by, pending_by, pending, clash_of, pending_clash, operations_weight, most_pending, pending_weight, pending_limit_at}
use Rattle.must_parts.specs.Holding.{AreHeld}
use Rattle.must_parts.specs.Rows.{HaveNumbers}

-- ---- the numbers of parts

low_number : (sends : Bool) (s : Side) → part_of sends s < 2
low_number true Receive = omega arith
low_number true Send = omega arith
low_number true Both = omega arith
low_number false s = omega arith

low_both : (facts : Facts) (b : Body) (s : Side) (address : ℕ) (o : Option Comm) (p : Option TypeTree) (rest : List Part) → HaveNumbers rest → HaveNumbers (cons_option (with_both (part_at facts b s address) o p) rest)
low_both facts b s address None p rest h = h
low_both facts b s address (Some c) None rest h = h
low_both facts b s address (Some c) (Some t) rest h = (low_number _ s, h)

low_buffer : (u : Bool) (facts : Facts) (b : Body) (s : Side) (address : ℕ) (o : Option Comm) (p : Option TypeTree) (rest : List Part) → HaveNumbers rest → HaveNumbers (cons_option (if u then with_both (part_at facts b s address) o p else None) rest)
low_buffer true facts b s address o p rest h = low_both facts b s address o p rest h
low_buffer false facts b s address o p rest h = h

low_field : (facts : Facts) (types : ℕ → Option TypeTree) (b : Body) (f : Field) (v : Value f) (rest : List Part) → HaveNumbers rest → HaveNumbers (cons_option (part_told facts types b f v) rest)
low_field facts types b (field.Buffer s) address rest h = low_buffer (is_usable facts (λ n. is_some (types n)) b (part_in b (field.Buffer s))) facts b s address (comm_of facts b) (datatype_of types b s) rest h
low_field facts types b _ v rest h = h

low_fields : (facts : Facts) (types : ℕ → Option TypeTree) (b : Body) (ts : List Typed) → HaveNumbers (filter_map (λ t. part_told facts types b t.0 t.1) ts)
low_fields facts types b [] = tt
low_fields facts types b (t ∷ ts) = low_field facts types b t.0 t.1 (filter_map (λ (u : Typed). part_told facts types b u.0 u.1) ts) (low_fields facts types b ts)

pub low_parts : (r : Rank) (calls : List Call) (call : Call) → HaveNumbers (parts_behind r calls call)
unfolding parts_behind parts_of
low_parts r calls call = low_fields (facts_of r calls) (type_of (clear_behind r) calls) call.body (inputs_of call.body)

-- ---- calls that start nothing

pub starts_none : (b : Body) → is_persistent_kind b ≡ false → started_of b ≡ []
starts_none (Frame x) e = refl
starts_none (Point x) e = refl
starts_none (Finish x) e = refl
starts_none (Derive x) e = refl
starts_none (Object x) e = refl
starts_none (Collective x) e = refl
starts_none (Persist x) e = let bad : true ≡ false = e in absurd cc
starts_none (Started x) e = refl

started_none : (r : Rank) (calls : List Call) (call : Call) → is_persistent_kind call.body ≡ false → started r calls call ≡ []
started_none r calls call e = ap (started_from r calls call 0) (starts_none call.body e)

-- ---- what is pending

pub pending_more : (r : Rank) (calls : List Call) (call : Call) → pending r (calls ++ call ∷ []) ≡ left_by call (pending r calls) ++ begun r calls call
unfolding pending
pending_more r calls call =
    ap (pending_by r) (reverse-append calls (call ∷ []))
    ∙ ap (λ (cs : List Call). left_by call (pending_by r (reverse calls)) ++ begun r cs call) (reverse-reverse calls)

begun_plain : (r : Rank) (calls : List Call) (call : Call) → is_persistent_kind call.body ≡ false → begun r calls call ≡ begun_with (length calls) (request_in (made_by call)) (parts_behind r calls call)
unfolding persists
begun_plain r calls call e =
    ap (λ (l : List Operation). begun_with (length calls) (begun_request call) (parts_behind r calls call) ++ l) (started_none r calls call e)
    ∙ append-nil (begun_with (length calls) (begun_request call) (parts_behind r calls call))
    ∙ ap (λ (p : Bool). begun_with (length calls) (if p then None else request_in (made_by call)) (parts_behind r calls call)) e

pub pending_plain : (r : Rank) (calls : List Call) (call : Call) (k : ℕ) → length calls ≡ k → is_persistent_kind call.body ≡ false → left_by call (pending r calls) ++ begun_with k (request_in (made_by call)) (parts_behind r calls call) ≡ pending r (calls ++ call ∷ [])
pending_plain r calls call k len e =
    sym (pending_more r calls call ∙ ap (λ (l : List Operation). left_by call (pending r calls) ++ l) (begun_plain r calls call e)
    ∙ ap (λ (n : ℕ). left_by call (pending r calls) ++ begun_with n (request_in (made_by call)) (parts_behind r calls call)) len)

-- ---- weights

pub held_weight : (hs : List Held) (ops : List Operation) → AreHeld hs ops → weight_of hs ≡ operations_weight ops
held_weight [] [] m = refl
held_weight [] (o ∷ ops) m = absurd m
held_weight (h ∷ hs) [] m = absurd m
held_weight (h ∷ hs) (o ∷ ops) m =
    sum_by-cons (λ (k : Held). k.weight) h hs ∙ ap (λ n. n + weight_of hs) m.0.weight_is ∙ ap (λ n. part_weight o.part + n) (held_weight hs ops m.1) ∙ sym (sum_by-cons (λ (k : Operation). part_weight k.part) o ops)

-- the weights at a call that starts nothing
weight_plain : (r : Rank) (calls : List Call) (call : Call) (hs : List Held) (own : ℕ) → started_of call.body ≡ [] → AreHeld hs (pending r calls) → own ≡ sum_by part_weight (parts_behind r calls call) → weight_of hs + own ≡ pending_weight r calls call
weight_plain r calls call hs own e held w =
    let none : operations_weight (started r calls call) ≡ 0 = ap operations_weight (ap (started_from r calls call 0) e) in
    let all = held_weight hs (pending r calls) held in
    omega (arith, none, all, w)

pub limit_plain : (r : Rank) (calls : List Call) (call : Call) (hs : List Held) (size own : ℕ) (wide : Bool) → r.size ≡ size → started_of call.body ≡ [] → AreHeld hs (pending r calls) → own ≡ sum_by part_weight (parts_behind r calls call)
    → wide ≡ nat_lt (most_pending size) (weight_of hs + own) → pending_limit_at r calls call ≡ (if wide then Some limit.PendingWeight else None)
unfolding pending_limit_at
limit_plain r calls call hs size own wide s e held w is =
    ap (λ (b : Bool). if b then Some limit.PendingWeight else None)
    (ap (λ (n : ℕ). nat_lt (most_pending n) (pending_weight r calls call)) s ∙ ap (nat_lt (most_pending size)) (sym (weight_plain r calls call hs own e held w)) ∙ sym is)

-- ---- T3

pub clash_plain : (r : Rank) (calls : List Call) (call : Call) (rank part : ℕ) → r.rank ≡ rank → is_persistent_kind call.body ≡ false → clash_of rank (pending r calls) (numbered part (parts_behind r calls call)) ≡ pending_clash r calls call part
unfolding pending_clash
clash_plain r calls call rank part e plain =
    ap (λ (n : ℕ). clash_of n (pending r calls) (numbered part (parts_behind r calls call))) (sym e)
    ∙ ap (λ (b : Bool). if b then clash_of r.rank (pending r calls ++ started_below r calls call part) (started_at r calls call part (slice_get (started_of call.body) part)) else clash_of r.rank (pending r calls) (numbered part (parts_behind r calls call))) (sym plain)

-- ---- calls that make persistent requests

pub init_starts : (b : Body) → is_start_kind b ≡ false → started_of b ≡ []
init_starts (Frame x) e = refl
init_starts (Point x) e = refl
init_starts (Finish x) e = refl
init_starts (Derive x) e = refl
init_starts (Object x) e = refl
init_starts (Collective x) e = refl
init_starts (Persist (Start request)) e = let bad : true ≡ false = e in absurd cc
init_starts (Persist (Startall requests)) e = let bad : true ≡ false = e in absurd cc
init_starts (Persist (SendInit a b c d f g h)) e = refl
init_starts (Persist (SsendInit a b c d f g h)) e = refl
init_starts (Persist (RecvInit a b c d f g h)) e = refl
init_starts (Started x) e = refl

pub pending_init : (r : Rank) (calls : List Call) (call : Call) → is_persistent_kind call.body ≡ true → is_start_kind call.body ≡ false → left_by call (pending r calls) ≡ pending r (calls ++ call ∷ [])
unfolding persists
pending_init r calls call p s =
    let none : begun r calls call ≡ [] =
    ap (λ (q : Bool). begun_with (length calls) (if q then None else request_in (made_by call)) (parts_behind r calls call) ++ started r calls call) p
    ∙ ap (started_from r calls call 0) (init_starts call.body s) in
    sym (pending_more r calls call ∙ ap (λ (l : List Operation). left_by call (pending r calls) ++ l) none ∙ append-nil (left_by call (pending r calls)))

pub clash_init : (r : Rank) (calls : List Call) (call : Call) (part : ℕ) → is_persistent_kind call.body ≡ true → is_start_kind call.body ≡ false → pending_clash r calls call part ≡ None
unfolding pending_clash
clash_init r calls call part p s =
    ap (λ (b : Bool). if b then clash_of r.rank (pending r calls ++ started_below r calls call part) (started_at r calls call part (slice_get (started_of call.body) part)) else clash_of r.rank (pending r calls) (numbered part (parts_behind r calls call))) p
    ∙ ap (λ (l : List ℕ). clash_of r.rank (pending r calls ++ started_from r calls call 0 (take part l)) (started_at r calls call part (slice_get l part))) (init_starts call.body s)
