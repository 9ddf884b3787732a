-- One call more: calls that reach no limit, and what is pending behind them.
use Rattle.std.proofs.Common.{◌≡◌, ℕ, ◌+◌, ◌≤◌, Bool, true, false, cond, ◌&&◌, List, [], ◌∷◌, ◌++◌, length, map, Option, Some, None, refl, ap, sym, subst, ◌∙◌, arith, append-nil, reverse, le-ltb}
use Rattle.std.specs.Prelude.{not, sum_by, if◌then◌else◌}
use Rattle.std.specs.List.{AllByRecursion}
use Rattle.std.proofs.lemmas.List.{reverse-append, reverse-reverse}
use Rattle.std.proofs.lemmas.List.Sums.{sum_by-cons, sum_by-append}
use Rattle.must_call.specs.declared.class.Class.{Class}
use Rattle.must_call.specs.declared.class.Class.TheVariants.{Comm, Group, Datatype, Operation, Request}
use Rattle.must_call.specs.declared.call.Call.{Call}
use Rattle.must_call.specs.Handles.{ClassedHandle}
use Rattle.must_format.specs.declared.cause.Limit.{Limit}
use Rattle.must_format.specs.declared.cause.Limit.TheVariants as limit
use Rattle.must_type.specs.Tree.{TypeTree}
use Rattle.must_rules.specs.Rank.{Rank}
use Rattle.must_rules.specs.Making.{same_class, is_handle, made_by, makes, started_of}
use Rattle.must_rules.specs.Lives.{ends}
use Rattle.must_rules.specs.Known.{clear_behind}
use Rattle.must_rules.specs.KnownLaws.{type_more}
use Rattle.must_rules.specs.Communicators.{derived_of, usable_name}
use Rattle.must_rules.specs.Types.{clear_type, type_of, types_weight}
use Rattle.must_rules.specs.Parts.{Part, part_weight}
use Rattle.must_rules.specs.PendingOperations as ops
use Rattle.must_rules.specs.PendingOperations.{parts_behind, operation, request_in, begun_request, begun_with, started, started_from, begun, left_by, pending_by, pending, operations_weight, most_pending, pending_weight, pending_limit_at}
use Rattle.must_rules.specs.Limits.{made_limit, type_limit_at, is_comm, has_full_path, parent_name, is_too_deep, path_limit, or_limit, most_weight, IsWithin}
use Rattle.must_rules.specs.LimitLaws.{within_more}
use Rattle.must_within.proofs.Weights.{is_light, AreLight}

-- ---- the limits of handles

-- a call that makes nothing but a request
abbrev pub is_request : Option ClassedHandle → Bool
is_request None = true
is_request (Some h) = same_class h.0 Request

no_request : {P : Type 0} → false ≡ true → P
no_request e = absurd cc

request_is : (class : Class) → same_class class Request ≡ true → class ≡ Request
request_is Request e = refl
request_is Comm e = no_request e
request_is Group e = no_request e
request_is Datatype e = no_request e
request_is Operation e = no_request e

request_limit : (o : Option ClassedHandle) (most live : ℕ) (t : Option TypeTree) → is_request o ≡ true → made_limit o most live t ≡ None
request_limit None most live t e = refl
request_limit (Some h) most live t e = ap (λ (c : Class). made_limit (Some (c, h.1)) most live t) (request_is h.0 e)

request_comm : (o : Option ClassedHandle) (more : Bool) → is_request o ≡ true → is_comm o && more ≡ false
request_comm None more e = refl
request_comm (Some h) more e = ap (λ (c : Class). same_class c Comm && more) (request_is h.0 e)

request_type : (o : Option ClassedHandle) (number : ℕ) → is_request o ≡ true → is_handle Datatype number o ≡ false
request_type None number e = refl
request_type (Some h) number e = ap (λ (c : Class). is_handle Datatype number (Some (c, h.1))) (request_is h.0 e)

abbrev pub HasNoType : Rank → List Call → Call → Type 0
HasNoType r calls call = type_limit_at (most_weight r.size) (clear_behind r) calls call ≡ None

pub no_type : (r : Rank) (calls : List Call) (call : Call) → is_request (made_by call) ≡ true → HasNoType r calls call
unfolding type_limit_at
no_type r calls call e = request_limit (made_by call) (most_weight r.size) (types_weight (clear_behind r) calls) (clear_type (clear_behind r calls call) (type_of (clear_behind r) calls) call.body) e

pub not_deep : (r : Rank) (calls : List Call) (call : Call) → is_request (made_by call) ≡ true → is_too_deep r calls call ≡ false
unfolding is_too_deep
not_deep r calls call e = request_comm (made_by call) (has_full_path (parent_name (usable_name r calls) (derived_of call.body))) e

-- ---- light types

abbrev pub HasLight : Rank → List Call → Type 0
HasLight r calls = AreLight (type_of (clear_behind r) calls)

light_by : (m : Bool) (new old : Option TypeTree) → (m ≡ true → is_light new ≡ true) → is_light old ≡ true → is_light (cond m new old) ≡ true
light_by true new old n o = n refl
light_by false new old n o = o

-- the type that a call makes, if any, is light
pub light_more : (r : Rank) (calls : List Call) (call : Call) → HasLight r calls
    → ((handle : ℕ) → makes Datatype handle call ≡ true → is_light (clear_type (clear_behind r calls call) (type_of (clear_behind r) calls) call.body) ≡ true) → HasLight r (calls ++ call ∷ [])
light_more r calls call light new = λ handle.
    ap is_light (type_more (clear_behind r) calls call handle)
    ∙ light_by (makes Datatype handle call) (clear_type (clear_behind r calls call) (type_of (clear_behind r) calls) call.body) (type_of (clear_behind r) calls handle) (new handle) (light handle)

pub light_same : (r : Rank) (calls : List Call) (call : Call) → HasLight r calls → is_request (made_by call) ≡ true → HasLight r (calls ++ call ∷ [])
light_same r calls call light e = light_more r calls call light (λ handle m. no_request (sym (request_type (made_by call) handle e) ∙ m))

-- ---- the limit of pending operations

-- no run of 1024 ranks may have less
abbrev pub IsWide : Rank → Type 0
IsWide r = 65536 ≤ most_pending r.size

abbrev pub PartsWithin : Rank → List Call → Call → ℕ → Type 0
PartsWithin r calls call own = sum_by part_weight (parts_behind r calls call) ≤ own

started_none : (r : Rank) (calls : List Call) (call : Call) → started_of call.body ≡ [] → started r calls call ≡ []
started_none r calls call e = ap (started_from r calls call 0) e

not_pending : (r : Rank) (calls : List Call) (call : Call) (w own : ℕ) → IsWide r → w + own ≤ 65536 → operations_weight (pending r calls) ≤ w → started_of call.body ≡ [] → PartsWithin r calls call own
    → pending_limit_at r calls call ≡ None
unfolding pending_limit_at
not_pending r calls call w own wide few held starts parts =
    let none : operations_weight (started r calls call) ≡ 0 = ap operations_weight (started_none r calls call starts) in
    ap (λ (b : Bool). if b then Some limit.PendingWeight else None) (le-ltb (most_pending r.size) (pending_weight r calls call) (omega (arith, wide, few, held, parts, none)))

none_of : (p t : Option Limit) (d : Bool) → p ≡ None → t ≡ None → d ≡ false → or_limit p (or_limit t (path_limit d)) ≡ None
none_of p t d a b c = ap (λ (x : Option Limit). or_limit x (or_limit t (path_limit d))) a ∙ ap (λ (x : Option Limit). or_limit x (path_limit d)) b ∙ ap path_limit c

-- a call that reaches no limit behind calls that reach none
pub within_next : (r : Rank) (calls : List Call) (call : Call) (w own : ℕ) → IsWide r → w + own ≤ 65536 → operations_weight (pending r calls) ≤ w → started_of call.body ≡ [] → PartsWithin r calls call own
    → HasNoType r calls call → is_too_deep r calls call ≡ false → IsWithin r calls → IsWithin r (calls ++ call ∷ [])
within_next r calls call w own wide few held starts parts types deep within =
    within_more r calls call within (none_of (pending_limit_at r calls call) (type_limit_at (most_weight r.size) (clear_behind r) calls call) (is_too_deep r calls call) (not_pending r calls call w own wide few held starts parts) types deep)

-- ---- what is pending, one call more

pending_more : (r : Rank) (calls : List Call) (call : Call) → pending r (calls ++ call ∷ []) ≡ left_by call (pending r calls) ++ begun r calls call
unfolding pending
pending_more r calls call =
    ap (pending_by r) (reverse-append calls (call ∷ []))
    ∙ ap (λ (cs : List Call). left_by call (pending_by r (reverse calls)) ++ begun r cs call) (reverse-reverse calls)

weight_kept : (b : Bool) (o : ops.Operation) (kept all : List ops.Operation) → operations_weight kept ≤ operations_weight all → operations_weight (cond b (o ∷ kept) kept) ≤ operations_weight (o ∷ all)
weight_kept true o kept all le = omega (arith, le, sum_by-cons (λ (x : ops.Operation). part_weight x.part) o kept, sum_by-cons (λ (x : ops.Operation). part_weight x.part) o all)
weight_kept false o kept all le = omega (arith, le, sum_by-cons (λ (x : ops.Operation). part_weight x.part) o all)

-- what is left weighs no more
left_weight : (call : Call) (all : List ops.Operation) → operations_weight (left_by call all) ≤ operations_weight all
left_weight call [] = omega arith
left_weight call (o ∷ all) = weight_kept (not (ends false Request o.request call)) o (left_by call all) all (left_weight call all)

with_weight : (call request : ℕ) (parts : List Part) → operations_weight (map (operation call request) parts) ≡ sum_by part_weight parts
with_weight call request [] = refl
with_weight call request (p ∷ parts) =
    sum_by-cons (λ (x : ops.Operation). part_weight x.part) (operation call request p) (map (operation call request) parts)
    ∙ ap (λ (n : ℕ). part_weight p + n) (with_weight call request parts) ∙ sym (sum_by-cons part_weight p parts)

begun_weight : (call : ℕ) (o : Option ℕ) (parts : List Part) → operations_weight (begun_with call o parts) ≤ sum_by part_weight parts
begun_weight call None parts = omega arith
begun_weight call (Some request) parts = omega (arith, with_weight call request parts)

begun_plain : (r : Rank) (calls : List Call) (call : Call) → started_of call.body ≡ [] → begun r calls call ≡ begun_with (length calls) (begun_request call) (parts_behind r calls call)
begun_plain r calls call e =
    ap (λ (l : List ops.Operation). begun_with (length calls) (begun_request call) (parts_behind r calls call) ++ l) (started_none r calls call e)
    ∙ append-nil (begun_with (length calls) (begun_request call) (parts_behind r calls call))

-- one call more, which begins what its request says
pub pending_next : (r : Rank) (calls : List Call) (call : Call) → started_of call.body ≡ []
    → pending r (calls ++ call ∷ []) ≡ left_by call (pending r calls) ++ begun_with (length calls) (begun_request call) (parts_behind r calls call)
pending_next r calls call e = pending_more r calls call ∙ ap (λ (l : List ops.Operation). left_by call (pending r calls) ++ l) (begun_plain r calls call e)

pub weight_next : (r : Rank) (calls : List Call) (call : Call) (w own : ℕ) → started_of call.body ≡ [] → operations_weight (pending r calls) ≤ w → PartsWithin r calls call own → operations_weight (pending r (calls ++ call ∷ [])) ≤ w + own
weight_next r calls call w own starts held parts =
    let new = begun_with (length calls) (begun_request call) (parts_behind r calls call) in
    let is : operations_weight (pending r (calls ++ call ∷ [])) ≡ operations_weight (left_by call (pending r calls) ++ new) = ap operations_weight (pending_next r calls call starts) in
    let sum : operations_weight (left_by call (pending r calls) ++ new) ≡ operations_weight (left_by call (pending r calls)) + operations_weight new = sum_by-append (λ (x : ops.Operation). part_weight x.part) (left_by call (pending r calls)) new in
    omega (arith, held, parts, is, sum, left_weight call (pending r calls), begun_weight (length calls) (begun_request call) (parts_behind r calls call))

-- ---- operations that a later call completes

-- this call ends the request of each
abbrev pub AreEnded : Call → List ops.Operation → Type 0
AreEnded wait all = AllByRecursion (λ (o : ops.Operation). ends false Request o.request wait ≡ true) all

abbrev pub IsEnded : Call → Option ℕ → Type 0
IsEnded wait None = Unit {0}
IsEnded wait (Some request) = ends false Request request wait ≡ true

ended_kept : (b : Bool) (wait : Call) (o : ops.Operation) (kept : List ops.Operation) → ends false Request o.request wait ≡ true → AreEnded wait kept → AreEnded wait (cond b (o ∷ kept) kept)
ended_kept true wait o kept e all = (e, all)
ended_kept false wait o kept e all = all

ended_left : (wait call : Call) (all : List ops.Operation) → AreEnded wait all → AreEnded wait (left_by call all)
ended_left wait call [] e = tt
ended_left wait call (o ∷ all) e = ended_kept (not (ends false Request o.request call)) wait o (left_by call all) e.0 (ended_left wait call all e.1)

ended_append : (wait : Call) (a b : List ops.Operation) → AreEnded wait a → AreEnded wait b → AreEnded wait (a ++ b)
ended_append wait [] b e f = f
ended_append wait (o ∷ a) b e f = (e.0, ended_append wait a b e.1 f)

ended_with : (wait : Call) (call request : ℕ) (parts : List Part) → ends false Request request wait ≡ true → AreEnded wait (map (operation call request) parts)
ended_with wait call request [] e = tt
ended_with wait call request (p ∷ parts) e = (e, ended_with wait call request parts e)

ended_begun : (wait : Call) (call : ℕ) (o : Option ℕ) (parts : List Part) → IsEnded wait o → AreEnded wait (begun_with call o parts)
ended_begun wait call None parts e = tt
ended_begun wait call (Some request) parts e = ended_with wait call request parts e

pub ended_next : (r : Rank) (calls : List Call) (call wait : Call) → started_of call.body ≡ [] → IsEnded wait (begun_request call) → AreEnded wait (pending r calls) → AreEnded wait (pending r (calls ++ call ∷ []))
ended_next r calls call wait starts e all =
    subst (AreEnded wait) (sym (pending_next r calls call starts))
    (ended_append wait (left_by call (pending r calls)) (begun_with (length calls) (begun_request call) (parts_behind r calls call)) (ended_left wait call (pending r calls) all) (ended_begun wait (length calls) (begun_request call) (parts_behind r calls call) e))

none_kept : (b : Bool) (o : ops.Operation) (kept : List ops.Operation) → b ≡ true → kept ≡ [] → cond (not b) (o ∷ kept) kept ≡ []
none_kept true o kept e f = f
none_kept false o kept e f = no_request e

-- it leaves none
pub none_left : (wait : Call) (all : List ops.Operation) → AreEnded wait all → left_by wait all ≡ []
none_left wait [] e = refl
none_left wait (o ∷ all) e = none_kept (ends false Request o.request wait) o (left_by wait all) e.0 (none_left wait all e.1)
