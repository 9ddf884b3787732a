-- The calls of a generated run, one by one.
use Rattle.std.proofs.Common.{◌≡◌, ℕ, ◌+◌, ◌≤◌, ◌==◌, pos, ℤ, Bool, true, false, cond, ◌||◌, List, [], ◌∷◌, Option, Some, None, refl, ap, ◌∙◌, arith, eq-eqb, le-ltb}
use Rattle.std.specs.Prelude.{nat_lt, nat_le, sum_by}
use Rattle.std.proofs.lemmas.List.Sums.{sum_by-cons}
use Rattle.must_call.specs.declared.class.Class.TheVariants.{Datatype, Request}
use Rattle.must_call.specs.declared.field.Side.TheVariants.{Send, Receive, Both}
use Rattle.must_call.specs.declared.body.Body.TheVariants.{Frame, Derive, Object}
use Rattle.must_call.specs.declared.frame.Frame.TheVariants.{Init, Finalize}
use Rattle.must_call.specs.declared.derive.Derive.TheVariants.{TypeCommit, TypeFree}
use Rattle.must_call.specs.declared.object.Object.TheVariants.{CommFree}
use Rattle.must_call.specs.declared.call.Call.{Call}
use Rattle.must_call.specs.Bodies.{inputs_of}
use Rattle.must_call.specs.Handles.{ClassedHandle}
use Rattle.must_format.specs.declared.cause.Limit.TheVariants as limit
use Rattle.must_type.specs.Maps.{lower, upper, extent, block}
use Rattle.must_type.specs.Tree.{TypeTree, weight}
use Rattle.must_type.specs.Table.{message_weight}
use Rattle.must_drill.specs.Calls.{done, split, pair, receive, send, requests_from, wait, sum}
use Rattle.must_rules.specs.Rank.{Rank}
use Rattle.must_rules.specs.Making.{is_in, made_by, makes, persists, frees, completes}
use Rattle.must_rules.specs.Lives.{is_predefined, life, made_count, ends}
use Rattle.must_rules.specs.Facts.{Facts}
use Rattle.must_rules.specs.Known.{facts_of, clear_behind}
use Rattle.must_rules.specs.Communicators.{name_of}
use Rattle.must_rules.specs.Types.{type_made, clear_type, type_of, types_weight}
use Rattle.must_rules.specs.Parts.{Block, counted, parts_of}
use Rattle.must_rules.specs.PendingOperations.{parts_behind, request_in, begun_request}
use Rattle.must_rules.specs.Limits.{is_within_reach, type_limit, type_limit_at, most_weight, is_too_deep}
use Rattle.must_within.proofs.Weights.{is_light, IsBounded, message_few, fields_few}
use Rattle.must_within.proofs.Steps.{is_request, HasNoType, HasLight, PartsWithin, IsEnded}

-- the communicator and the type that a rank makes
abbrev pub the_half : ℕ
the_half = 64

abbrev pub the_pair : ℕ
the_pair = 65

-- ---- calls with no buffers

pub init_parts : (r : Rank) (calls : List Call) → parts_behind r calls (done (Frame Init)) ≡ []
unfolding parts_behind parts_of
init_parts r calls = refl

pub finalize_parts : (r : Rank) (calls : List Call) → parts_behind r calls (done (Frame Finalize)) ≡ []
unfolding parts_behind parts_of
finalize_parts r calls = refl

pub commit_parts : (r : Rank) (calls : List Call) → parts_behind r calls (done (Derive (TypeCommit the_pair))) ≡ []
unfolding parts_behind parts_of
commit_parts r calls = refl

pub type_free_parts : (r : Rank) (calls : List Call) → parts_behind r calls (done (Derive (TypeFree the_pair))) ≡ []
unfolding parts_behind parts_of
type_free_parts r calls = refl

pub comm_free_parts : (r : Rank) (calls : List Call) → parts_behind r calls (done (Object (CommFree the_half))) ≡ []
unfolding parts_behind parts_of
comm_free_parts r calls = refl

pub split_parts : (r : Rank) (calls : List Call) (ranks rank : ℕ) → parts_behind r calls (split ranks rank) ≡ []
unfolding parts_behind parts_of
split_parts r calls ranks rank = refl

pub pair_parts : (r : Rank) (calls : List Call) → parts_behind r calls pair ≡ []
unfolding parts_behind parts_of
pair_parts r calls = refl

pub wait_parts : (r : Rank) (calls : List Call) (first left right : ℕ) → parts_behind r calls (wait first left right) ≡ []
unfolding parts_behind parts_of
wait_parts r calls first left right = refl

-- ---- calls that make nothing

pub init_made : is_request (made_by (done (Frame Init))) ≡ true
unfolding made_by
init_made = refl

pub finalize_made : is_request (made_by (done (Frame Finalize))) ≡ true
unfolding made_by
finalize_made = refl

pub commit_made : is_request (made_by (done (Derive (TypeCommit the_pair)))) ≡ true
unfolding made_by
commit_made = refl

pub type_free_made : is_request (made_by (done (Derive (TypeFree the_pair)))) ≡ true
unfolding made_by
type_free_made = refl

pub comm_free_made : is_request (made_by (done (Object (CommFree the_half)))) ≡ true
unfolding made_by
comm_free_made = refl

pub wait_made : (first left right : ℕ) → is_request (made_by (wait first left right)) ≡ true
unfolding made_by
wait_made first left right = refl

pub sum_made : (count : ℕ) → is_request (made_by (sum count)) ≡ true
unfolding made_by
sum_made count = refl

pub sum_begins : (count : ℕ) → begun_request (sum count) ≡ None
unfolding made_by persists
sum_begins count = refl

-- ---- the messages of a round

request_made : (b : Bool) (request : ℕ) → is_request (cond {A = Option ClassedHandle} b None (Some (Request, request))) ≡ true
request_made true request = refl
request_made false request = refl

pub receive_made : (buf count source tag request : ℕ) → is_request (made_by (receive buf count source tag request)) ≡ true
unfolding made_by
receive_made buf count source tag request = request_made (nat_lt request 64) request

pub send_made : (buf count dest tag request : ℕ) → is_request (made_by (send buf count dest tag request)) ≡ true
unfolding made_by
send_made buf count dest tag request = request_made (nat_lt request 64) request

request_ended : (b : Bool) (request : ℕ) (last : Call) → ends false Request request last ≡ true → IsEnded last (request_in (cond {A = Option ClassedHandle} b None (Some (Request, request))))
request_ended true request last e = tt
request_ended false request last e = e

pub receive_ended : (buf count source tag request : ℕ) (last : Call) → ends false Request request last ≡ true → IsEnded last (begun_request (receive buf count source tag request))
unfolding made_by persists
receive_ended buf count source tag request last e = request_ended (nat_lt request 64) request last e

pub send_ended : (buf count dest tag request : ℕ) (last : Call) → ends false Request request last ≡ true → IsEnded last (begun_request (send buf count dest tag request))
unfolding made_by persists
send_ended buf count dest tag request last e = request_ended (nat_lt request 64) request last e

or_true : (a b : Bool) → b ≡ true → a || b ≡ true
or_true true b e = refl
or_true false b e = e

in_front : (n : ℕ) (ns : List ℕ) → is_in (n ∷ ns) n ≡ true
in_front n ns = ap (λ (b : Bool). b || is_in ns n) (eq-eqb n n refl)

in_behind : (m n : ℕ) (ns : List ℕ) → is_in ns n ≡ true → is_in (m ∷ ns) n ≡ true
in_behind m n ns e = or_true (m == n) (is_in ns n) e

pub wait_ends : (first left right request : ℕ) → is_in (requests_from first) request ≡ true → ends false Request request (wait first left right) ≡ true
unfolding frees completes
wait_ends first left right request e = e

pub first_there : (first : ℕ) → is_in (requests_from first) first ≡ true
first_there first = in_front first ((first + 1) ∷ (first + 2) ∷ (first + 3) ∷ [])

pub second_there : (first : ℕ) → is_in (requests_from first) (first + 1) ≡ true
second_there first = in_behind first (first + 1) ((first + 1) ∷ (first + 2) ∷ (first + 3) ∷ []) (in_front (first + 1) ((first + 2) ∷ (first + 3) ∷ []))

pub third_there : (first : ℕ) → is_in (requests_from first) (first + 2) ≡ true
third_there first =
    in_behind first (first + 2) ((first + 1) ∷ (first + 2) ∷ (first + 3) ∷ [])
    (in_behind (first + 1) (first + 2) ((first + 2) ∷ (first + 3) ∷ []) (in_front (first + 2) ((first + 3) ∷ [])))

pub fourth_there : (first : ℕ) → is_in (requests_from first) (first + 3) ≡ true
fourth_there first =
    in_behind first (first + 3) ((first + 1) ∷ (first + 2) ∷ (first + 3) ∷ [])
    (in_behind (first + 1) (first + 3) ((first + 2) ∷ (first + 3) ∷ []) (in_behind (first + 2) (first + 3) ((first + 3) ∷ []) (in_front (first + 3) [])))

-- ---- the weights of buffers

one_block : (at : ℤ) (count : ℕ) (t : TypeTree) → count ≤ 17 → nat_le (weight t) 2 ≡ true → sum_by (λ (b : Block). message_weight b.count t) (counted at count ∷ []) ≤ 35
one_block at count t few light = omega (arith, few, message_few count t light, sum_by-cons (λ (b : Block). message_weight b.count t) (counted at count) [])

receive_bounded : (facts : Facts) (buf count source tag request : ℕ) → count ≤ 17 → IsBounded facts (receive buf count source tag request).body 35
receive_bounded facts buf count source tag request few Send address c t light = omega arith
receive_bounded facts buf count source tag request few Receive address c t light = one_block (pos address) count t few light
receive_bounded facts buf count source tag request few Both address c t light = omega arith

send_bounded : (facts : Facts) (buf count dest tag request : ℕ) → count ≤ 17 → IsBounded facts (send buf count dest tag request).body 35
send_bounded facts buf count dest tag request few Send address c t light = one_block (pos address) count t few light
send_bounded facts buf count dest tag request few Receive address c t light = omega arith
send_bounded facts buf count dest tag request few Both address c t light = omega arith

sum_bounded : (facts : Facts) (count : ℕ) → count ≤ 17 → IsBounded facts (sum count).body 35
sum_bounded facts count few s address c t light = one_block (pos address) count t few light

pub receive_parts : (r : Rank) (calls : List Call) (buf count source tag request : ℕ) → HasLight r calls → count ≤ 17 → PartsWithin r calls (receive buf count source tag request) 35
unfolding parts_behind parts_of
receive_parts r calls buf count source tag request light few =
    let b = (receive buf count source tag request).body in
    fields_few (facts_of r calls) (type_of (clear_behind r) calls) b 35 (receive_bounded (facts_of r calls) buf count source tag request few) light (inputs_of b)

pub send_parts : (r : Rank) (calls : List Call) (buf count dest tag request : ℕ) → HasLight r calls → count ≤ 17 → PartsWithin r calls (send buf count dest tag request) 35
unfolding parts_behind parts_of
send_parts r calls buf count dest tag request light few =
    let b = (send buf count dest tag request).body in
    fields_few (facts_of r calls) (type_of (clear_behind r) calls) b 35 (send_bounded (facts_of r calls) buf count dest tag request few) light (inputs_of b)

pub sum_parts : (r : Rank) (calls : List Call) (count : ℕ) → HasLight r calls → count ≤ 17 → PartsWithin r calls (sum count) 70
unfolding parts_behind parts_of
sum_parts r calls count light few =
    let b = (sum count).body in
    fields_few (facts_of r calls) (type_of (clear_behind r) calls) b 35 (sum_bounded (facts_of r calls) count few) light (inputs_of b)

-- ---- the communicator that is made

abbrev pub behind_init : List Call
behind_init = done (Frame Init) ∷ []

pub split_type : (r : Rank) (calls : List Call) (ranks rank : ℕ) → HasNoType r calls (split ranks rank)
unfolding type_limit_at made_by
split_type r calls ranks rank = refl

pub split_shallow : (r : Rank) (ranks rank : ℕ) → is_too_deep r behind_init (split ranks rank) ≡ false
unfolding is_too_deep made_by life is_predefined name_of
split_shallow r ranks rank = refl

pub split_makes : (ranks rank handle : ℕ) → makes Datatype handle (split ranks rank) ≡ false
unfolding made_by
split_makes ranks rank handle = refl

-- ---- the type that is made

abbrev pub behind_split : ℕ → ℕ → List Call
behind_split ranks rank = done (Frame Init) ∷ split ranks rank ∷ []

-- an int, and a char behind it
abbrev pair_tree : Option TypeTree
pair_tree = type_made (type_of (λ calls call. true) []) pair.body

pair_made : (r : Rank) (ranks rank : ℕ) → type_made (type_of (clear_behind r) (behind_split ranks rank)) pair.body ≡ pair_tree
unfolding type_of made_by
pair_made r ranks rank = refl

pair_by : (clear : Bool) (most live : ℕ) → live ≡ 0 → 2 ≤ most → type_limit most live (cond clear pair_tree None) ≡ None
unfolding type_of is_within_reach lower upper extent block
pair_by true most live none wide =
    ap (λ (n : ℕ). type_limit most n pair_tree) none ∙ ap (λ (b : Bool). cond b (Some limit.TypeWeight) None) (le-ltb most 2 wide)
pair_by false most live none wide = refl

light_pair : (clear : Bool) → is_light (cond clear pair_tree None) ≡ true
unfolding type_of lower upper extent
light_pair true = refl
light_pair false = refl

pub pair_light : (r : Rank) (ranks rank : ℕ) → is_light (clear_type (clear_behind r (behind_split ranks rank) pair) (type_of (clear_behind r) (behind_split ranks rank)) pair.body) ≡ true
pair_light r ranks rank =
    let clear = clear_behind r (behind_split ranks rank) pair in
    ap (λ (t : Option TypeTree). is_light (cond clear t None)) (pair_made r ranks rank) ∙ light_pair clear

pub pair_shallow : (r : Rank) (calls : List Call) → is_too_deep r calls pair ≡ false
unfolding is_too_deep made_by
pair_shallow r calls = refl

no_weight : (r : Rank) (ranks rank : ℕ) → types_weight (clear_behind r) (behind_split ranks rank) ≡ 0
unfolding made_count made_by life is_predefined type_of
no_weight r ranks rank = refl

pub pair_type : (r : Rank) (ranks rank : ℕ) → 2 ≤ most_weight r.size → HasNoType r (behind_split ranks rank) pair
unfolding type_limit_at made_by
pair_type r ranks rank wide =
    let calls = behind_split ranks rank in
    let clear = clear_behind r calls pair in
    let live = types_weight (clear_behind r) calls in
    ap (λ (t : Option TypeTree). type_limit (most_weight r.size) live (cond clear t None)) (pair_made r ranks rank) ∙ pair_by clear (most_weight r.size) live (no_weight r ranks rank) wide
