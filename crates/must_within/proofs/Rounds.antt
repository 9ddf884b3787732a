-- A generated run reaches no limit, call by call.
use Rattle.std.proofs.Common.{◌≡◌, ℕ, zero, suc, ◌+◌, ◌*◌, ◌/◌, ◌^◌, ◌≤◌, ◌<◌, Bool, true, false, cond, List, [], ◌∷◌, ◌++◌, length, Option, Some, None, refl, sym, ap, subst, ◌∙◌, arith, append_assoc, append-nil}
use Rattle.std.specs.Prelude.{sum_by}
use Rattle.std.proofs.lemmas.Nat.{le-div, mod_below}
use Rattle.must_call.specs.declared.class.Class.TheVariants.{Request}
use Rattle.must_call.specs.declared.body.Body.TheVariants.{Frame, Derive, Object}
use Rattle.must_call.specs.declared.frame.Frame.TheVariants.{Init, Finalize}
use Rattle.must_call.specs.declared.derive.Derive.TheVariants.{TypeCommit, TypeFree}
use Rattle.must_call.specs.declared.object.Object.TheVariants.{CommFree}
use Rattle.must_call.specs.declared.call.Call.{Call}
use Rattle.must_drill.specs.Numbers.{state_at, count_in, left_of, right_of, is_long, sent_in, round_of, round_at}
use Rattle.must_drill.specs.Calls.{done, split, pair, opening, receive, send, wait, sum, round_calls, rounds_of, closing, calls_of}
use Rattle.must_rules.specs.Rank.{Rank}
use Rattle.must_rules.specs.Making.{made_by, started_of}
use Rattle.must_rules.specs.Lives.{ends}
use Rattle.must_rules.specs.Known.{clear_behind}
use Rattle.must_rules.specs.KnownLaws.{type_first}
use Rattle.must_rules.specs.Parts.{Part, part_weight}
use Rattle.must_rules.specs.PendingOperations as ops
use Rattle.must_rules.specs.PendingOperations.{parts_behind, begun_request, begun_with, left_by, pending, operations_weight, most_pending}
use Rattle.must_rules.specs.Limits.{is_too_deep, IsWithin}
use Rattle.must_rules.specs.LimitLaws.{within_none}
use Rattle.must_within.proofs.Weights.{is_light, predefined_light}
use Rattle.must_within.proofs.Steps.{is_request, HasNoType, no_type, not_deep, HasLight, light_more, light_same, IsWide, PartsWithin, within_next, pending_next, weight_next, AreEnded, IsEnded, ended_next, none_left}
use Rattle.must_within.proofs.Calls.{the_half, the_pair, init_parts, finalize_parts, commit_parts, type_free_parts, comm_free_parts, split_parts, pair_parts, wait_parts, init_made, finalize_made, commit_made, type_free_made, comm_free_made, wait_made, sum_made, sum_begins, receive_made, send_made, receive_ended, send_ended, wait_ends, first_there, second_there, third_there, fourth_there, receive_parts, send_parts, sum_parts, behind_init, split_type, split_shallow, split_makes, behind_split, pair_light, pair_shallow, pair_type}

-- ---- nothing is pending, or operations of one round

-- no call reached a limit, types are light, and nothing is pending
pub record Between (r : Rank) (calls : List Call) : Type 0 where
  pub within : IsWithin r calls
  pub light : HasLight r calls
  pub none : pending r calls ≡ []

-- the same, where what is pending weighs so much at most, and this call ends all of it
record Inside (r : Rank) (last : Call) (calls : List Call) (w : ℕ) : Type 0 where
  within : IsWithin r calls
  light : HasLight r calls
  weight : operations_weight (pending r calls) ≤ w
  ended : AreEnded last (pending r calls)

nothing_begun : (call : ℕ) (o : Option ℕ) (parts : List Part) → parts ≡ [] → begun_with call o parts ≡ []
nothing_begun call None parts e = refl
nothing_begun call (Some request) parts e = ap (λ (l : List Part). begun_with call (Some request) l) e

no_parts : (r : Rank) (calls : List Call) (call : Call) → parts_behind r calls call ≡ [] → PartsWithin r calls call 0
no_parts r calls call e = omega (arith, ap (sum_by part_weight) e)

-- one call more that leaves nothing
left_empty : (r : Rank) (calls : List Call) (call : Call) (w own : ℕ) → IsWide r → w + own ≤ 65536 → IsWithin r calls → operations_weight (pending r calls) ≤ w → started_of call.body ≡ [] → PartsWithin r calls call own
    → left_by call (pending r calls) ≡ [] → begun_with (length calls) (begun_request call) (parts_behind r calls call) ≡ [] → HasNoType r calls call → is_too_deep r calls call ≡ false → HasLight r (calls ++ call ∷ [])
    → Between r (calls ++ call ∷ [])
left_empty r calls call w own wide few within held starts parts left begun types deep light = record {
  within = within_next r calls call w own wide few held starts parts types deep within;
  light = light;
  none =
      pending_next r calls call starts ∙ ap (λ (l : List ops.Operation). l ++ begun_with (length calls) (begun_request call) (parts_behind r calls call)) left ∙ begun;
}

-- one call more between rounds
between_next : (r : Rank) (calls : List Call) (call : Call) → IsWide r → Between r calls → started_of call.body ≡ [] → parts_behind r calls call ≡ [] → HasNoType r calls call → is_too_deep r calls call ≡ false → HasLight r (calls ++ call ∷ [])
    → Between r (calls ++ call ∷ [])
between_next r calls call wide b starts parts types deep light =
    left_empty r calls call 0 0 wide (omega arith) b.within (omega (arith, ap operations_weight b.none)) starts (no_parts r calls call parts) (ap (left_by call) b.none) (nothing_begun (length calls) (begun_request call) (parts_behind r calls call) parts) types deep light

-- one that makes nothing
plain_next : (r : Rank) (calls : List Call) (call : Call) → IsWide r → Between r calls → started_of call.body ≡ [] → parts_behind r calls call ≡ [] → is_request (made_by call) ≡ true → Between r (calls ++ call ∷ [])
plain_next r calls call wide b starts parts made =
    between_next r calls call wide b starts parts (no_type r calls call made) (not_deep r calls call made) (light_same r calls call b.light made)

-- ---- a round

round_begins : (r : Rank) (last : Call) (calls : List Call) → Between r calls → Inside r last calls 0
round_begins r last calls b = record {
  within = b.within;
  light = b.light;
  weight = omega (arith, ap operations_weight b.none);
  ended = subst (AreEnded last) (sym b.none) tt;
}

inside_next : (r : Rank) (last : Call) (calls : List Call) (call : Call) (w : ℕ) → IsWide r → w ≤ 1000 → Inside r last calls w → started_of call.body ≡ [] → PartsWithin r calls call 35 → is_request (made_by call) ≡ true → IsEnded last (begun_request call)
    → Inside r last (calls ++ call ∷ []) (w + 35)
inside_next r last calls call w wide few i starts parts made ended = record {
  within = within_next r calls call w 35 wide (omega (arith, few)) i.weight starts parts (no_type r calls call made) (not_deep r calls call made) i.within;
  light = light_same r calls call i.light made;
  weight = weight_next r calls call w 35 starts i.weight parts;
  ended = ended_next r calls call last starts ended i.ended;
}

receive_next : (r : Rank) (last : Call) (calls : List Call) (w buf count source tag request : ℕ) → IsWide r → w ≤ 1000 → Inside r last calls w → count ≤ 17 → ends false Request request last ≡ true
    → Inside r last (calls ++ receive buf count source tag request ∷ []) (w + 35)
receive_next r last calls w buf count source tag request wide few i items e =
    inside_next r last calls (receive buf count source tag request) w wide few i refl (receive_parts r calls buf count source tag request i.light items) (receive_made buf count source tag request) (receive_ended buf count source tag request last e)

send_next : (r : Rank) (last : Call) (calls : List Call) (w buf count dest tag request : ℕ) → IsWide r → w ≤ 1000 → Inside r last calls w → count ≤ 17 → ends false Request request last ≡ true
    → Inside r last (calls ++ send buf count dest tag request ∷ []) (w + 35)
send_next r last calls w buf count dest tag request wide few i items e =
    inside_next r last calls (send buf count dest tag request) w wide few i refl (send_parts r calls buf count dest tag request i.light items) (send_made buf count dest tag request) (send_ended buf count dest tag request last e)

wait_next : (r : Rank) (calls : List Call) (w first left right : ℕ) → IsWide r → w ≤ 1000 → Inside r (wait first left right) calls w → Between r (calls ++ wait first left right ∷ [])
wait_next r calls w first left right wide few i =
    let call = wait first left right in
    let parts = wait_parts r calls first left right in
    let made = wait_made first left right in
    left_empty r calls call w 0 wide (omega (arith, few)) i.within i.weight refl (no_parts r calls call parts) (none_left call (pending r calls) i.ended)
    (nothing_begun (length calls) (begun_request call) (parts_behind r calls call) parts) (no_type r calls call made) (not_deep r calls call made) (light_same r calls call i.light made)

sum_next : (r : Rank) (calls : List Call) (count : ℕ) → IsWide r → Between r calls → count ≤ 17 → Between r (calls ++ sum count ∷ [])
sum_next r calls count wide b items =
    let call = sum count in
    let made = sum_made count in
    left_empty r calls call 0 70 wide (omega arith) b.within (omega (arith, ap operations_weight b.none)) refl (sum_parts r calls count b.light items) (ap (left_by call) b.none)
    (ap (λ (o : Option ℕ). begun_with (length calls) o (parts_behind r calls call)) (sum_begins count)) (no_type r calls call made) (not_deep r calls call made) (light_same r calls call b.light made)

-- one call behind another
six_more : (calls : List Call) (a b c d e f : Call) → (((((calls ++ a ∷ []) ++ b ∷ []) ++ c ∷ []) ++ d ∷ []) ++ e ∷ []) ++ f ∷ [] ≡ calls ++ a ∷ b ∷ c ∷ d ∷ e ∷ f ∷ []
six_more [] a b c d e f = refl
six_more (x ∷ calls) a b c d e f = ap (λ (xs : List Call). x ∷ xs) (six_more calls a b c d e f)

three_more : (calls : List Call) (a b c : Call) → ((calls ++ a ∷ []) ++ b ∷ []) ++ c ∷ [] ≡ calls ++ a ∷ b ∷ c ∷ []
three_more [] a b c = refl
three_more (x ∷ calls) a b c = ap (λ (xs : List Call). x ∷ xs) (three_more calls a b c)

-- the calls of a round with these neighbours, counts and first request
abbrev calls_in : (left right count sent first : ℕ) → List Call
calls_in left right count sent first =
    receive 65536 count left 1 first ∷ receive 131072 count right 2 (first + 1) ∷ send 196608 count left 2 (first + 2)
    ∷ send 262144 sent right 1 (first + 3) ∷ wait first left right ∷ sum count ∷ []

round_next : (r : Rank) (calls : List Call) (left right count sent first : ℕ) → IsWide r → count ≤ 17 → sent ≤ 17 → Between r calls → Between r (calls ++ calls_in left right count sent first)
round_next r calls left right count sent first wide items more b =
    let last = wait first left right in
    let c0 = receive 65536 count left 1 first in
    let c1 = receive 131072 count right 2 (first + 1) in
    let c2 = send 196608 count left 2 (first + 2) in
    let c3 = send 262144 sent right 1 (first + 3) in
    let s0 = calls ++ c0 ∷ [] in
    let s1 = s0 ++ c1 ∷ [] in
    let s2 = s1 ++ c2 ∷ [] in
    let s3 = s2 ++ c3 ∷ [] in
    let i0 = receive_next r last calls 0 65536 count left 1 first wide (omega arith) (round_begins r last calls b) items (wait_ends first left right first (first_there first)) in
    let i1 = receive_next r last s0 (0 + 35) 131072 count right 2 (first + 1) wide (omega arith) i0 items (wait_ends first left right (first + 1) (second_there first)) in
    let i2 = send_next r last s1 (0 + 35 + 35) 196608 count left 2 (first + 2) wide (omega arith) i1 items (wait_ends first left right (first + 2) (third_there first)) in
    let i3 = send_next r last s2 (0 + 35 + 35 + 35) 262144 sent right 1 (first + 3) wide (omega arith) i2 more (wait_ends first left right (first + 3) (fourth_there first)) in
    let b4 = wait_next r s3 (0 + 35 + 35 + 35 + 35) first left right wide (omega arith) i3 in
    let b5 = sum_next r (s3 ++ last ∷ []) count wide b4 items in
    subst (Between r) (six_more calls c0 c1 c2 c3 last (sum count)) b5

-- ---- before and behind the rounds

no_handle : {P : Type 0} → false ≡ true → P
no_handle e = absurd cc

none_first : (r : Rank) → pending r [] ≡ []
unfolding pending
none_first r = refl

opening_next : (r : Rank) (ranks rank : ℕ) → IsWide r → Between r (opening ranks rank)
opening_next r ranks rank wide =
    let b0 : Between r [] = record { within = within_none r; light = λ handle. ap is_light (type_first (clear_behind r) handle) ∙ predefined_light handle; none = none_first r } in
    let b1 : Between r behind_init = plain_next r [] (done (Frame Init)) wide b0 refl (init_parts r []) init_made in
    let b2 : Between r (behind_split ranks rank) =
    between_next r behind_init (split ranks rank) wide b1 refl (split_parts r behind_init ranks rank) (split_type r behind_init ranks rank) (split_shallow r ranks rank)
    (light_more r behind_init (split ranks rank) b1.light (λ handle m. no_handle (sym (split_makes ranks rank handle) ∙ m))) in
    let before = behind_split ranks rank in
    let b3 : Between r (before ++ pair ∷ []) =
    between_next r before pair wide b2 refl (pair_parts r before) (pair_type r ranks rank (omega (arith, wide))) (pair_shallow r before) (light_more r before pair b2.light (λ handle m. pair_light r ranks rank)) in
    plain_next r (before ++ pair ∷ []) (done (Derive (TypeCommit the_pair))) wide b3 refl (commit_parts r (before ++ pair ∷ [])) commit_made

closing_next : (r : Rank) (calls : List Call) → IsWide r → Between r calls → Between r (calls ++ closing)
closing_next r calls wide b =
    let c0 = done (Derive (TypeFree the_pair)) in
    let c1 = done (Object (CommFree the_half)) in
    let c2 = done (Frame Finalize) in
    let s0 = calls ++ c0 ∷ [] in
    let s1 = s0 ++ c1 ∷ [] in
    let b0 = plain_next r calls c0 wide b refl (type_free_parts r calls) type_free_made in
    let b1 = plain_next r s0 c1 wide b0 refl (comm_free_parts r s0) comm_free_made in
    let b2 = plain_next r s1 c2 wide b1 refl (finalize_parts r s1) finalize_made in
    subst (Between r) (three_more calls c0 c1 c2) b2

-- ---- all rounds

few_items : (state : ℕ) → count_in state ≤ 16
unfolding count_in
few_items state = omega (arith, mod_below (state / 2 ^ 33) 16 (omega arith))

few_sent : (b : Bool) (count : ℕ) → count ≤ 16 → cond b (count + 1) count ≤ 17
few_sent true count few = omega (arith, few)
few_sent false count few = omega (arith, few)

one_round : (r : Rank) (calls : List Call) (ranks number rank m count : ℕ) → IsWide r → count ≤ 16 → Between r calls → Between r (calls ++ round_calls (round_of ranks number rank m count))
unfolding round_of
one_round r calls ranks number rank m count wide few b =
    round_next r calls (left_of ranks rank) (right_of ranks rank) count (sent_in number rank m count) (66 + 4 * m) wide (omega (arith, few)) (few_sent (is_long number rank m) count few) b

rounds_next : (r : Rank) (calls : List Call) (ranks number rank m : ℕ) → IsWide r → Between r calls → Between r (calls ++ rounds_of ranks number rank m)
rounds_next r calls ranks number rank zero wide b = subst (Between r) (sym (append-nil calls)) b
rounds_next r calls ranks number rank (suc m) wide b =
    let before = rounds_of ranks number rank m in
    let state = state_at number (suc m) in
    subst (Between r) (append_assoc calls before (round_calls (round_at ranks number rank m)))
    (one_round r (calls ++ before) ranks number rank m (count_in state) wide (few_items state) (rounds_next r calls ranks number rank m wide b))

calls_next : (r : Rank) (ranks rounds number rank : ℕ) → IsWide r → Between r (calls_of ranks rounds number rank)
calls_next r ranks rounds number rank wide =
    let first = opening ranks rank in
    let middle = rounds_of ranks number rank rounds in
    subst (Between r) (append_assoc first middle closing) (closing_next r (first ++ middle) wide (rounds_next r first ranks number rank rounds wide (opening_next r ranks rank wide)))

-- a run of 1024 ranks at most has room
wide_enough : (r : Rank) (ranks : ℕ) → r.size ≡ ranks → 0 < ranks → ranks ≤ 1024 → IsWide r
wide_enough r ranks e some few = subst (λ (n : ℕ). 65536 ≤ most_pending n) (sym e) (le-div 65536 (2 ^ 26) ranks some (omega (arith, few)))

-- no call of a generated run reaches a limit
pub calls_within : (r : Rank) (ranks rounds number rank : ℕ) → r.size ≡ ranks → rank < ranks → ranks ≤ 1024 → IsWithin r (calls_of ranks rounds number rank)
calls_within r ranks rounds number rank e less few = (calls_next r ranks rounds number rank (wide_enough r ranks e (omega (arith, less)) few)).within
