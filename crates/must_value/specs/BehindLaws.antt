-- Where outputs are judged whole, what judging leaves is what stands behind them.
use Rattle.std.proofs.Common.{◌≡◌, ℕ, zero, suc, ◌+◌, ◌*◌, ◌≤◌, ℤ, pos, negsuc, int_lt, Bool, true, false, cond, eqb, ltb, List, [], ◌∷◌, drop, Result, Ok, Err, Option, Some, None, sym, ap, ◌∙◌, arith}
use Rattle.std.proofs.lemmas.Bool.{ltb-false}
use Rattle.std.proofs.lemmas.List.{drop-drop}
use Rattle.must_call.specs.declared.field.Item.TheVariants as item
use Rattle.must_call.specs.declared.field.Output.{Output}
use Rattle.must_call.specs.declared.field.Output.TheVariants as output
use Rattle.must_format.specs.declared.cause.Cause.{Cause}
use Rattle.must_format.specs.declared.cause.Cause.TheVariants.{Field}
use Rattle.must_format.specs.Decoding.{u32_at, i32_at, bit_at, behind_list}
use Rattle.must_format.specs.Judging.{◌>>=◌, past, past_bit, past_list, past_status, past_statuses, past_flagged, choice_index, past_choice, completion_index, past_completion, past_all_completions, past_counted, past_completions, past_output, past_outcome}
use Rattle.must_format.specs.LeafLaws.{bind_ok, ok_is, past_is}
use Rattle.must_format.specs.StatusLaws.{guard_then}
use Rattle.must_value.specs.Behind.{behind_flagged, behind_completions, behind_output, behind_outcome}

-- ---- steps

-- two steps, one behind the other
then_drop : (n m : ℕ) (bytes middle left : List ℕ) → drop n bytes ≡ middle → left ≡ drop m middle → left ≡ drop (n + m) bytes
then_drop n m bytes middle left first second = second ∙ ap (drop m) (sym first) ∙ drop-drop m n bytes

bit_left : (bytes left : List ℕ) → past_bit bytes ≡ Ok left → left ≡ drop 1 bytes
bit_left [] left e = absurd cc
bit_left (b ∷ bytes) left e = sym (ok_is bytes left (guard_then (ltb 1 b) Field (Ok bytes) left e).1)

list_left : (bytes left : List ℕ) → past_list item.Request bytes ≡ Ok left → left ≡ behind_list item.Request bytes
list_left bytes left e =
    let a = bind_ok (past 4 bytes) (λ items. past (4 * u32_at bytes) items) left e in
    sym (past_is (4 * u32_at bytes) a.0 left a.2).1 ∙ ap (drop (4 * u32_at bytes)) (sym (past_is 4 bytes a.0 a.1).1)

status_left : (bytes left : List ℕ) → past_status bytes ≡ Ok left → left ≡ drop 9 bytes
status_left bytes left e =
    let a = bind_ok (past 4 bytes) (λ tag. past 4 tag >>= λ cancelled. past_bit cancelled) left e in
    let b = bind_ok (past 4 a.0) (λ cancelled. past_bit cancelled) left a.2 in
    then_drop 4 5 bytes a.0 left (past_is 4 bytes a.0 a.1).1 (then_drop 4 1 a.0 b.0 left (past_is 4 a.0 b.0 b.1).1 (bit_left b.0 left b.2))

statuses_left : (n : ℕ) (bytes left : List ℕ) → past_statuses n bytes ≡ Ok left → left ≡ drop (9 * n) bytes
statuses_left zero bytes left e = sym (ok_is bytes left e)
statuses_left (suc n) bytes left e =
    let a = bind_ok (past_status bytes) (λ rest. past_statuses n rest) left e in
    let all = then_drop 9 (9 * n) bytes a.0 left (sym (status_left bytes a.0 a.1)) (statuses_left n a.0 left a.2) in
    all ∙ ap (λ (k : ℕ). drop k bytes) (omega arith)

flagged_left : (judged : List ℕ → Result (List ℕ) Cause) (wide : ℕ) → ((bytes left : List ℕ) → judged bytes ≡ Ok left → left ≡ drop wide bytes)
    → (bytes left : List ℕ) → past_flagged judged bytes ≡ Ok left → left ≡ behind_flagged wide bytes
unfolding bit_at
flagged_left judged wide behind [] left e = absurd cc
flagged_left judged wide behind (zero ∷ bytes) left e = sym (ok_is bytes left e)
flagged_left judged wide behind (suc zero ∷ bytes) left e = behind bytes left e
flagged_left judged wide behind (suc (suc b) ∷ bytes) left e =
    let small : suc (suc b) ≤ 1 = ltb-false _ _ (guard_then (ltb 1 (suc (suc b))) Field (cond (eqb (suc (suc b)) 1) (judged bytes) (Ok bytes)) left e).0 in
    absurd (omega (arith, small))

-- ---- choices and completions

index_left : (n : ℕ) (z : ℤ) (bytes left : List ℕ) → choice_index n z bytes ≡ Ok left → bytes ≡ left
index_left n z bytes left e = below (int_lt z (pos n)) (guard_then (int_lt z (negsuc 0)) Field (cond (int_lt z (pos n)) (Ok bytes) (Err Field)) left e).1
  where
    below : (b : Bool) → cond b (Ok bytes) (Err Field) ≡ Ok left → bytes ≡ left
    below true e = ok_is bytes left e
    below false e = absurd cc

choice_left : (n : ℕ) (bytes left : List ℕ) → past_choice n bytes ≡ Ok left → left ≡ drop 13 bytes
choice_left n bytes left e =
    let a = bind_ok (past 4 bytes) (λ rest. choice_index n (i32_at bytes) rest >>= λ status. past_status status) left e in
    let b = bind_ok (choice_index n (i32_at bytes) a.0) (λ status. past_status status) left a.2 in
    then_drop 4 9 bytes b.0 left ((past_is 4 bytes a.0 a.1).1 ∙ index_left n (i32_at bytes) a.0 b.0 b.1) (status_left b.0 left b.2)

place_left : (least n index : ℕ) (bytes left : List ℕ) → completion_index least n index bytes ≡ Ok left → bytes ≡ left
place_left least n index bytes left e = below (ltb index n) (guard_then (ltb index least) Field (cond (ltb index n) (Ok bytes) (Err Field)) left e).1
  where
    below : (b : Bool) → cond b (Ok bytes) (Err Field) ≡ Ok left → bytes ≡ left
    below true e = ok_is bytes left e
    below false e = absurd cc

completion_left : (least n : ℕ) (bytes left : List ℕ) → past_completion least n bytes ≡ Ok left → left ≡ drop 13 bytes
completion_left least n bytes left e =
    let a = bind_ok (past 4 bytes) (λ rest. completion_index least n (u32_at bytes) rest >>= λ status. past_status status) left e in
    let b = bind_ok (completion_index least n (u32_at bytes) a.0) (λ status. past_status status) left a.2 in
    then_drop 4 9 bytes b.0 left ((past_is 4 bytes a.0 a.1).1 ∙ place_left least n (u32_at bytes) a.0 b.0 b.1) (status_left b.0 left b.2)

all_left : (count least n : ℕ) (bytes left : List ℕ) → past_all_completions count least n bytes ≡ Ok left → left ≡ drop (13 * count) bytes
all_left zero least n bytes left e = sym (ok_is bytes left e)
all_left (suc count) least n bytes left e =
    let a = bind_ok (past_completion least n bytes) (λ rest. past_all_completions count (u32_at bytes + 1) n rest) left e in
    let all = then_drop 13 (13 * count) bytes a.0 left (sym (completion_left least n bytes a.0 a.1)) (all_left count (u32_at bytes + 1) n a.0 left a.2) in
    all ∙ ap (λ (k : ℕ). drop k bytes) (omega arith)

counted_left : (none few : Bool) (count n : ℕ) (bytes left : List ℕ) → cond none (Ok bytes) (cond few (past_all_completions count 0 n bytes) (Err Field)) ≡ Ok left
    → left ≡ cond none bytes (drop (13 * count) bytes)
counted_left true few count n bytes left e = sym (ok_is bytes left e)
counted_left false true count n bytes left e = all_left count 0 n bytes left e
counted_left false false count n bytes left e = absurd cc

completions_left : (n : ℕ) (bytes left : List ℕ) → past_completions n bytes ≡ Ok left → left ≡ behind_completions bytes
completions_left n bytes left e =
    let a = bind_ok (past 4 bytes) (λ rest. past_counted (u32_at bytes) n rest) left e in
    counted_left (eqb (u32_at bytes) 4294967295) (ltb (u32_at bytes) 2147483648) (u32_at bytes) n a.0 left a.2
    ∙ ap (λ (rest : List ℕ). cond (eqb (u32_at bytes) 4294967295) rest (drop (13 * u32_at bytes) rest)) (sym (past_is 4 bytes a.0 a.1).1)

-- ---- all outputs

output_left : (o : Output) (n : ℕ) (bytes left : List ℕ) → past_output o n bytes ≡ Ok left → left ≡ behind_output o n bytes
output_left (output.Made c) n bytes left e = sym (past_is 4 bytes left e).1
output_left output.MadeComm n bytes left e =
    let a = bind_ok (past 4 bytes) (λ members. past_list item.Request members) left e in
    list_left a.0 left a.2 ∙ ap (behind_list item.Request) (sym (past_is 4 bytes a.0 a.1).1)
output_left output.Status n bytes left e = status_left bytes left e
output_left output.MaybeStatus n bytes left e = flagged_left past_status 9 status_left bytes left e
output_left output.Statuses n bytes left e = statuses_left n bytes left e
output_left output.MaybeStatuses n bytes left e = flagged_left (past_statuses n) (9 * n) (statuses_left n) bytes left e
output_left output.Choice n bytes left e = choice_left n bytes left e
output_left output.MaybeChoice n bytes left e = flagged_left (past_choice n) 13 (choice_left n) bytes left e
output_left output.Completions n bytes left e = completions_left n bytes left e

pub outcome_left : (o : Option Output) (returned : Bool) (n : ℕ) (bytes left : List ℕ) → past_outcome o returned n bytes ≡ Ok left → left ≡ behind_outcome o returned n bytes
outcome_left None returned n bytes left e = sym (ok_is bytes left e)
outcome_left (Some o) true n bytes left e = output_left o n bytes left e
outcome_left (Some o) false n bytes left e = sym (ok_is bytes left e)
