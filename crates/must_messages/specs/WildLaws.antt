-- N1 stands exactly at the operations that are open wildcards.
use Rattle.std.proofs.Common.{◌≡◌, ℕ, zero, suc, ◌==◌, pos, Bool, true, false, cond, List, [], ◌∷◌, ◌++◌, length, take, Option, Some, None, refl, ap, sym, subst, ◌∙◌, inl, inr, arith, eq-eqb, eqb-true, append_assoc}
use Rattle.std.specs.Prelude.{find, flat_map, slice_get}
use Rattle.std.specs.List.{AllByRecursion}
use Rattle.std.proofs.lemmas.Bool.{ne_eqb}
use Rattle.std.proofs.Math.Seq.{take-append_seam}
use Rattle.must_base.specs.Listing.{Has}
use Rattle.must_call.specs.declared.call.Call.{Call}
use Rattle.must_rules.specs.Answer.{Answer, alone}
use Rattle.must_rules.specs.Rank.{Rank}
use Rattle.must_messages.specs.PlainLaws.{no_some, same_some}
use Rattle.must_rules.specs.Turns.{Turn, turns_from, turns}
use Rattle.must_rules.specs.Operations.{Operation, operations_at, operations_in_turn, operations_of, operations_by, operations_in}
use Rattle.must_messages.specs.OperationLaws.{IsBegunBy, begun_by, all_join}
use Rattle.must_messages.specs.RiseLaws.{IsBefore, Rise, call_rise}
use Rattle.must_rules.specs.Statuses.{is_open_wildcard, open_answer, open_wildcard}

-- ---- turns

-- call k of these, with those before it
abbrev IsTurnAt : List Call → Turn → Type 0
IsTurnAt calls t = (take (length t.earlier) calls ≡ t.earlier) × (slice_get calls (length t.earlier) ≡ Some t.call)

get_behind : (earlier calls : List Call) (c : Call) → slice_get (earlier ++ c ∷ calls) (length earlier) ≡ Some c
get_behind [] calls c = refl
get_behind (x ∷ earlier) calls c = get_behind earlier calls c

turns_at : (whole earlier calls : List Call) → earlier ++ calls ≡ whole → AllByRecursion (IsTurnAt whole) (turns_from earlier calls)
turns_at whole earlier [] e = tt
turns_at whole earlier (c ∷ calls) e = (
  (ap (take (length earlier)) (sym e) ∙ take-append_seam earlier (c ∷ calls), ap (λ (cs : List Call). slice_get cs (length earlier)) (sym e) ∙ get_behind earlier calls c),
  turns_at whole (earlier ++ c ∷ []) calls (append_assoc earlier (c ∷ []) calls ∙ e),
)

turn_in : (r : Rank) (calls : List Call) (t : Turn) → IsTurnAt calls t → operations_in r calls (length t.earlier) ≡ operations_at r t.earlier t.call
turn_in r calls t is = ap (λ (cs : List Call). operations_by r cs (slice_get calls (length t.earlier))) is.0 ∙ ap (operations_by r t.earlier) is.1

-- ---- the parts of a call are distinct

-- the operation is found by its part
abbrev IsFoundByPart : List Operation → Operation → Type 0
IsFoundByPart ops op = find (λ o. o.part == op.part) ops ≡ Some op

later_part : (n : ℕ) (x op : Operation) → IsBegunBy n x → IsBegunBy n op → IsBefore x op → (x.part == op.part) ≡ false
later_part n x op a b (inl h) = absurd (omega (arith, h, a, b))
later_part n x op a b (inr h) = let less = h.1 in ne_eqb x.part op.part (λ e. omega (arith, less, e))

behind_found : (n : ℕ) (x : Operation) (ops others : List Operation) → IsBegunBy n x → AllByRecursion (IsBegunBy n) others → AllByRecursion (IsBefore x) others → AllByRecursion (IsFoundByPart ops) others
    → AllByRecursion (IsFoundByPart (x ∷ ops)) others
behind_found n x ops [] a begun before found = tt
behind_found n x ops (op ∷ others) a begun before found = (
  ap (λ (b : Bool). cond b (Some x) (find (λ (o : Operation). o.part == op.part) ops)) (later_part n x op a begun.0 before.0) ∙ found.0,
  behind_found n x ops others a begun.1 before.1 found.1,
)

found_by_part : (n : ℕ) (ops : List Operation) → AllByRecursion (IsBegunBy n) ops → Rise ops → AllByRecursion (IsFoundByPart ops) ops
found_by_part n [] begun rise = tt
found_by_part n (op ∷ ops) begun rise = (
  ap (λ (b : Bool). cond b (Some op) (find (λ (o : Operation). o.part == op.part) ops)) (eq-eqb op.part op.part refl),
  behind_found n op ops ops begun.0 begun.1 rise.0 (found_by_part n ops begun.1 rise.1),
)

-- ---- an open wildcard has N1

-- N1 stands at the operation, where it is one
abbrev pub HasRow : Rank → List Call → Operation → Type 0
HasRow r calls op = is_open_wildcard calls op ≡ true → open_wildcard r calls op.call op.part ≡ Some (alone (pos 0))

row_of : (r : Rank) (calls : List Call) (t : Turn) (op : Operation) → IsTurnAt calls t → IsBegunBy (length t.earlier) op → IsFoundByPart (operations_at r t.earlier t.call) op → HasRow r calls op
unfolding open_wildcard
row_of r calls t op is begun found wild =
    ap (λ (k : ℕ). open_answer calls (find (λ (o : Operation). o.part == op.part) (operations_in r calls k))) begun
    ∙ ap (λ (ops : List Operation). open_answer calls (find (λ (o : Operation). o.part == op.part) ops)) (turn_in r calls t is)
    ∙ ap (open_answer calls) found
    ∙ ap (λ (b : Bool). cond b (Some (alone (pos 0))) None) wild

call_rows : (r : Rank) (calls : List Call) (t : Turn) → IsTurnAt calls t → (ops : List Operation) → AllByRecursion (IsBegunBy (length t.earlier)) ops → AllByRecursion (IsFoundByPart (operations_at r t.earlier t.call)) ops
    → AllByRecursion (HasRow r calls) ops
call_rows r calls t is [] begun found = tt
call_rows r calls t is (op ∷ ops) begun found = (row_of r calls t op is begun.0 found.0, call_rows r calls t is ops begun.1 found.1)

turn_rows : (r : Rank) (calls : List Call) (ts : List Turn) → AllByRecursion (IsTurnAt calls) ts → AllByRecursion (HasRow r calls) (flat_map (operations_in_turn r) ts)
turn_rows r calls [] at = tt
turn_rows r calls (t ∷ ts) at =
    all_join (HasRow r calls) (operations_at r t.earlier t.call) (flat_map (operations_in_turn r) ts)
    (call_rows r calls t at.0 (operations_at r t.earlier t.call) (begun_by r t.earlier t.call)
    (found_by_part (length t.earlier) (operations_at r t.earlier t.call) (begun_by r t.earlier t.call) (call_rise r t.earlier t.call)))
    (turn_rows r calls ts at.1)

-- each open wildcard has its row
pub wild_rows : (r : Rank) (calls : List Call) → AllByRecursion (HasRow r calls) (operations_of r calls)
wild_rows r calls = turn_rows r calls (turns calls) (turns_at calls [] calls refl)

-- ---- and nothing else has

-- an open wildcard of this call and part
pub record IsWildAt (r : Rank) (calls : List Call) (k part : ℕ) (answer : Answer) : Type 0 where
  pub op : Operation
  pub there : Has (operations_of r calls) op
  pub call_is : op.call ≡ k
  pub part_is : op.part ≡ part
  pub is_open : is_open_wildcard calls op ≡ true
  pub answer_is : answer ≡ alone (pos 0)

has_front : (xs ys : List Operation) (x : Operation) → Has xs x → Has (xs ++ ys) x
has_front [] ys x h = absurd h
has_front (y ∷ xs) ys x (inl e) = inl e
has_front (y ∷ xs) ys x (inr h) = inr (has_front xs ys x h)

has_back : (xs ys : List Operation) (x : Operation) → Has ys x → Has (xs ++ ys) x
has_back [] ys x h = h
has_back (y ∷ xs) ys x h = inr (has_back xs ys x h)

-- what call k of some calls behind others begins is among what all of them begin
in_turns : (r : Rank) (earlier calls : List Call) (k : ℕ) (call : Call) (op : Operation) → slice_get calls k ≡ Some call → Has (operations_at r (earlier ++ take k calls) call) op
    → Has (flat_map (operations_in_turn r) (turns_from earlier calls)) op
in_turns r earlier [] k call op e h = no_some call e
in_turns r earlier (c ∷ calls) zero call op e h =
    has_front (operations_at r earlier c) (flat_map (operations_in_turn r) (turns_from (earlier ++ c ∷ []) calls)) op
    (subst (λ (x : Call). Has (operations_at r earlier x) op) (sym (same_some c call e)) (subst (λ (cs : List Call). Has (operations_at r cs call) op) (none earlier) h))
  where
    none : (cs : List Call) → cs ++ [] ≡ cs
    none [] = refl
    none (d ∷ ds) = ap (λ (es : List Call). d ∷ es) (none ds)
in_turns r earlier (c ∷ calls) (suc k) call op e h =
    has_back (operations_at r earlier c) (flat_map (operations_in_turn r) (turns_from (earlier ++ c ∷ []) calls)) op
    (in_turns r (earlier ++ c ∷ []) calls k call op e (subst (λ (cs : List Call). Has (operations_at r cs call) op) (sym (append_assoc earlier (c ∷ []) (take k calls))) h))

found_has : (test : Operation → Bool) (ops : List Operation) (op : Operation) → find test ops ≡ Some op → Has ops op × (test op ≡ true)
found_has test [] op e = no_some op e
found_has test (x ∷ ops) op e = at (test x) refl e (λ f. found_has test ops op f)
  where
    at : (b : Bool) → test x ≡ b → cond b (Some x) (find test ops) ≡ Some op → (find test ops ≡ Some op → Has ops op × (test op ≡ true)) → Has (x ∷ ops) op × (test op ≡ true)
    at true t f rest = let same = same_some x op f in (inl (sym same), ap test (sym same) ∙ t)
    at false t f rest = let there = rest f in (inr there.0, there.1)

has_begun : (n : ℕ) (ops : List Operation) (op : Operation) → AllByRecursion (IsBegunBy n) ops → Has ops op → op.call ≡ n
has_begun n [] op all h = absurd h
has_begun n (x ∷ ops) op all (inl e) = ap (λ (o : Operation). o.call) e ∙ all.0
has_begun n (x ∷ ops) op all (inr h) = has_begun n ops op all.1 h

open_at : (calls : List Call) (op : Operation) (answer : Answer) → open_answer calls (Some op) ≡ Some answer → (is_open_wildcard calls op ≡ true) × (answer ≡ alone (pos 0))
open_at calls op answer e = at (is_open_wildcard calls op) e
  where
    at : (b : Bool) → cond b (Some (alone (pos 0))) None ≡ Some answer → (b ≡ true) × (answer ≡ alone (pos 0))
    at true f = (refl, sym (same_some (alone (pos 0)) answer f))
    at false f = no_some answer f

take_length : (calls : List Call) (k : ℕ) (call : Call) → slice_get calls k ≡ Some call → length (take k calls) ≡ k
take_length [] k call e = no_some call e
take_length (c ∷ calls) zero call e = refl
take_length (c ∷ calls) (suc k) call e = ap suc (take_length calls k call e)

pub wild_only : (r : Rank) (calls : List Call) (k part : ℕ) (answer : Answer) → open_wildcard r calls k part ≡ Some answer → IsWildAt r calls k part answer
unfolding open_wildcard
wild_only r calls k part answer e = at (slice_get calls k) refl e
  where
    found : (call : Call) → slice_get calls k ≡ Some call → (o : Option Operation) → find (λ (op : Operation). op.part == part) (operations_at r (take k calls) call) ≡ o → open_answer calls o ≡ Some answer → IsWildAt r calls k part answer
    found call there None same f = no_some answer f
    found call there (Some op) same f =
        let has = found_has (λ (o : Operation). o.part == part) (operations_at r (take k calls) call) op same in
        let is = open_at calls op answer f in
        record {
          op = op;
          there = in_turns r [] calls k call op there has.0;
          call_is = has_begun (length (take k calls)) (operations_at r (take k calls) call) op (begun_by r (take k calls) call) has.0 ∙ take_length calls k call there;
          part_is = eqb-true op.part part has.1;
          is_open = is.0;
          answer_is = is.1;
        }

    at : (o : Option Call) → slice_get calls k ≡ o → open_answer calls (find (λ (op : Operation). op.part == part) (operations_by r (take k calls) o)) ≡ Some answer → IsWildAt r calls k part answer
    at None there f = no_some answer f
    at (Some call) there f = found call there (find (λ (op : Operation). op.part == part) (operations_at r (take k calls) call)) refl f
