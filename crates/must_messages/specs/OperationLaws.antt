-- The operations of a rank over one call more.
use Rattle.std.proofs.Common.{◌≡◌, ℕ, suc, ◌<◌, Bool, true, false, List, [], ◌∷◌, ◌++◌, length, Option, Some, None, refl, ap, ◌∙◌, arith}
use Rattle.std.specs.Prelude.{option_map, filter_map, if◌then◌else◌}
use Rattle.std.specs.List.{AllByRecursion, cons_option}
use Rattle.must_call.specs.declared.call.Call.{Call}
use Rattle.must_call.specs.declared.field.Side.TheVariants.{Send, Receive}
use Rattle.must_rules.specs.Rank.{Rank}
use Rattle.must_call.specs.declared.field.Field.TheVariants.{Buffer}
use Rattle.must_rules.specs.Breaches.{part_in}
use Rattle.must_rules.specs.PendingOperations.{begun_request}
use Rattle.must_rules.specs.Making.{is_persistent_kind, started_of}
use Rattle.must_rules.specs.Operations.{Operation, operation, Message, message_at, message_started, begun_by_side, begun_here, with_started, started_from, operations_at, operations_in_turn, operations_of}
use Rattle.must_rules.specs.Turns.{Turn, turn, turns}
use Rattle.must_messages.specs.TurnLaws.{turns_more, turns_below, IsTurnBelow, all_weaker}
use Rattle.std.proofs.lemmas.Grind.{flat_map-append}
use Rattle.std.proofs.lemmas.List.{append-nil}
use Rattle.std.specs.List.{flat_map}

-- ---- one call more

-- what one call more begins stands behind the others
pub operations_more : (r : Rank) (calls : List Call) (call : Call) → operations_of r (calls ++ call ∷ []) ≡ operations_of r calls ++ operations_at r calls call
operations_more r calls call =
    ap (flat_map (operations_in_turn r)) (turns_more calls call)
    ∙ flat_map-append (operations_in_turn r) (turns calls) (turn calls call ∷ [])
    ∙ ap (λ (ops : List Operation). operations_of r calls ++ ops) (append-nil (operations_at r calls call))

-- ---- which call begins them

-- an operation of this call
abbrev pub IsBegunBy : ℕ → Operation → Type 0
IsBegunBy call op = op.call ≡ call

pub all_join : (P : Operation → Type 0) (xs ys : List Operation) → AllByRecursion P xs → AllByRecursion P ys → AllByRecursion P (xs ++ ys)
all_join P [] ys a b = b
all_join P (x ∷ xs) ys a b = (a.0, all_join P xs ys a.1 b)

cons_begun : (n : ℕ) (part : ℕ) (request : Option ℕ) (m : Option Message) (ops : List Operation) → AllByRecursion (IsBegunBy n) ops → AllByRecursion (IsBegunBy n) (cons_option (option_map (operation n part request) m) ops)
cons_begun n part request None ops a = a
cons_begun n part request (Some m) ops a = (refl, a)

started_begun : (r : Rank) (earlier : List Call) (call : Call) (index : ℕ) (requests : List ℕ) → AllByRecursion (IsBegunBy (length earlier)) (started_from r earlier call index requests)
started_begun r earlier call index [] = tt
started_begun r earlier call index (request ∷ requests) = more (message_started r earlier call index request) (started_begun r earlier call (suc index) requests)
  where
    more : (m : Option Message) → AllByRecursion (IsBegunBy (length earlier)) (started_from r earlier call (suc index) requests)
        → AllByRecursion (IsBegunBy (length earlier)) (with_started (length earlier) index request m (started_from r earlier call (suc index) requests))
    more None a = a
    more (Some m) a = (refl, a)

either_begun : (n : ℕ) (starts : Bool) (ops others : List Operation) → AllByRecursion (IsBegunBy n) ops → AllByRecursion (IsBegunBy n) others → AllByRecursion (IsBegunBy n) (if starts then ops else others)
either_begun n true ops others a b = a
either_begun n false ops others a b = b

-- all that a call begins has its number
pub begun_by : (r : Rank) (earlier : List Call) (call : Call) → AllByRecursion (IsBegunBy (length earlier)) (operations_at r earlier call)
unfolding operations_at
begun_by r earlier call =
    either_begun (length earlier) (is_persistent_kind call.body) (started_from r earlier call 0 (started_of call.body)) (begun_here r earlier call)
    (started_begun r earlier call 0 (started_of call.body))
    (cons_begun (length earlier) (part_in call.body (Buffer Send)) (begun_request call) (message_at r earlier call Send) (filter_map (begun_by_side r earlier call) (Receive ∷ []))
    (cons_begun (length earlier) (part_in call.body (Buffer Receive)) (begun_request call) (message_at r earlier call Receive) [] tt))

-- an operation of one of so many calls
abbrev pub IsBegunBelow : ℕ → Operation → Type 0
IsBegunBelow n op = op.call < n

turns_begun : (r : Rank) (n : ℕ) (ts : List Turn) → AllByRecursion (IsTurnBelow n) ts → AllByRecursion (IsBegunBelow n) (flat_map (operations_in_turn r) ts)
turns_begun r n [] below = tt
turns_begun r n (t ∷ ts) below =
    all_join (IsBegunBelow n) (operations_at r t.earlier t.call) (flat_map (operations_in_turn r) ts)
    (all_weaker (IsBegunBy (length t.earlier)) (IsBegunBelow n) (λ op e. omega (arith, below.0)) (operations_at r t.earlier t.call) (begun_by r t.earlier t.call))
    (turns_begun r n ts below.1)

-- each operation of a rank is of one of its calls
pub begun_below : (r : Rank) (calls : List Call) → AllByRecursion (IsBegunBelow (length calls)) (operations_of r calls)
begun_below r calls = turns_begun r (length calls) (turns calls) (turns_below calls)
