-- The operations that a call begins with its own arguments.
use Rattle.std.proofs.Common.{◌≡◌, ℕ, Bool, true, false, cond, List, [], ◌∷◌, ◌++◌, length, Option, Some, None, refl, sym, ap, subst, ◌∙◌}
use Rattle.std.specs.Prelude.{option_map}
use Rattle.std.specs.List.{cons_option}
use Rattle.std.specs.Option.{option_to_list}
use Rattle.must_call.specs.declared.field.Side.TheVariants.{Send, Receive}
use Rattle.must_call.specs.declared.field.Field.TheVariants.{Buffer}
use Rattle.must_call.specs.declared.call.Call.{Call}
use Rattle.must_call.specs.Kinds.{kind_of}
use Rattle.must_call.specs.Bodies.{inputs_of}
use Rattle.must_rules.specs.Rank.{Rank}
use Rattle.must_rules.specs.Breaches.{sends, part_of, part_in}
use Rattle.must_rules.specs.Making.{is_persistent_kind, started_of}
use Rattle.must_rules.specs.Significant.{or_else}
use Rattle.must_rules.specs.PendingOperations.{begun_request}
use Rattle.must_messages.specs.declared.asked.Asked.{Asked}
use Rattle.must_messages.specs.declared.asked.Begun.{Begun}
use Rattle.must_rules.specs.Operations.{Operation, Message, operation, message_probed, waits_for_probe, message_at, begun_here, started_from, operations_at}
use Rattle.must_messages.specs.Asking.{AreBegun}
use Rattle.must_begin.specs.Telling.{IsAskedOf, IsBegunOf}
use Rattle.must_begin.proofs.Shapes.{Asks}
use Rattle.must_begin.proofs.Messages.{termless}

-- ---- one behind others

pub begun_join : (n : ℕ) (xs us : List Begun) (ys vs : List Operation) → AreBegun n xs ys → AreBegun n us vs → AreBegun n (xs ++ us) (ys ++ vs)
begun_join n [] us [] vs a b = b
begun_join n [] us (y ∷ ys) vs a b = absurd a
begun_join n (x ∷ xs) us [] vs a b = absurd a
begun_join n (x ∷ xs) us (y ∷ ys) vs a b = (a.0, begun_join n xs us ys vs a.1 b)

pub begun_option : (n : ℕ) (o : Option Begun) (p : Option Operation) → IsBegunOf n o p → AreBegun n (option_to_list o) (option_to_list p)
begun_option n None None m = tt
begun_option n None (Some y) m = absurd m
begun_option n (Some x) None m = absurd m
begun_option n (Some x) (Some y) m = (m, tt)

-- an operation with what is asked for
pub begun_asked : (n part : ℕ) (request : Option ℕ) (o : Option Asked) (m : Option Message) → IsAskedOf o m
    → IsBegunOf n (option_map (λ (asked : Asked). record { part = part; request = request; asked = asked }) o) (option_map (operation n part request) m)
begun_asked n part request None None is = tt
begun_asked n part request None (Some m) is = absurd is
begun_asked n part request (Some asked) None is = absurd is
begun_asked n part request (Some asked) (Some m) is = record { call_is = refl; part_is = refl; request_is = refl; asked_is = is }

-- ---- the sides of a call

-- what isn't there isn't asked for
pub asked_none : (m : Option Message) → m ≡ None → IsAskedOf None m
asked_none m e = subst (IsAskedOf None) (sym e) tt

-- what the first asks for, or else the other
pub asked_either : (a b : Option Asked) (m n : Option Message) → IsAskedOf a m → IsAskedOf b n → IsAskedOf (or_else a b) (or_else m n)
asked_either None b None n k l = l
asked_either None b (Some m) n k l = absurd k
asked_either (Some a) b None n k l = absurd k
asked_either (Some a) b (Some m) n k l = k

pub sent_part : (sending : Bool) → part_of sending Send ≡ 0
sent_part true = refl
sent_part false = refl

listed : (a b : Option Operation) → cons_option a (cons_option b []) ≡ option_to_list a ++ option_to_list b
listed None None = refl
listed None (Some b) = refl
listed (Some a) None = refl
listed (Some a) (Some b) = refl

module _ (r : Rank) (calls : List Call) (call : Call) where
  abbrev pub sent : ℕ → Option Operation
  sent part = option_map (operation (length calls) part (begun_request call)) (message_at r calls call Send)

  abbrev pub taken : Option Operation
  taken = option_map (operation (length calls) (part_in call.body (Buffer Receive)) (begun_request call)) (message_at r calls call Receive)

  pub operations_are : is_persistent_kind call.body ≡ false → operations_at r calls call ≡ option_to_list (sent 0) ++ option_to_list taken
  unfolding operations_at
  operations_are plain =
      ap (λ (p : Bool). cond p (started_from r calls call 0 (started_of call.body)) (begun_here r calls call)) plain
      ∙ listed (sent (part_in call.body (Buffer Send))) taken
      ∙ ap (λ (n : ℕ). option_to_list (sent n) ++ option_to_list taken) (sent_part (sends (inputs_of call.body)))

  pub starts_are : is_persistent_kind call.body ≡ true → operations_at r calls call ≡ started_from r calls call 0 (started_of call.body)
  unfolding operations_at
  starts_are persistent = ap (λ (p : Bool). cond p (started_from r calls call 0 (started_of call.body)) (begun_here r calls call)) persistent

  -- a call that asks for no message begins nothing
  pub none_begun : Asks call.body → operations_at r calls call ≡ []
  none_begun asks =
      let sent_none : message_at r calls call Send ≡ None = termless r calls call Send asks.nothing.0 in
      let taken_none : message_at r calls call Receive ≡ None =
      ap (λ (o : Option Message). or_else o (cond (waits_for_probe (kind_of call.body)) (message_probed r calls call) None)) (termless r calls call Receive asks.nothing.1.0)
      ∙ ap (λ (b : Bool). cond b (message_probed r calls call) None) asks.nothing.1.1 in
      operations_are asks.plain
      ∙ ap (λ (m : Option Message). option_to_list (option_map (operation (length calls) 0 (begun_request call)) m) ++ option_to_list taken) sent_none
      ∙ ap (λ (m : Option Message). option_to_list (option_map (operation (length calls) (part_in call.body (Buffer Receive)) (begun_request call)) m)) taken_none

  -- both sides of a call
  pub both_begun : (xs : List Begun) (a b : Option Begun) (part : ℕ) → is_persistent_kind call.body ≡ false → part ≡ part_in call.body (Buffer Receive) → xs ≡ option_to_list a ++ option_to_list b
      → IsBegunOf (length calls) a (option_map (operation (length calls) 0 (begun_request call)) (message_at r calls call Send))
      → IsBegunOf (length calls) b (option_map (operation (length calls) part (begun_request call)) (message_at r calls call Receive))
      → AreBegun (length calls) xs (operations_at r calls call)
  both_begun xs a b part plain p e k l =
      subst (λ (l : List Begun). AreBegun (length calls) l (operations_at r calls call)) (sym e)
      (subst (AreBegun (length calls) (option_to_list a ++ option_to_list b)) (sym (operations_are plain))
      (begun_join (length calls) (option_to_list a) (option_to_list b) (option_to_list (sent 0)) (option_to_list taken) (begun_option (length calls) a (sent 0) k)
      (begun_option (length calls) b taken (subst (λ (n : ℕ). IsBegunOf (length calls) b (option_map (operation (length calls) n (begun_request call)) (message_at r calls call Receive))) p l))))
