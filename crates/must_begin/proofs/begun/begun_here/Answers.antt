use Rattle.std.proofs.Common.{ℕ, List, Option, length, ◌++◌, ap, subst, ◌∙◌}
use Rattle.std.specs.Option.{option_map, option_to_list}
use Rattle.must_call.specs.declared.field.Side.TheVariants.{Send, Receive}
use Rattle.must_messages.specs.declared.asked.Begun.{Begun}
use Rattle.must_rules.specs.Operations.{operation, message_of, message_at}
use Rattle.must_begin.specs.Telling.{IsBegunOf}
use Rattle.must_begin.proofs.Beginning.{both_begun}
use Rattle.must_begin.proofs.Seeing.{parts_seen}
use Rattle.must_begin.proofs.begun.begun_here.Goals as goal

pub returns : goal.returns
returns g c = λ r calls sees on.
    let call = c.args.call.now in
    let n = length calls in
    let sent = c.begun_with.ensures n (message_of r calls call Send) (c.in_ok-sent.ensures r calls (parts_seen r calls _ _ _ _ sees call.body c.args.usable.now.parts c.requires.parts) sees.stands on) in
    let awaited = c.begun_with-2.ensures n (message_at r calls call Receive) (c.in_ok-awaited.ensures r calls sees on) in
    both_begun r calls call _ c.begun_with.result c.begun_with-2.result c.taken_part.result c.requires.plain c.taken_part.ensures
    (c.in_ok-push_begun-2.ensures ∙ ap (λ (l : List Begun). l ++ option_to_list c.begun_with-2.result) (c.in_ok-push_begun.ensures ∙ ap (λ (l : List Begun). l ++ option_to_list c.begun_with.result) c.new-begun.ensures.items))
    (subst (λ (q : Option ℕ). IsBegunOf n c.begun_with.result (option_map (operation n 0 q) (message_of r calls call Send))) c.begun_request-request.ensures sent)
    (subst (λ (q : Option ℕ). IsBegunOf n c.begun_with-2.result (option_map (operation n c.taken_part.result q) (message_at r calls call Receive))) c.begun_request-request.ensures awaited)
