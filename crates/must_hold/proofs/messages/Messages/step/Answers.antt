use Rattle.std.proofs.Common.{ℕ, List, [], ◌∷◌, ◌++◌, length, ap, sym, subst, ◌∙◌, arith, w32}
use Rattle.std.proofs.lemmas.Int.{to_z-of_z}
use Rattle.std.proofs.lemmas.List.{length-append}
use Rattle.must_messages.specs.Asking.{AreBegun}
use Rattle.must_rules.specs.Operations.{operations_at, operations_of}
use Rattle.must_hold.proofs.Taking.{gives_more, given_next}
use Rattle.must_hold.proofs.messages.Messages.step.Goals as goal

pub returns-clause-keeps : goal.returns-clause-keeps
returns-clause-keeps c = λ r calls k numbered are.
    let call = c.args.call.now in
    let begun = subst (λ (n : ℕ). AreBegun n c.args.begun.items (operations_at r calls call)) k.number are in
    let takes = c.in_ok-take_call.ensures.takes r calls k.rank_is (k.tag_is ∙ sym (to_z-of_z w32 c.args.self.now.tag_ub k.tag_fits)) k.number numbered begun k.holds in
    let front = c.in_ok-give.ensures r (calls ++ call ∷ []) (operations_of r (calls ++ call ∷ [])) takes.holds in
    let e = k.number in
    let n = c.in_ok-next.ensures in
    record {
      rank_is = k.rank_is;
      tag_is = k.tag_is;
      tag_fits = k.tag_fits;
      number = omega (arith, e, n, length-append calls (call ∷ []));
      given_is = given_next r calls call _ _ _ _ (takes.given ∙ k.given_is) front;
      holds = front.holds;
      needs = c.in_ok-take_call.ensures.needs r calls k.rank_is (k.tag_is ∙ sym (to_z-of_z w32 c.args.self.now.tag_ub k.tag_fits)) k.number numbered begun k.holds k.needs;
    }

pub returns-clause-gives : goal.returns-clause-gives
returns-clause-gives c = λ r calls k numbered are.
    let call = c.args.call.now in
    let begun = subst (λ (n : ℕ). AreBegun n c.args.begun.items (operations_at r calls call)) k.number are in
    let takes = c.in_ok-take_call.ensures.takes r calls k.rank_is (k.tag_is ∙ sym (to_z-of_z w32 c.args.self.now.tag_ub k.tag_fits)) k.number numbered begun k.holds in
    gives_more r calls call _ _ _ _ (takes.given ∙ k.given_is) (c.in_ok-give.ensures r (calls ++ call ∷ []) (operations_of r (calls ++ call ∷ [])) takes.holds)

pub returns-clause-rows : goal.returns-clause-rows
returns-clause-rows c = λ r calls k numbered are.
    let begun = subst (λ (n : ℕ). AreBegun n c.args.begun.items (operations_at r calls c.args.call.now)) k.number are in
    (c.in_ok-take_call.ensures.takes r calls k.rank_is (k.tag_is ∙ sym (to_z-of_z w32 c.args.self.now.tag_ub k.tag_fits)) k.number numbered begun k.holds).rows
