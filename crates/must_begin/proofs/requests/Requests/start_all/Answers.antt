use Rattle.std.proofs.Common.{ℕ, List, get_or, take, length, refl, sym, ap, subst, ◌∙◌}
use Rattle.std.proofs.lemmas.List.{take_all}
use Rattle.must_rules.specs.Making.{is_in}
use Rattle.must_messages.specs.Asking.{AreBegun}
use Rattle.must_rules.specs.Operations.{started_from}
use Rattle.must_parts.proofs.Starting.{seen_more}
use Rattle.must_begin.specs.Telling.{IsBegunOf}
use Rattle.must_begin.proofs.Starting.{one_started, begun_more}
use Rattle.must_begin.proofs.requests.Requests.start_all.Goals as goal

pub loop-i-preserved : goal.loop-i-preserved
loop-i-preserved g c =
    let xs = c.args.requests.now in
    let i = c.loop-i.i in
    let x = get_or xs i 0 in
    let at = (c.in-Ok.ensures).1 in
    record {
      begun_are = λ r calls call starts clear named keeps.
          begun_more r calls call xs i x _ _ _ c.loop-i-test.true refl (c.loop-i.invariant.begun_are r calls call starts clear named keeps)
          (subst (λ (n : ℕ). IsBegunOf (length calls) c.in_ok-started.started (one_started r calls call n x)) at
          (c.in_ok-started.ensures r calls call starts clear
          (c.in_ok-again.ensures.again ∙ c.loop-i.invariant.seen_are x ∙ ap (λ (n : ℕ). is_in (take n xs) x) (sym at) ∙ ap (λ (l : List ℕ). is_in (take c.in-Ok.index l) x) (sym named)) keeps))
          c.in_ok-push_begun.ensures;
      seen_are = λ h. seen_more xs i h _ _ c.loop-i-test.true (c.loop-i.invariant.seen_are h) (c.in_ok-again.ensures.seen h);
    }

pub returns : goal.returns
returns g c = λ r calls call starts clear named keeps.
    subst (λ (l : List ℕ). AreBegun (length calls) c.loop-i.begun.items (started_from r calls call 0 l)) (take_all c.loop-i.i c.args.requests.now c.loop-i-test.false) (c.loop-i.invariant.begun_are r calls call starts clear named keeps)
