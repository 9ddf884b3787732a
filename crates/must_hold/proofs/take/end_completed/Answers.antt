use Rattle.std.proofs.Common.{ℕ, List, take, refl, sym, subst, ◌+◌, ◌∙◌, arith}
use Rattle.std.specs.Ordering.{nat_cmp}
use Rattle.std.specs.BTreeMap.{get}
use Rattle.std.proofs.lemmas.List.{take_all}
use Rattle.must_rules.specs.Making.{is_in}
use Rattle.must_hold.specs.Queue.{HoldsWhile}
use Rattle.must_hold.specs.Told.{end_told}
use Rattle.must_hold.specs.Needing.{HaveNeedsWhile}
use Rattle.must_hold.proofs.Ending.{while_same, complete_step}
use Rattle.must_hold.proofs.Needs.{while_alike, complete_needs}
use Rattle.must_hold.proofs.take.end_completed.Goals as goal

pub loop-request-init : goal.loop-request-init
loop-request-init c = (
  refl,
  λ r calls call ops w closes. while_same r calls call _ _ ops c.args.table.now (λ q. refl) w,
  λ r calls call ops w closes have. while_alike r calls call ops _ _ c.args.needs.now.items (λ q. refl) have,
)

pub loop-request-preserved : goal.loop-request-preserved
loop-request-preserved c = (
  c.in_ok-settling.ensures.given ∙ c.loop-request.invariant.0,
  λ r calls call ops w closes.
      complete_step r calls call ops c.args.rank c.args.requests.now (λ q. end_told c.args.k (get nat_cmp c.args.told.now q)) c.loop-request.request-index c.loop-request.table c.end.new.self c.end_for-end.result _ (omega arith)
      c.end_for-end.ensures (λ e. (c.in_ok-settling.ensures.none e).1) c.in_ok-settling.ensures.some closes (c.loop-request.invariant.1 r calls call ops w closes),
  λ r calls call ops w closes have.
      subst (HaveNeedsWhile r calls call (is_in (take (c.loop-request.request-index + 1) c.args.requests.now)) ops) (sym c.set_need.ensures)
      (complete_needs r calls call ops c.args.rank c.args.requests.now (λ q. end_told c.args.k (get nat_cmp c.args.told.now q)) c.loop-request.request-index c.loop-request.table c.end.new.self c.end_for-end.result _ c.loop-request.needs.items (omega arith)
      c.end_for-end.ensures (λ e. (c.in_ok-settling.ensures.none e).0) c.in_ok-settling.ensures.some closes (c.loop-request.invariant.1 r calls call ops w closes) (c.loop-request.invariant.2 r calls call ops w closes have)),
)

pub returns-clause-given : goal.returns-clause-given
returns-clause-given c = c.loop-request.invariant.0

pub returns-clause-ended : goal.returns-clause-ended
returns-clause-ended c = λ r calls call ops w closes.
    subst (λ (xs : List ℕ). HoldsWhile r calls call (is_in xs) ops c.loop-request.table) (take_all c.loop-request.request-index c.args.requests.now c.loop-request-test.false) (c.loop-request.invariant.1 r calls call ops w closes)

pub returns-clause-needs : goal.returns-clause-needs
returns-clause-needs c = λ r calls call ops w closes have.
    subst (λ (xs : List ℕ). HaveNeedsWhile r calls call (is_in xs) ops c.loop-request.needs.items) (take_all c.loop-request.request-index c.args.requests.now c.loop-request-test.false) (c.loop-request.invariant.2 r calls call ops w closes have)
