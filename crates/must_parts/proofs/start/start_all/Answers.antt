use Rattle.std.proofs.Common.{ℕ, List, Option, ◌++◌, take, sym, subst, ◌∙◌, append-nil}
use Rattle.std.proofs.lemmas.List.{take_all}
use Rattle.must_find.specs.declared.rule.Rule.TheVariants.{T3}
use Rattle.must_find.specs.Adds.{Adds}
use Rattle.must_rules.specs.Answer.{IsAnswer}
use Rattle.must_parts.specs.Holding.{AreHeld}
use Rattle.must_parts.specs.Starting.{begun_by, clash_started}
use Rattle.must_parts.proofs.Starting.{none_below, more_below, all_below, clash_at, clash_past, held_more}
use Rattle.must_parts.proofs.start.start_all.Goals as goal

pub loop-i-init : goal.loop-i-init
loop-i-init c = record {
  rows = λ part ops kept held. none_below c.args.at (clash_started c.args.at.rank c.args.at.call part ops c.args.started.now) c.args.rows.now;
  held = λ part ops kept held. subst (AreHeld c.args.pending.now) (sym (append-nil ops)) held;
}

pub loop-i-preserved : goal.loop-i-preserved
loop-i-preserved c = record {
  rows = λ part ops kept held.
      let before = c.loop-i.invariant.held part ops kept held in
      more_below c.args.at (clash_started c.args.at.rank c.args.at.call part ops c.args.started.now) c.loop-i.i _ _ c.loop-i.rows _
      (c.judge_part-answer.ensures (ops ++ begun_by c.args.at.call part (take c.loop-i.i c.args.started.now)) _ before (c.part_for-part.ensures part kept)
      ∙ clash_at c.args.at.rank c.args.at.call part ops c.args.started.now c.loop-i.i _ c.loop-i-test.true)
      (c.loop-i.invariant.rows part ops kept held)
      (subst (λ (n : ℕ). Adds c.loop-i.rows c.add_answer.new.rows (IsAnswer c.args.at.rank c.args.at.call T3 n c.judge_part-answer.result)) (c.in-Ok.ensures).1 c.in_ok-add_answer.ensures);
  held = λ part ops kept held.
      held_more c.args.at.call part c.args.started.now c.loop-i.i _ _ ops c.loop-i-test.true
      (c.in_ok-begin_started.ensures part (ops ++ begun_by c.args.at.call part (take c.loop-i.i c.args.started.now)) (c.part_for-part.ensures part kept) (c.loop-i.invariant.held part ops kept held));
}

pub returns : goal.returns
returns c = record {
  rows = λ part ops kept held.
      all_below c.args.at (clash_started c.args.at.rank c.args.at.call part ops c.args.started.now) c.loop-i.i c.args.rows.now c.loop-i.rows
      (λ n past. clash_past c.args.at.rank c.args.at.call part ops c.args.started.now c.loop-i.i n c.loop-i-test.false past) (c.loop-i.invariant.rows part ops kept held);
  stands = λ part ops kept held.
      subst (λ (os : List (Option ℕ)). AreHeld c.loop-i.pending (ops ++ begun_by c.args.at.call part os)) (take_all c.loop-i.i c.args.started.now c.loop-i-test.false) (c.loop-i.invariant.held part ops kept held);
}
