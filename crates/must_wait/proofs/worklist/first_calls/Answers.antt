use Rattle.std.proofs.Common.{◌∙◌, sym, ap, arith, refl}
use Rattle.must_wait.specs.Shared.{coded}
use Rattle.must_wait.proofs.Watched.{first_push, first_calls_push, first_skip, rank_of_call}
use Rattle.must_wait.proofs.worklist.first_calls.Goals as goal
use Rattle.must_wait.proofs.worklist.first_calls.Goals.{then-is_call+in_ok-push, else-is_call}

pub loop-rank-preserved : goal.loop-rank-preserved
loop-rank-preserved c = elim c.if-is_call.branch [
  | then-is_call+in_ok-push w ↦
      let is = ap (λ v. v.items) w.calls-is ∙ w.in_ok-push.ensures.items in
      record {
        all = first_push (coded c.args.rows.now) c.loop-rank.calls.items c.if-is_call.calls.items c.loop-rank.rank _ refl refl (sym w.if-is_call.ensures) is c.loop-rank.invariant.all;
        calls = first_calls_push (coded c.args.rows.now) c.loop-rank.calls.items c.if-is_call.calls.items c.loop-rank.rank _ refl refl (sym w.if-is_call.ensures) is c.loop-rank.invariant.calls;
      }
  | else-is_call w ↦ record {
    all = first_skip (coded c.args.rows.now) c.loop-rank.calls.items c.if-is_call.calls.items c.loop-rank.rank (sym w.if-is_call.ensures) (ap (λ v. v.items) w.calls-is) c.loop-rank.invariant.all;
    calls = rw w.calls-is c.loop-rank.invariant.calls;
  }
]

pub returns-clause-all : goal.returns-clause-all
returns-clause-all c = λ rank e. c.loop-rank.invariant.all rank (omega (arith, rank_of_call (coded c.args.rows.now) rank 0 e)) e
