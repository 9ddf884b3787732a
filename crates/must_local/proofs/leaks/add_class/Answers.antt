use Rattle.std.proofs.Common.{arith}
use Rattle.must_local.proofs.Gathered.{open_more, open_last, few_live}
use Rattle.must_local.proofs.leaks.add_class.Goals as goal

pub loop-i-preserved : goal.loop-i-preserved
loop-i-preserved c = record {
  few = omega (arith, c.in_ok-part.ensures.0, few_live c.state.result);
  so_far = λ is_clear calls stands.
      open_more c.args.at.rank c.args.at.call c.args.rule calls c.args.class c.loop-i.i c.loop-i.part c.in_ok-part.part c.state.result c.args.rows.now c.loop-i.rows c.add_live.new.rows
      (c.state.ensures.stands is_clear calls stands) c.in_ok-part.ensures.0 (c.loop-i.invariant.so_far is_clear calls stands) c.in_ok-part.ensures.1;
}

pub returns : goal.returns
returns c = λ is_clear calls stands. open_last c.args.at.rank c.args.at.call c.args.rule calls c.args.class c.loop-i.i c.loop-i.part c.args.rows.now c.loop-i.rows (omega (arith, c.made-i-end.ensures.count is_clear calls stands)) (c.loop-i.invariant.so_far is_clear calls stands)
