use Rattle.std.proofs.Common.{arith}
use Rattle.must_report.proofs.Lines.{total_more}
use Rattle.must_report.proofs.shown.count_lines.Goals as goal

pub loop-f-preserved : goal.loop-f-preserved
loop-f-preserved c = record {
  lines = total_more c.args.rules.now c.args.findings.now c.loop-f.f-index _ c.loop-f.lines c.lines_of-lines.result c.loop-f-test.true c.lines_of-lines.ensures.lines c.loop-f.invariant.lines;
  few = omega (arith, c.loop-f.invariant.few, c.lines_of-lines.ensures.few);
}
