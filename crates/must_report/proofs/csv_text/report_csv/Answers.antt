use Rattle.must_report.proofs.Rows.{rows_more}
use Rattle.must_report.proofs.csv_text.report_csv.Goals as goal

pub loop-f-preserved : goal.loop-f-preserved
loop-f-preserved c = rows_more c.push_shown.new.out c.args.rules.now c.args.findings.now c.loop-f.f-index _ c.loop-f-test.true (c.in_ok-push_shown.ensures _ c.loop-f.invariant)
