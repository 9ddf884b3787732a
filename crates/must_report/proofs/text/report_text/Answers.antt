use Rattle.std.proofs.Common.{string_bytes}
use Rattle.must_report.proofs.Lines.{text_more}
use Rattle.must_report.proofs.text.report_text.Goals as goal

pub loop-f-preserved : goal.loop-f-preserved
loop-f-preserved c =
    text_more c.args.rules.now c.args.findings.now c.loop-f.f-index _ (string_bytes c.loop-f.text) (string_bytes c.push_shown.new.out) c.loop-f-test.true c.in_ok-push_shown.ensures c.loop-f.invariant
