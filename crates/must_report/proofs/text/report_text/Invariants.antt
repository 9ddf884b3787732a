use Rattle.std.proofs.Common.{◌≡◌, take, string_bytes}
use Rattle.std.specs.List.{flat_map}
use Rattle.must_find.specs.Report.{line_of, shown}
use Rattle.must_report.proofs.text.report_text.Given as goal

abbrev pub invariant-loop-f : goal.invariant-loop-f
invariant-loop-f l = string_bytes l.text ≡ flat_map (line_of l.rules) (shown l.rules (take l.f-index l.findings))
