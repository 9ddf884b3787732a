use Rattle.std.proofs.Common.{◌≡◌, ◌≤◌, take, length}
use Rattle.must_find.specs.Report.{shown}
use Rattle.must_report.proofs.shown.count_lines.Given as goal

abbrev pub invariant-loop-f : goal.invariant-loop-f
invariant-loop-f l = record {
  lines : l.lines ≡ length (shown l.rules (take l.f-index l.findings));
  few : l.lines ≤ l.f-index;
}
