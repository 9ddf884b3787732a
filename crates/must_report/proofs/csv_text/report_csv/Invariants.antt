use Rattle.std.proofs.Common.{◌++◌, take}
use Rattle.std.specs.List.{flat_map}
use Rattle.must_find.specs.Report.{shown}
use Rattle.must_report.specs.Csv.{header, row_of}
use Rattle.must_report.specs.CsvWriter.{Holds}
use Rattle.must_report.proofs.csv_text.report_csv.Given as goal

abbrev pub invariant-loop-f : goal.invariant-loop-f
invariant-loop-f l = Holds l.out (header ++ flat_map (row_of l.rules) (shown l.rules (take l.f-index l.findings)))
