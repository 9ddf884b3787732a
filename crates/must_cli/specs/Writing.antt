-- What a check writes (docs/RULES.md, "Reports").
use Rattle.std.specs.Prelude.{◌↔◌, ℕ, ◌<◌, Bool, IsTrue, List, length, if◌then◌else◌}
use Rattle.must_base.specs.Views.{PutsAll, PutsFront}
use Rattle.must_find.specs.declared.finding.Finding.{Finding}
use Rattle.must_find.specs.declared.severity.Severity.{Severity}
use Rattle.must_find.specs.Report.{shown, report_of}
use Rattle.must_report.specs.Csv.{csv_of}
use Rattle.must_cli.specs.Outside.{Output}

-- how a report is written: as CSV or as text, and with which severity of each rule
pub record Form : Type 0 where
  pub csv : Bool
  pub rules : List Severity

-- the report of these rows
abbrev pub report_in : Form → List Finding → List ℕ
report_in form rows = if form.csv then csv_of form.rules rows else report_of form.rules rows

-- the report of these rows was put, and it has a line of a finding exactly where `found`
pub record Writes (form : Form) (out : Output) (rows : List Finding) (found : Bool) : Type 0 where
  pub written : PutsAll out.old out.new (report_in form rows)
  pub found_if : IsTrue found ↔ (0 < length (shown form.rules rows))

-- a front of the report of these rows was put, since a put failed
abbrev pub Cuts : Form → Output → List Finding → Type 0
Cuts form out rows = PutsFront out.old out.new (report_in form rows)
