use Rattle.must_report.proofs.Rows.{one_more}
use Rattle.must_report.proofs.csv_text.push_fields.Goals.{in-Ok, in-Err}
use Rattle.must_report.proofs.csv_text.push_fields.Goals as goal

pub returns : goal.returns
returns c = λ before holds. elim c.match-write_fields.branch [
  | in-Ok w ↦ let e = w.in-Ok.ensures in
      rw w.result-is (one_more c.args.out.now c.write_fields.new.self before _ holds e.setup e.ended e.clean (rw holds.setup at (e.bytes holds.fields holds.clean (rw holds.setup (λ e. cc e)))))
  | in-Err w ↦ rw w.result-is tt
]
