use Rattle.std.proofs.Common.{[]}
use Rattle.must_report.specs.Csv.{header}
use Rattle.csv.specs.Writing.{fields_text, is_blank}
use Rattle.must_report.proofs.csv_text.push_header.Goals as goal

pub returns : goal.returns
unfolding header fields_text is_blank
returns c = λ holds. c.push_fields.ensures [] holds
