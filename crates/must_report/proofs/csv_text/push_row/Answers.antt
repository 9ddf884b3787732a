use Rattle.std.proofs.Common.{◌∙◌, rules}
use Rattle.must_report.proofs.Rows.{line_is}
use Rattle.must_report.proofs.csv_text.push_row.Goals as goal

pub returns : goal.returns
returns c = λ before holds.
    rw (line_is c.args.rules.now c.args.f.now c.as_bytes.result.now c.as_bytes-2.result.now c.as_bytes-3.result.now c.as_bytes-4.result.now c.as_bytes-5.result.now c.as_bytes-6.result.now c.as_bytes-7.result.now c.as_bytes-8.result.now
    (c.as_bytes.ensures.value ∙ c.format.ensures.text) (c.as_bytes-2.ensures.value ∙ c.format-2.ensures.text) (c.as_bytes-3.ensures.value ∙ c.format-3.ensures.text)
    (c.as_bytes-4.ensures.value ∙ rw c.get.ensures at c.severity_name.ensures) (c.as_bytes-5.ensures.value ∙ c.code.ensures) (c.as_bytes-6.ensures.value ∙ c.see_rank.ensures)
    (c.as_bytes-7.ensures.value ∙ c.see_call.ensures) (c.as_bytes-8.ensures.value ∙ search (rules, c.format-4.ensures.text)))
    at (c.push_fields.ensures before holds)
