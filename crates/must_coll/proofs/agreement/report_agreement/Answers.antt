use Rattle.std.proofs.Common.{◌≡◌, OnOk, Option, Some, length, sym, ap, subst, ◌∙◌}
use Rattle.std.specs.Prelude.{◌⊎◌}
use Rattle.std.specs.Option.{option_copied}
use Rattle.must_find.specs.Adds.{Adds}
use Rattle.must_coll.specs.declared.item.WaveItem.{WaveItem}
use Rattle.must_coll.specs.Given.{GivenBy}
use Rattle.must_coll.specs.Agreement.{first_counting, root_row, operation_row, IsAgreementRow}
use Rattle.must_coll.proofs.NoCall.{adds_nothing, ok_adds_then, no_agreement}
use Rattle.must_coll.proofs.agreement.report_agreement.Goals as goal

pub returns-in-None : goal.returns-in-None
returns-in-None c = adds_nothing c.args.out.now (IsAgreementRow c.args.calls.now) (λ f. no_agreement c.args.calls.now f (sym c.first_counting.ensures ∙ ap option_copied c.in-None.is))

pub returns-in_ok-report_roots-in-Some : goal.returns-in_ok-report_roots-in-Some
returns-in_ok-report_roots-in-Some c =
    let calls = c.args.calls.now in
    let first = c.in-Some.first.now in
    let is : first_counting calls ≡ Some first = sym c.first_counting.ensures ∙ ap option_copied c.in-Some.is in
    subst (λ (o : Option WaveItem). OnOk c.report_operations.result (Adds c.args.out.now c.report_operations.new.out (λ f. GivenBy (root_row (length calls) o) calls f ⊎ GivenBy (operation_row o) calls f))) (sym is)
    (ok_adds_then c.report_operations.result c.args.out.now c.report_roots.new.out c.report_operations.new.out (GivenBy (root_row (length calls) (Some first)) calls) (GivenBy (operation_row (Some first)) calls) c.in_ok-report_roots-in-Some.ensures c.report_operations.ensures)
