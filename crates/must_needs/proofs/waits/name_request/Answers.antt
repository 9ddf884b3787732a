use Rattle.std.proofs.Common.{sym, ap, ◌∙◌}
use Rattle.must_needs.specs.Stating.{name_of}
use Rattle.must_needs.proofs.Requesting.{named_operation}
use Rattle.must_needs.proofs.waits.name_request.Goals as goal

pub returns : goal.returns
returns g c = λ r calls starts numbered keeps started.
    let number = c.under_way-number.result in
    named_operation r calls c.args.request c.in-Some.start (g.V.View.starts c.args.view.now) starts (sym c.start_of.ensures ∙ c.in-Some.is) number
    (sym (started c.in-Some.start) ∙ sym c.contains.ensures ∙ c.if-contains.false) (c.under_way-number.ensures r calls keeps numbered)
    c.name_of.result (c.name_of.ensures ∙ ap (name_of number) (c.count.ensures r calls keeps))
