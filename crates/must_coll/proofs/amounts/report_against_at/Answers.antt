use Rattle.std.proofs.Common.{◌≡◌, OnOk, Option, Some, None, length, sym, ap, subst, ◌∙◌}
use Rattle.std.specs.Prelude.{slice_get}
use Rattle.std.specs.Option.{option_copied}
use Rattle.must_find.specs.Adds.{Adds}
use Rattle.must_coll.specs.declared.item.WaveItem.{WaveItem}
use Rattle.must_coll.specs.Given.{GivenFrom}
use Rattle.must_coll.specs.Amounts.{against}
use Rattle.must_coll.proofs.NoCall.{adds_nothing, none_from}
use Rattle.must_coll.proofs.amounts.report_against_at.Goals as goal

pub returns-in-None : goal.returns-in-None
returns-in-None c =
    let calls = c.args.calls.now in
    let is : slice_get c.args.calls.now c.args.j ≡ None = sym c.call_at.ensures ∙ ap option_copied c.in-None.is in
    adds_nothing c.args.out.now (GivenFrom (against c.args.exchange (length calls) c.args.j (slice_get c.args.calls.now c.args.j)) 0 calls)
    (none_from (against c.args.exchange (length calls) c.args.j (slice_get c.args.calls.now c.args.j)) (λ i x. ap (λ (o : Option WaveItem). against c.args.exchange (length calls) c.args.j o i x) is) 0 calls)

pub returns-in-Some : goal.returns-in-Some
returns-in-Some c =
    let calls = c.args.calls.now in
    let is : slice_get c.args.calls.now c.args.j ≡ Some c.in-Some.call.now = sym c.call_at.ensures ∙ ap option_copied c.in-Some.is in
    subst (λ (o : Option WaveItem). OnOk c.report_against.result (Adds c.args.out.now c.report_against.new.out (GivenFrom (against c.args.exchange (length calls) c.args.j o) 0 calls))) (sym is) c.report_against.ensures
