use Rattle.std.proofs.Common.{◌≡◌, ℕ, OnOk, Option, Some, None, sym, ap, subst, ◌∙◌}
use Rattle.must_find.specs.Adds.{Adds}
use Rattle.must_coll.specs.Given.{GivenFrom}
use Rattle.must_coll.specs.Amounts.{common_root, rooted_row}
use Rattle.must_coll.proofs.NoCall.{adds_nothing, none_from}
use Rattle.must_coll.proofs.amounts.report_rooted.Goals as goal

pub returns-in-None : goal.returns-in-None
returns-in-None c =
    let calls = c.args.calls.now in
    let is : common_root calls ≡ None = sym c.common_root.ensures ∙ c.in-None.is in
    adds_nothing c.args.out.now (GivenFrom (rooted_row c.args.exchange calls (common_root calls)) 0 calls)
    (none_from (rooted_row c.args.exchange calls (common_root calls)) (λ i x. ap (λ (o : Option ℕ). rooted_row c.args.exchange calls o i x) is) 0 calls)

pub returns-in-Some : goal.returns-in-Some
returns-in-Some c =
    let calls = c.args.calls.now in
    let is : common_root calls ≡ Some c.in-Some.root = sym c.common_root.ensures ∙ c.in-Some.is in
    subst (λ (o : Option ℕ). OnOk c.report_with_root.result (Adds c.args.out.now c.report_with_root.new.out (GivenFrom (rooted_row c.args.exchange calls o) 0 calls))) (sym is) c.report_with_root.ensures
