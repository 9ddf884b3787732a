use Rattle.std.proofs.Common.{◌≡◌, OnOk, cond, Option, Some, None, sym, ap, subst, ◌∙◌}
use Rattle.std.specs.Prelude.{slice_get}
use Rattle.std.specs.Option.{option_copied}
use Rattle.must_find.specs.Adds.{Adds}
use Rattle.must_coll.specs.declared.item.WaveItem.{WaveItem}
use Rattle.must_coll.specs.declared.exchange.Exchange.{Exchange}
use Rattle.must_coll.specs.Given.{GivenFrom}
use Rattle.must_coll.specs.Amounts.{exchange_of, common_root, rooted_row, rootless_row, amount_row, IsAmountRow}
use Rattle.must_coll.proofs.NoCall.{adds_nothing, none_from}
use Rattle.must_coll.proofs.amounts.report_amounts.Goals as goal

pub returns-in-None : goal.returns-in-None
returns-in-None c =
    let calls = c.args.calls.now in
    let is : slice_get calls 0 ≡ None = sym c.first.ensures.value ∙ ap option_copied c.in-None.is in
    adds_nothing c.args.out.now (IsAmountRow calls) (none_from (amount_row (slice_get calls 0) calls) (λ i x. ap (λ (o : Option WaveItem). amount_row o calls i x) is) 0 calls)

pub returns-then-has_root : goal.returns-then-has_root
returns-then-has_root c =
    let calls = c.args.calls.now in
    let k = c.in-Some.first.now.kind in
    let is : slice_get calls 0 ≡ Some c.in-Some.first.now = sym c.first.ensures.value ∙ ap option_copied c.in-Some.is in
    let exchange = subst (λ (e : Exchange). OnOk c.report_rooted.result (Adds c.args.out.now c.report_rooted.new.out (GivenFrom (rooted_row e calls (common_root calls)) 0 calls))) c.exchange_of-exchange.ensures c.report_rooted.ensures in
    let by_root = subst (λ b. OnOk c.report_rooted.result (Adds c.args.out.now c.report_rooted.new.out
    (GivenFrom (λ i x. cond b (rooted_row (exchange_of k) calls (common_root calls) i x) (rootless_row (exchange_of k) calls i x)) 0 calls))) (sym (sym c.has_root.ensures ∙ c.if-has_root.true)) exchange in
    subst (λ (o : Option WaveItem). OnOk c.report_rooted.result (Adds c.args.out.now c.report_rooted.new.out (GivenFrom (amount_row o calls) 0 calls))) (sym is) by_root

pub returns-else-has_root : goal.returns-else-has_root
returns-else-has_root c =
    let calls = c.args.calls.now in
    let k = c.in-Some.first.now.kind in
    let is : slice_get calls 0 ≡ Some c.in-Some.first.now = sym c.first.ensures.value ∙ ap option_copied c.in-Some.is in
    let exchange = subst (λ (e : Exchange). OnOk c.report_rootless.result (Adds c.args.out.now c.report_rootless.new.out (GivenFrom (rootless_row e calls) 0 calls))) c.exchange_of-exchange.ensures c.report_rootless.ensures in
    let by_root = subst (λ b. OnOk c.report_rootless.result (Adds c.args.out.now c.report_rootless.new.out
    (GivenFrom (λ i x. cond b (rooted_row (exchange_of k) calls (common_root calls) i x) (rootless_row (exchange_of k) calls i x)) 0 calls))) (sym (sym c.has_root.ensures ∙ c.if-has_root.false)) exchange in
    subst (λ (o : Option WaveItem). OnOk c.report_rootless.result (Adds c.args.out.now c.report_rootless.new.out (GivenFrom (amount_row o calls) 0 calls))) (sym is) by_root
