use Rattle.must_node.specs.Waits.{IsWaitOf, IsWaitRow}
use Rattle.must_node.proofs.Waiting.{rows_told, ok_adds_as}
use Rattle.must_node.proofs.waits.add_waits.Goals as goal

pub returns : goal.returns
returns c =
    let rows = c.args.rows.now in
    let blocked = c.in_ok-blocked.blocked in
    ok_adds_as c.report_blocked.result c.args.out.now c.report_blocked.new.out (IsWaitOf rows blocked blocked) (IsWaitRow rows) (λ f. rows_told rows blocked f c.in_ok-blocked.ensures) c.report_blocked.ensures
