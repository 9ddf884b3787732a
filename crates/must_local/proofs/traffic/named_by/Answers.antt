use Rattle.std.proofs.Common.{sym, ◌∙◌}
use Rattle.must_local.proofs.Trading.{on_told, on_none}
use Rattle.must_local.proofs.traffic.named_by.Goals as goal

pub returns-in-Some : goal.returns-in-Some
returns-in-Some c = λ r calls s. on_told r c.args.handles.now calls c.args.body.now c.in-Some.comm c.named.result s (sym c.in-Some.is ∙ c.comm_named.ensures) c.named.ensures

pub returns-in-None : goal.returns-in-None
returns-in-None c = λ r calls s. on_none r calls c.args.body.now (sym c.in-None.is ∙ c.comm_named.ensures)
