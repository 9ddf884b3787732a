use Rattle.must_rules.specs.Limits.{type_limit_at}
use Rattle.must_local.proofs.handles.Handles.take_type.Goals as goal

pub returns-in-Err-clause-over : goal.returns-in-Err-clause-over
returns-in-Err-clause-over c = λ is_clear calls clear s. c.type_limit.ensures (type_limit_at c.args.self.now.types.table.weight_limit is_clear calls c.args.call.now) (c.in-Err.ensures.over is_clear calls clear s)
