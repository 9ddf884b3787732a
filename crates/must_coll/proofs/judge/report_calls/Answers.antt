use Rattle.std.proofs.Common.{sym, ap, ◌∙◌}
use Rattle.std.specs.Option.{option_copied}
use Rattle.must_coll.proofs.NoCall.{nothing_added}
use Rattle.must_coll.proofs.judge.report_calls.Goals as goal

pub returns-in-None : goal.returns-in-None
returns-in-None c = nothing_added c.args.out.now c.args.missing c.args.calls.now (sym c.first.ensures.value ∙ ap option_copied c.in-None.is)
