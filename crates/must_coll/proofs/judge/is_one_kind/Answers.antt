use Rattle.std.proofs.Common.{sym, ap, ◌∙◌}
use Rattle.std.specs.Option.{option_copied}
use Rattle.must_coll.proofs.NoCall.{none_agrees}
use Rattle.must_coll.proofs.judge.is_one_kind.Goals as goal

pub returns-in-None : goal.returns-in-None
returns-in-None c = none_agrees c.args.calls.now (sym c.first.ensures.value ∙ ap option_copied c.in-None.is)
