use Rattle.std.proofs.Common.{map, sym, ◌∙◌}
use Rattle.std.proofs.lemmas.Result.{IfOk-weaker}
use Rattle.must_hold.specs.Ended.{need_seen}
use Rattle.must_needs.specs.Naming.{name_need}
use Rattle.must_needs.proofs.Telling.{each_any}
use Rattle.must_needs.proofs.tell.any_way.Goals as goal

pub returns : goal.returns
returns c = IfOk-weaker c.each_way.result _ _ (λ ways is. is ∙ each_any (name_need c.args.rank (map (need_seen c.args.rank) c.args.needs.now)) c.args.names.now (sym c.is_empty.ensures ∙ c.if-is_empty.false)) c.each_way.ensures
