use Rattle.must_local.proofs.Walked.{end_seen}
use Rattle.must_local.proofs.walk.RankWalk.last_rows.Goals as goal

pub returns : goal.returns
returns c = λ version calls knows. end_seen version _ c.args.self.now c.self.view_is calls c.new-rows.result c.add_missing.new.rows c.new-rows.ensures knows c.in_ok-add_missing.ensures
