use Rattle.std.proofs.Common.{refl}
use Rattle.must_local.proofs.Walked.{rows_seen}
use Rattle.must_local.proofs.walk.RankWalk.judge.Goals as goal

pub returns-clause-rows : goal.returns-clause-rows
returns-clause-rows c = λ version calls knows.
    rows_seen version _ c.args.self.now c.self.view_is calls c.args.call.now _ c.is_finalize_call.result c.ends_here-ends.result c.new-rows.result c.add_frames.new.rows c.check_args.new.out c.add_untaken.new.rows c.add_leaks_at.new.rows
    c.new-rows.ensures knows c.is_finalize_call.ensures c.ends_here-ends.ensures refl refl refl c.in_ok-add_frames.ensures c.in_ok-usable.ensures.rows c.in_ok-add_untaken.ensures (λ is_clear stands. c.in_ok-add_leaks_at.ensures is_clear calls stands)
