use Rattle.std.specs.Prelude.{map}
use Rattle.must_hold.specs.Told.{Wrong, recorded_seen}
use Rattle.must_hold.specs.Judging.{Judges}
use Rattle.must_hold.proofs.Judged.{Gathers}
use Rattle.must_hold.proofs.judge.judge_all.Given as goal

abbrev pub invariant-loop-completed : goal.invariant-loop-completed
invariant-loop-completed l = (wrong : Wrong) → Judges wrong l.table l.at.rank l.tag_ub → Gathers wrong l.at.rank l.at.call (map recorded_seen l.completions) l.completed-index l.fn.rows l.told l.seen l.rows
