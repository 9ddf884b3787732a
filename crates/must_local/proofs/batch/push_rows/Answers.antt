use Rattle.std.proofs.Common.{arith}
use Rattle.must_local.proofs.Gathered.{row_behind}
use Rattle.must_local.proofs.batch.push_rows.Goals as goal

pub loop-row-preserved : goal.loop-row-preserved
loop-row-preserved c = row_behind c.args.entries.now.items c.loop-row.entries.items _ c.args.rows.now c.loop-row.row-index _ (omega arith) c.in_ok-push.ensures.items c.loop-row.invariant
