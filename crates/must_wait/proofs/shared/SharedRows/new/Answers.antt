use Rattle.std.proofs.Common.{arith}
use Rattle.must_wait.proofs.Tables.{no_calls}
use Rattle.must_wait.proofs.shared.SharedRows.new.Goals as goal

pub invariant_of-result : goal.invariant_of-result
invariant_of-result c = no_calls (record { needs = c.loop-rank.rows.items; numbers = c.loop-rank.numbers.items; lists = c.new-2.result.items }) c.loop-rank._rank c.loop-rank.invariant.rows c.loop-rank.invariant.numbers c.new-2.ensures.items (omega (arith, c.loop-rank.auto._rank-end, c.ranges.ranks.fits))
