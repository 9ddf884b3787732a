use Rattle.std.proofs.Common.{◌≡◌, replicate, []}
use Rattle.must_wait.proofs.shared.SharedRows.new.Given as goal

abbrev pub invariant-loop-rank : goal.invariant-loop-rank
invariant-loop-rank l = record { rows : l.rows.items ≡ replicate l._rank []; numbers : l.numbers.items ≡ replicate l._rank [] }
