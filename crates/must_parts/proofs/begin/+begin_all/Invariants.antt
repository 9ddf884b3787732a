use Rattle.std.proofs.Common.{vec_len}
use Rattle.must_parts.proofs.begin.+begin_all.Given as goal

abbrev pub decreases-begin_all : goal.decreases-begin_all
decreases-begin_all l = vec_len l.parts
