use Rattle.std.proofs.Common.{vec_len}
use Rattle.must_parts.proofs.kept.+take_numbered.Given as goal

abbrev pub decreases-take_numbered : goal.decreases-take_numbered
decreases-take_numbered l = vec_len l.parts
