use Rattle.std.proofs.Common.{◌<◌}
use Rattle.std.specs.Prelude.{All}
use Rattle.must_base.specs.declared.trace.MemFile.{MemFile}
use Rattle.must_cli.proofs.tests.add_ranks.Given as goal

abbrev pub invariant-loop-rank : goal.invariant-loop-rank
invariant-loop-rank l = All (λ (f : MemFile). 0 < f.chunk) l.files.items
