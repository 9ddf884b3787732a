use Rattle.std.proofs.Common.{◌≡◌, take}
use Rattle.std.specs.Prelude.{sum_by}
use Rattle.must_type.specs.Constructs.{natural}
use Rattle.must_parts.proofs.blocks.sum_of.Given as goal

abbrev pub invariant-loop-count : goal.invariant-loop-count
invariant-loop-count l = l.sum ≡ sum_by natural (take l.count-index l.counts)
