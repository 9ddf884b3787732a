use Rattle.std.proofs.Common.{◌≡◌, ◌^◌, min}
use Rattle.must_type.specs.Constructs.{slow_first}
use Rattle.must_type.specs.Weights.{part_weight}
use Rattle.must_type.specs.Facts.{weighed_facts}
use Rattle.must_type.proofs.Parts.{fastest}
use Rattle.must_type.proofs.weight.part.Given as goal

abbrev pub invariant-loop-k : goal.invariant-loop-k
invariant-loop-k l = l.total ≡ min (part_weight (fastest (slow_first l.fn.order l.dims) l.k) (weighed_facts l.fn.old)) (2 ^ 64)
