use Rattle.std.proofs.Common.{◌≡◌, ◌^◌, min, take}
use Rattle.std.specs.List.{sum_by}
use Rattle.must_type.specs.Weights.{weigh}
use Rattle.must_type.specs.Facts.{weighed_facts}
use Rattle.must_type.proofs.weight.all_blocks.Given as goal

abbrev pub invariant-loop-item : goal.invariant-loop-item
invariant-loop-item g l = l.total ≡ min (sum_by (λ it. weigh (g.P.Place.blocklength it l.fn.common) (weighed_facts l.fn.old)) (take l.item-index l.items)) (2 ^ 64)
