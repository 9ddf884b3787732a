use Rattle.std.proofs.Common.{ℕ, List, take}
use Rattle.std.specs.Prelude.{flat_map, sum_by}
use Rattle.must_type.specs.Maps.{Entry, extent, block}
use Rattle.must_type.specs.Weights.{weigh}
use Rattle.must_span.specs.Steps.{AreOf, IsLaid, element}
use Rattle.must_span.proofs.forms.all_blocks.Given as goal

abbrev pub invariant-loop-item : goal.invariant-loop-item
invariant-loop-item g l = (T : List Entry) (w : ℕ) → AreOf T w l.fn.old → IsLaid l.made.items (flat_map (λ it. block (g.P.Place.blocklength it l.fn.common) T (g.P.Place.at it (extent T))) (take l.item-index l.items)) (sum_by (λ it. weigh (g.P.Place.blocklength it l.fn.common) (element T w)) (take l.item-index l.items))
