use Rattle.std.proofs.Common.{map, not, ap, ◌∙◌}
use Rattle.must_coll.specs.Waves.{has_gap}
use Rattle.must_coll.specs.Fronts.{fronts}
use Rattle.must_coll.proofs.Counting.{counted_none}
use Rattle.must_coll.proofs.lanes.Lanes.is_whole.Goals as goal

pub returns : goal.returns
returns c = counted_none (fronts (map (λ q. q.items) c.self.inside.lanes.items)) c.self.inside.empty c.self.invariant ∙ ap (λ l. not (has_gap (fronts l))) c.self.view_is
