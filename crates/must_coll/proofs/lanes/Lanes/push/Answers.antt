use Rattle.std.proofs.Common.{sym, ap, ◌∙◌}
use Rattle.must_coll.specs.Waves.{gap_count}
use Rattle.must_coll.specs.Fronts.{fronts}
use Rattle.must_coll.proofs.lanes.Lanes.push.Goals as goal

pub invariant_of-self : goal.invariant_of-self
invariant_of-self c = c.self.invariant ∙ ap (λ l. gap_count (fronts l)) (sym c.in_err-self-inside.ensures.err)
