use Rattle.std.proofs.Common.{Option, subst, ap}
use Rattle.std.specs.Option.{option_map}
use Rattle.must_parts.specs.declared.placed.Placed.{Placed}
use Rattle.must_parts.specs.Placing.{IsPlacedOf}
use Rattle.must_parts.specs.Starting.{part_for}
use Rattle.must_parts.proofs.Starting.{one_weight, no_weight}
use Rattle.must_parts.proofs.start.weight_for.Goals as goal

pub returns-in-Some : goal.returns-in-Some
returns-in-Some c = λ part call kept. one_weight call part c.args.request c.in-Some.part.now (subst (λ (o : Option Placed). IsPlacedOf o (part_for part c.args.request)) (ap (option_map (λ p. p.now)) c.in-Some.is) (c.part_for.ensures part kept))

pub returns-in-None : goal.returns-in-None
returns-in-None c = λ part call kept. no_weight call part c.args.request (subst (λ (o : Option Placed). IsPlacedOf o (part_for part c.args.request)) (ap (option_map (λ p. p.now)) c.in-None.is) (c.part_for.ensures part kept))
