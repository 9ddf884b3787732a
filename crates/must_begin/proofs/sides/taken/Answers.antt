use Rattle.std.proofs.Common.{refl}
use Rattle.must_call.specs.declared.field.Side.TheVariants as side
use Rattle.must_begin.proofs.sides.taken.Goals as goal

pub returns : goal.returns
returns c = λ r calls parts stands on. c.in_ok-asked.ensures r calls c.args.call.now side.Receive c.taken_terms-terms.ensures refl parts stands on
