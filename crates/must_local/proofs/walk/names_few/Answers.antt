use Rattle.std.proofs.lemmas.Bool.{ltb-true}
use Rattle.must_local.proofs.Few.{few_named}
use Rattle.must_local.proofs.walk.names_few.Goals as goal

pub returns-in_default : goal.returns-in_default
returns-in_default c = λ e. ltb-true _ _ (few_named c.args.call.now.body c.in_default.not-Finish c.in_default.not-Derive c.in_default.not-Persist)
