use Rattle.std.proofs.Common.{ap, ◌∙◌}
use Rattle.must_call.specs.Arguments.{seen}
use Rattle.must_rules.specs.Significant.{or_else, first_told}
use Rattle.must_rules.specs.UsableParts.{type_in}
use Rattle.must_args.specs.AskingLaws.{all_there}
use Rattle.must_args.specs.AskingLaws.{told_step}
use Rattle.must_args.proofs.usable.type_of.Goals as goal

pub loop-argument-preserved : goal.loop-argument-preserved
loop-argument-preserved c =
    told_step seen c.args.arguments.now c.loop-argument.argument-index c.argument-item.result c.loop-argument-test.true c.argument-item.is (type_in c.args.side) c.loop-argument.dtype c.first_of-dtype.result c.loop-argument.invariant (c.first_of-dtype.ensures ∙ ap (or_else c.loop-argument.dtype) c.type_told.ensures)

pub returns : goal.returns
returns c = c.loop-argument.invariant ∙ ap (first_told (type_in c.args.side)) (all_there seen c.args.arguments.now c.loop-argument.argument-index c.loop-argument-test.false)
