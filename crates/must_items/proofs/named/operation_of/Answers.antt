use Rattle.std.proofs.Common.{ap, ◌∙◌}
use Rattle.must_call.specs.Arguments.{seen}
use Rattle.must_rules.specs.Significant.{or_else, first_told}
use Rattle.must_args.specs.AskingLaws.{all_there, told_step}
use Rattle.must_items.specs.CollectiveItems.{operation_in}
use Rattle.must_items.proofs.named.operation_of.Goals as goal

pub loop-argument-preserved : goal.loop-argument-preserved
loop-argument-preserved c =
    told_step seen c.args.arguments.now c.loop-argument.argument-index c.argument-item.result c.loop-argument-test.true c.argument-item.is operation_in c.loop-argument.operation c.first_of-operation.result c.loop-argument.invariant (c.first_of-operation.ensures ∙ ap (or_else c.loop-argument.operation) c.operation_told.ensures)

pub returns : goal.returns
returns c = c.loop-argument.invariant ∙ ap (first_told operation_in) (all_there seen c.args.arguments.now c.loop-argument.argument-index c.loop-argument-test.false)
