use Rattle.std.proofs.Common.{ap, ◌∙◌}
use Rattle.std.specs.Option.{option_map}
use Rattle.must_call.specs.Arguments.{seen}
use Rattle.must_rules.specs.Significant.{or_else, first_told}
use Rattle.must_args.specs.Settings.{has_sense}
use Rattle.must_args.specs.AskingLaws.{all_there, told_step}
use Rattle.must_items.specs.Moved.{counts_in, type_in, where_significant}
use Rattle.must_items.specs.Seen.{counts_seen}
use Rattle.must_items.proofs.Told.{map_or}
use Rattle.must_items.proofs.moved.side_moved.Goals as goal

pub loop-argument-preserved : goal.loop-argument-preserved
loop-argument-preserved c =
    let xs = c.args.arguments.now in
    let i = c.loop-argument.argument-index in
    let s = has_sense c.args.setting.now in
    record {
      moved = told_step seen xs i c.argument-item.result c.loop-argument-test.true c.argument-item.is (where_significant s (counts_in c.args.side)) (option_map counts_seen c.loop-argument.moved) (option_map counts_seen c.first_of-moved.result) c.loop-argument.invariant.moved
          (ap (option_map counts_seen) c.first_of-moved.ensures ∙ map_or counts_seen c.loop-argument.moved c.moved_here.result ∙ ap (or_else (option_map counts_seen c.loop-argument.moved)) c.moved_here.ensures);
      dtype = told_step seen xs i c.argument-item.result c.loop-argument-test.true c.argument-item.is (where_significant s (type_in c.args.side)) c.loop-argument.dtype c.first_of-dtype.result c.loop-argument.invariant.dtype
          (c.first_of-dtype.ensures ∙ ap (or_else c.loop-argument.dtype) c.type_here.ensures);
    }

pub returns-clause-moved : goal.returns-clause-moved
returns-clause-moved c = c.loop-argument.invariant.moved ∙ ap (first_told (where_significant (has_sense c.args.setting.now) (counts_in c.args.side))) (all_there seen c.args.arguments.now c.loop-argument.argument-index c.loop-argument-test.false)

pub returns-clause-dtype : goal.returns-clause-dtype
returns-clause-dtype c = c.loop-argument.invariant.dtype ∙ ap (first_told (where_significant (has_sense c.args.setting.now) (type_in c.args.side))) (all_there seen c.args.arguments.now c.loop-argument.argument-index c.loop-argument-test.false)
