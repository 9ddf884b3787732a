use Rattle.std.proofs.Common.{ap, sym, ◌∙◌}
use Rattle.must_call.specs.Arguments.{seen}
use Rattle.must_args.specs.Settings.{has_sense}
use Rattle.must_args.specs.AskingLaws.{all_there}
use Rattle.must_messages.specs.CallNeeds.{has_sound_types}
use Rattle.must_begin.proofs.Waves.{sound_more, sound_not}
use Rattle.must_begin.proofs.wave.has_sound_types.Goals as goal

pub loop-argument-preserved : goal.loop-argument-preserved
loop-argument-preserved c = λ trees has.
    sound_more (has_sense c.args.setting.now) trees c.args.arguments.now c.loop-argument.argument-index c.argument-item.result c.loop-argument-test.true c.argument-item.is (c.loop-argument.invariant trees has)
    (sym (c.is_sound_here.ensures trees has) ∙ c.if-not-is_sound_here.false)

pub returns-then-not-is_sound_here : goal.returns-then-not-is_sound_here
returns-then-not-is_sound_here c = λ trees has.
    sym (sound_not (has_sense c.args.setting.now) trees c.args.arguments.now c.loop-argument.argument-index c.argument-item.result c.loop-argument-test.true c.argument-item.is (sym (c.is_sound_here.ensures trees has) ∙ c.if-not-is_sound_here.true))

pub returns : goal.returns
returns c = λ trees has.
    sym (c.loop-argument.invariant trees has) ∙ ap (has_sound_types (has_sense c.args.setting.now) trees) (all_there seen c.args.arguments.now c.loop-argument.argument-index c.loop-argument-test.false)
