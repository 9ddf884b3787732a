use Rattle.std.proofs.Common.{ap, ◌∙◌, ◌&&◌}
use Rattle.must_call.specs.Arguments.{seen}
use Rattle.must_args.specs.Settings.{has_sense}
use Rattle.must_args.specs.AskingLaws.{all_there}
use Rattle.must_items.specs.CollectiveItems.{all_sound}
use Rattle.must_items.proofs.Told.{sound_step}
use Rattle.must_items.proofs.named.all_sound.Goals as goal

pub loop-argument-preserved : goal.loop-argument-preserved
loop-argument-preserved g c = λ trees has.
    sound_step seen c.args.arguments.now c.loop-argument.argument-index c.argument-item.result c.loop-argument-test.true c.argument-item.is (g.V.View.facts c.args.view.now) trees (has_sense c.args.setting.now) c.loop-argument.sound c.both-sound.result
    (c.loop-argument.invariant trees has) (c.both-sound.ensures ∙ ap (λ b. c.loop-argument.sound && b) (c.is_sound_here.ensures trees has))

pub returns : goal.returns
returns g c = λ trees has. c.loop-argument.invariant trees has ∙ ap (all_sound (g.V.View.facts c.args.view.now) trees (has_sense c.args.setting.now)) (all_there seen c.args.arguments.now c.loop-argument.argument-index c.loop-argument-test.false)
