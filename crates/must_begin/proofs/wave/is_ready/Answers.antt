use Rattle.std.proofs.Common.{true, sym, ap, ◌∙◌}
use Rattle.must_call.specs.Arguments.{all_seen}
use Rattle.must_begin.proofs.Waves.{ready_is}
use Rattle.must_begin.proofs.wave.is_ready.Goals as goal

pub returns-then-is_some : goal.returns-then-is_some
returns-then-is_some g c = λ trees has.
    ready_is (g.V.View.facts c.args.view.now) trees c.args.body.now c.setting_of-setting.result (all_seen c.deref-then-is_some.result.now) true c.has_sound_types.result c.setting_of-setting.ensures
    (ap all_seen c.deref-then-is_some.ensures.0 ∙ c.inputs-arguments.ensures) (sym c.if-is_some.true ∙ c.is_some.ensures) (c.has_sound_types.ensures trees has)
