use Rattle.std.proofs.Common.{ap, ◌∙◌}
use Rattle.must_call.specs.declared.field.Side.TheVariants as side
use Rattle.must_rules.specs.Operations.{Sends, send_mode}
use Rattle.must_begin.proofs.sides.sent.Goals as goal

pub returns : goal.returns
returns c = λ r calls parts stands on.
    c.in_ok-asked.ensures r calls c.args.call.now side.Send c.sent_terms-terms.ensures (ap Sends (c.mode_of.ensures ∙ ap send_mode c.kind.ensures)) parts stands on
