use Rattle.std.proofs.Common.{Option, Some, ap, sym, ◌∙◌}
use Rattle.std.specs.Option.{option_map}
use Rattle.must_call.specs.declared.argument.Given.TheVariants as given
use Rattle.must_call.specs.Arguments.{output_seen}
use Rattle.must_hold.proofs.Recording.{own_told}
use Rattle.must_hold.proofs.take.own_status.Goals as goal

pub returns-in-Some-Status : goal.returns-in-Some-Status
returns-in-Some-Status c =
    own_told c.args.call.now (option_map output_seen (Some (given.Status c.in-Some-Status.status))) c.if-not-call.false
    (ap (option_map output_seen) (sym (c.in-Some-Status.is ∙ ap Some c.in-Some-Status.field-0-is)) ∙ c.given.ensures)

pub returns-in-Some-MaybeStatus : goal.returns-in-Some-MaybeStatus
returns-in-Some-MaybeStatus c =
    own_told c.args.call.now (option_map output_seen (Some (given.MaybeStatus c.in-Some-MaybeStatus.status))) c.if-not-call.false
    (ap (option_map output_seen) (sym (c.in-Some-MaybeStatus.is ∙ ap Some c.in-Some-MaybeStatus.field-0-is)) ∙ c.given.ensures)
