use Rattle.std.proofs.Common.{◌≡◌, Bool, true, ◌&&◌, sym, ap, subst, ◌∙◌}
use Rattle.must_call.specs.declared.field.Field.TheVariants.{Buffer}
use Rattle.must_call.specs.declared.argument.Argument.{Argument}
use Rattle.must_call.specs.Arguments.{seen, all_seen}
use Rattle.must_rules.specs.UsableParts.{is_usable_side}
use Rattle.must_args.specs.Settings.{has_sense}
use Rattle.must_args.proofs.usable.is_usable_field.Goals as goal

pub returns-then-has_sense : goal.returns-then-has_sense
returns-then-has_sense g c =
    let sense : has_sense c.args.setting.now (Buffer c.in-Buffer.side) ≡ true =
    subst (λ (a : Argument). has_sense c.args.setting.now (seen a).0 ≡ true) c.in-Buffer.is (sym c.has_sense.ensures ∙ c.if-has_sense.true) in
    rw c.in-Buffer.is (c.is_usable_side.ensures ∙ sym (ap (λ (b : Bool). b && is_usable_side (g.V.View.sound c.args.view.now) (all_seen c.args.arguments.now) c.in-Buffer.side) sense))
