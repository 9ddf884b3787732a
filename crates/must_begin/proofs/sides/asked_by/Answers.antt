use Rattle.std.proofs.Common.{◌≡◌, Option, sym, subst, ◌∙◌}
use Rattle.must_call.specs.declared.field.Field.TheVariants.{Buffer}
use Rattle.must_rules.specs.Known.{facts_of, clear_behind}
use Rattle.must_rules.specs.Types.{type_of, sound_type}
use Rattle.must_rules.specs.Breaches.{part_in}
use Rattle.must_rules.specs.UsableParts.{is_usable}
use Rattle.must_items.specs.TypedLaws.{stands_types}
use Rattle.must_begin.specs.declared.named.Named.{Named}
use Rattle.must_begin.specs.Telling.{IsOn}
use Rattle.must_begin.proofs.Shapes.{transfer}
use Rattle.must_begin.proofs.Messages.{termless, nowhere, unusable, asked_is, has_usable}
use Rattle.must_begin.proofs.Beginning.{asked_none}
use Rattle.must_begin.proofs.sides.asked_by.Goals as goal

pub returns-in_default : goal.returns-in_default
returns-in_default c = λ r calls call s terms action parts stands on. asked_none _ (termless r calls call s (sym terms ∙ c.in_default.is))

pub returns-then-not-has_part : goal.returns-then-not-has_part
returns-then-not-has_part c = λ r calls call s terms action parts stands on.
    let t = c.in-Some.terms in
    let is = transfer call.body s t (sym terms ∙ c.in-Some.is) in
    let usable : c.has_part.result ≡ is_usable (facts_of r calls) (sound_type (clear_behind r) calls) call.body (part_in call.body (Buffer s)) =
    c.has_part.ensures ∙ has_usable (facts_of r calls) (sound_type (clear_behind r) calls) call.body s c.args.parts t.part is.part_is parts in
    asked_none _ (unusable r calls call s t is (sym usable ∙ c.if-not-has_part.true))

pub returns-in_default-on : goal.returns-in_default-on
returns-in_default-on c = λ r calls call s terms action parts stands on.
    asked_none _ (nowhere r calls call s (subst (λ (o : Option Named). IsOn r calls call.body o) c.in_default-on.is on))

pub returns : goal.returns
returns c = λ r calls call s terms action parts stands on.
    let t = c.in-Some.terms in
    let is = transfer call.body s t (sym terms ∙ c.in-Some.is) in
    let usable : c.has_part.result ≡ is_usable (facts_of r calls) (sound_type (clear_behind r) calls) call.body (part_in call.body (Buffer s)) =
    c.has_part.ensures ∙ has_usable (facts_of r calls) (sound_type (clear_behind r) calls) call.body s c.args.parts t.part is.part_is parts in
    let named = subst (λ (o : Option Named). IsOn r calls call.body o) c.in-Some-on.is on in
    asked_is r calls call s t is _ _ (sym usable ∙ c.if-not-has_part.false) named.0 named.1 c.args.deed _ action
    (c.in_ok-asked.ensures (type_of (clear_behind r) calls) (stands_types (clear_behind r) c.args.types.now calls stands))
