use Rattle.std.proofs.Common.{◌≡◌, Option, Some, None, ap, sym, subst, ◌∙◌}
use Rattle.must_call.specs.declared.class.Class.TheVariants.{Datatype}
use Rattle.must_call.specs.declared.field.Field.TheVariants.{Buffer}
use Rattle.must_call.specs.Bodies.{inputs_of}
use Rattle.must_type.specs.declared.construct.TypeNo.{TypeNo}
use Rattle.std.specs.Option.{IsSome}
use Rattle.must_type.specs.Table.{Types, tree_at}
use Rattle.must_parts.specs.Telling.{IsTold}
use Rattle.must_rules.specs.Known.{facts_of, clear_behind}
use Rattle.must_rules.specs.Types.{type_of, sound_type}
use Rattle.must_rules.specs.Lives.{life}
use Rattle.must_rules.specs.Significant.{first_told, comm_of}
use Rattle.must_rules.specs.Breaches.{part_in}
use Rattle.must_rules.specs.UsableParts.{type_in, is_usable}
use Rattle.must_rules.specs.Parts.{type_named, part_at}
use Rattle.must_derived.specs.Standing.{Fits}
use Rattle.must_parts.proofs.Usable.{has, buffer_usable, told_unusable, told_nowhere, told_untyped, told_usable, has_like, no_seats, some_seats}
use Rattle.must_parts.proofs.told.told_buffer.Goals as goal

pub returns-then-not-has_part : goal.returns-then-not-has_part
returns-then-not-has_part c = λ r calls b scope args usable stands.
    let facts = facts_of r calls in
    let types = type_of (clear_behind r) calls in
    let slots = c.args.types.now.table.slots in
    let usable_is : c.has_part.result ≡ is_usable facts (sound_type (clear_behind r) calls) b (part_in b (Buffer c.args.side)) =
    c.has_part.ensures ∙ ap (has c.args.usable) c.is_second.ensures ∙ buffer_usable facts (sound_type (clear_behind r) calls) b c.args.scope.sends c.args.side c.args.usable scope.sends_is usable in
    told_unusable slots facts types b c.args.side c.args.address (sym usable_is ∙ c.if-not-has_part.true)

pub returns-in_default : goal.returns-in_default
returns-in_default c = λ r calls b scope args usable stands.
    let facts = facts_of r calls in
    let types = type_of (clear_behind r) calls in
    let slots = c.args.types.now.table.slots in
    told_nowhere slots facts types b c.args.side c.args.address (no_seats (comm_of facts b) (sym scope.seats_are ∙ c.in_default.is))

pub returns-in_default-type_of : goal.returns-in_default-type_of
returns-in_default-type_of c = λ r calls b scope args usable stands.
    let facts = facts_of r calls in
    let types = type_of (clear_behind r) calls in
    let slots = c.args.types.now.table.slots in
    let named : first_told (type_in c.args.side) (inputs_of b) ≡ None = ap (first_told (type_in c.args.side)) (sym args) ∙ sym c.type_of.ensures ∙ c.in_default-type_of.is in
    told_untyped slots facts types b c.args.side c.args.address (ap (type_named types) named)

pub returns-in_default-type_no : goal.returns-in_default-type_no
returns-in_default-type_no c = λ r calls b scope args usable stands.
    let facts = facts_of r calls in
    let types = type_of (clear_behind r) calls in
    let slots = c.args.types.now.table.slots in
    let handle = c.in-Some-type_of.handle in
    let named : first_told (type_in c.args.side) (inputs_of b) ≡ Some handle = ap (first_told (type_in c.args.side)) (sym args) ∙ sym c.type_of.ensures ∙ c.in-Some-type_of.is in
    let none = subst (λ (o : Option TypeNo). Fits slots o (life calls Datatype handle) (types handle)) (sym c.type_no.ensures ∙ c.in_default-type_no.is) (stands.fits handle) in
    told_untyped slots facts types b c.args.side c.args.address (ap (type_named types) named ∙ none)

pub returns : goal.returns
returns c = λ r calls b scope args usable stands.
    let facts = facts_of r calls in
    let types = type_of (clear_behind r) calls in
    let slots = c.args.types.now.table.slots in
    let usable_is : c.has_part.result ≡ is_usable facts (sound_type (clear_behind r) calls) b (part_in b (Buffer c.args.side)) =
    c.has_part.ensures ∙ ap (has c.args.usable) c.is_second.ensures ∙ buffer_usable facts (sound_type (clear_behind r) calls) b c.args.scope.sends c.args.side c.args.usable scope.sends_is usable in
    let seated = some_seats (comm_of facts b) c.in-Some.seats (sym scope.seats_are ∙ c.in-Some.is) in
    let handle = c.in-Some-type_of.handle in
    let named : first_told (type_in c.args.side) (inputs_of b) ≡ Some handle = ap (first_told (type_in c.args.side)) (sym args) ∙ sym c.type_of.ensures ∙ c.in-Some-type_of.is in
    let fits = subst (λ (o : Option TypeNo). Fits slots o (life calls Datatype handle) (types handle)) (sym c.type_no.ensures ∙ c.in-Some-type_no.is) (stands.fits handle) in
    let like = has_like slots c.in-Some-type_no.dtype (life calls Datatype handle) (types handle) fits (subst (λ (tb : Types). IsSome (tree_at tb.slots c.in-Some-type_no.dtype.number)) c.table.ensures c.in_ok-told.ensures.live) in
    let there = subst (λ (tb : Types). tree_at tb.slots c.in-Some-type_no.dtype.number ≡ Some like.held) (sym c.table.ensures) like.held_is in
    told_usable slots facts types b c.args.side c.args.address _ seated.comm like.stands_for (sym usable_is ∙ c.if-not-has_part.false) seated.is (ap (type_named types) named ∙ like.stands_is)
    (subst (λ (tb : Types). IsTold tb.slots c.in_ok-told.told (part_at facts b c.args.side c.args.address seated.comm like.stands_for)) c.table.ensures
    (c.in_ok-told.ensures.told facts b seated.comm like.held like.stands_for scope args seated.seats_are there like.alike))
