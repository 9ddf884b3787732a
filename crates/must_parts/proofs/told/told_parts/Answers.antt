use Rattle.std.proofs.Common.{◌≡◌, ℕ, Bool, List, [], sym, ap, subst, ◌∙◌}
use Rattle.std.specs.Prelude.{filter_map}
use Rattle.must_call.specs.Arguments.{all_seen}
use Rattle.must_call.specs.Bodies.{inputs_of}
use Rattle.must_call.specs.Values.{Typed}
use Rattle.must_rules.specs.Facts.{Facts}
use Rattle.must_rules.specs.Known.{facts_of, clear_behind}
use Rattle.must_rules.specs.Types.{type_of, sound_type}
use Rattle.must_rules.specs.UsableParts.{usable_parts}
use Rattle.must_rules.specs.Parts.{parts_of, part_told}
use Rattle.must_rules.specs.PendingOperations.{parts_behind}
use Rattle.must_parts.specs.Scopes.{IsScope}
use Rattle.must_parts.specs.declared.told.Told.{Told}
use Rattle.must_parts.specs.Telling.{AreTold}
use Rattle.must_parts.proofs.Unusable.{no_parts}
use Rattle.must_parts.proofs.told.told_parts.Goals as goal

-- no part is usable
pub returns-then-usable-eq0 : goal.returns-then-usable-eq0
unfolding parts_behind
returns-then-usable-eq0 g c = λ r calls sees.
    let b = c.args.call.now.body in
    let usable : usable_parts (facts_of r calls) (sound_type (clear_behind r) calls) b ≡ 0 =
    sym (c.requires ∙ ap (λ (f : Facts). usable_parts f (g.V.View.sound c.args.view.now) b) sees.facts_are ∙ ap (λ (s : ℕ → Bool). usable_parts (facts_of r calls) s b) sees.sound_are) ∙ c.if-usable-eq0.true in
    subst (λ (told : List Told). AreTold c.args.types.now.table.slots told (parts_of (facts_of r calls) (type_of (clear_behind r) calls) b)) (sym c.new.ensures.items)
    (subst (AreTold c.args.types.now.table.slots []) (sym (no_parts (facts_of r calls) (type_of (clear_behind r) calls) b usable)) tt)

pub returns : goal.returns
unfolding parts_of parts_behind
returns g c = λ r calls sees.
    let b = c.args.call.now.body in
    let scope = subst (λ (f : Facts). IsScope f b c.scope_of-scope.result) sees.facts_are c.scope_of-scope.ensures in
    let usable = c.requires ∙ ap (λ (f : Facts). usable_parts f (g.V.View.sound c.args.view.now) b) sees.facts_are ∙ ap (λ (s : ℕ → Bool). usable_parts (facts_of r calls) s b) sees.sound_are in
    let args : all_seen c.deref-2.result.now ≡ inputs_of b = ap all_seen c.deref-2.ensures.0 ∙ c.inputs-arguments.ensures in
    subst (λ (ts : List Typed). AreTold c.args.types.now.table.slots c.in_ok-parts.parts.items (filter_map (λ t. part_told (facts_of r calls) (type_of (clear_behind r) calls) b t.0 t.1) ts)) args (c.in_ok-parts.ensures r calls b scope args usable sees.stands)
