use Rattle.std.proofs.Common.{true, false, refl, sym, ◌∙◌}
use Rattle.must_rules.specs.Known.{clear_behind}
use Rattle.must_rules.specs.Types.{type_of}
use Rattle.must_items.specs.TypedLaws.{stands_types}
use Rattle.must_begin.proofs.Waves.{waits_is}
use Rattle.must_begin.proofs.Seeing.{clear_seen}
use Rattle.must_begin.proofs.wave.waits_for_wave.Goals as goal

pub returns-then-clear : goal.returns-then-clear
returns-then-clear g c = λ r calls sees.
    waits_is r calls c.args.call.now (g.V.View.facts c.args.view.now) true true c.is_ready.result sees.facts_are (sym c.if-is_collective.true ∙ c.is_collective.ensures)
    (sym c.if-clear.true ∙ clear_seen r calls _ _ _ _ sees c.args.call.now c.args.clear c.requires)
    (c.is_ready.ensures (type_of (clear_behind r) calls) (stands_types (clear_behind r) c.args.types.now calls sees.stands))

pub returns-else-clear : goal.returns-else-clear
returns-else-clear g c = λ r calls sees.
    c.if-clear.false
    ∙ waits_is r calls c.args.call.now (g.V.View.facts c.args.view.now) true false _ sees.facts_are (sym c.if-is_collective.true ∙ c.is_collective.ensures)
    (sym c.if-clear.false ∙ clear_seen r calls _ _ _ _ sees c.args.call.now c.args.clear c.requires) refl

pub returns-else-is_collective : goal.returns-else-is_collective
returns-else-is_collective g c = λ r calls sees.
    c.if-is_collective.false
    ∙ waits_is r calls c.args.call.now (g.V.View.facts c.args.view.now) false c.args.clear _ sees.facts_are (sym c.if-is_collective.false ∙ c.is_collective.ensures)
    (clear_seen r calls _ _ _ _ sees c.args.call.now c.args.clear c.requires) refl
