use Rattle.std.proofs.Common.{List, map, subst}
use Rattle.std.specs.Prelude.{filter_map}
use Rattle.std.proofs.lemmas.List.{take_all}
use Rattle.must_call.specs.declared.argument.Argument.{Argument}
use Rattle.must_call.specs.Arguments.{seen}
use Rattle.must_rules.specs.Known.{facts_of, clear_behind}
use Rattle.must_rules.specs.Types.{type_of}
use Rattle.must_rules.specs.Parts.{part_told}
use Rattle.must_parts.specs.Telling.{AreTold}
use Rattle.must_parts.proofs.Fields.{told_step}
use Rattle.must_parts.proofs.told.told_fields.Goals as goal

pub loop-argument-preserved : goal.loop-argument-preserved
loop-argument-preserved c = λ r calls b scope args usable stands.
    told_step c.args.types.now.table.slots (λ t. part_told (facts_of r calls) (type_of (clear_behind r) calls) b t.0 t.1) c.args.arguments.now c.loop-argument.argument-index c.argument-item.result _ _ _ c.loop-argument-test.true c.argument-item.is
    (c.loop-argument.invariant r calls b scope args usable stands) (c.in_ok-told.ensures r calls b scope args usable stands) c.in_ok-push_told.ensures

pub returns : goal.returns
returns c = λ r calls b scope args usable stands.
    subst (λ (l : List Argument). AreTold c.args.types.now.table.slots c.loop-argument.parts.items (filter_map (λ t. part_told (facts_of r calls) (type_of (clear_behind r) calls) b t.0 t.1) (map seen l))) (take_all c.loop-argument.argument-index c.args.arguments.now c.loop-argument-test.false) (c.loop-argument.invariant r calls b scope args usable stands)
