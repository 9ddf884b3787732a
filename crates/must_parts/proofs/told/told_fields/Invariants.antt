use Rattle.std.proofs.Common.{◌≡◌, List, map, take}
use Rattle.std.specs.Prelude.{filter_map}
use Rattle.must_call.specs.declared.body.Body.{Body}
use Rattle.must_call.specs.declared.call.Call.{Call}
use Rattle.must_call.specs.Arguments.{seen, all_seen}
use Rattle.must_call.specs.Bodies.{inputs_of}
use Rattle.must_rules.specs.Rank.{Rank}
use Rattle.must_rules.specs.Known.{facts_of, clear_behind}
use Rattle.must_rules.specs.Types.{type_of, sound_type}
use Rattle.must_rules.specs.UsableParts.{usable_parts}
use Rattle.must_rules.specs.Parts.{part_told}
use Rattle.must_derived.specs.Standing.{Stands}
use Rattle.must_parts.specs.Scopes.{IsScope}
use Rattle.must_parts.specs.Telling.{AreTold}
use Rattle.must_parts.proofs.told.told_fields.Given as goal

abbrev pub invariant-loop-argument : goal.invariant-loop-argument
invariant-loop-argument l = (r : Rank) (calls : List Call) (b : Body) → IsScope (facts_of r calls) b l.scope → all_seen l.arguments ≡ inputs_of b → l.usable ≡ usable_parts (facts_of r calls) (sound_type (clear_behind r) calls) b
    → Stands (clear_behind r) l.types calls → AreTold l.types.table.slots l.parts.items (filter_map (λ t. part_told (facts_of r calls) (type_of (clear_behind r) calls) b t.0 t.1) (map seen (take l.argument-index l.arguments)))
