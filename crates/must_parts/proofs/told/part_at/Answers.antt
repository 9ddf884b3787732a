use Rattle.std.proofs.Common.{◌≡◌, Bool, ap, ◌∙◌, arith, to_z, of_z}
use Rattle.std.specs.Prelude.{pos, if◌then◌else◌}
use Rattle.std.specs.Int.{w128}
use Rattle.std.proofs.lemmas.Int.{ints}
use Rattle.must_call.specs.Arguments.{all_seen}
use Rattle.must_call.specs.declared.kind.Kind.{Kind}
use Rattle.must_call.specs.Kinds.{kind_of}
use Rattle.must_type.specs.Maps.{extent}
use Rattle.must_type.specs.Tree.{type_map}
use Rattle.must_type.specs.Facts.{bounds_of}
use Rattle.must_type.specs.declared.bounds.Bounds.{Bounds}
use Rattle.must_rules.specs.Breaches.{part_of}
use Rattle.must_rules.specs.Parts.{Layout, access_at, is_for_each, blocks_at}
use Rattle.must_parts.specs.declared.scope.Seats.{Seats}
use Rattle.must_parts.proofs.Usable.{number_is, same_layout}
use Rattle.must_parts.proofs.told.part_at.Goals as goal

pub returns-clause-told : goal.returns-clause-told
unfolding bounds_of
returns-clause-told c = λ facts b comm held t scope args seats there alike.
    let side = c.args.side in
    let read : to_z w128 (of_z w128 c.bounds.result.extent) ≡ c.bounds.result.extent = omega (arith, ints) in
    let ext : to_z w128 (of_z w128 c.bounds.result.extent) ≡ extent (type_map t) = read ∙ ap (λ (x : Bounds). x.extent) (c.bounds.ensures held there) ∙ ap extent alike.map_is in
    let each = c.is_for_each.ensures ∙ ap (λ (k : Kind). is_for_each k c.args.scope.in_place side) scope.kind_is ∙ ap (λ (p : Bool). is_for_each (kind_of b) p side) scope.in_place_is in
    let members = ap (λ (q : Seats). q.members) seats in
    let position = ap (λ (q : Seats). q.position) seats in
    let laid = same_layout (pos c.args.address) _ _ _ _ _ _ _ _ ext members position each in
    record {
      number_is = c.number_of.ensures ∙ ap (λ (m : Bool). if m then 1 else 0) c.is_second.ensures ∙ number_is c.args.scope.sends side ∙ ap (λ (q : Bool). part_of q side) scope.sends_is;
      access_is = c.access_of.ensures ∙ ap (λ (q : Bool). access_at q side) scope.root_is;
      blocks_are = c.in_ok-blocks.ensures ∙ ap (λ (l : Layout). blocks_at l side (all_seen c.args.arguments.now)) laid ∙ ap (blocks_at _ side) args;
      held = held;
      held_is = there;
      alike = alike;
    }
