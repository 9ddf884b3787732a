use Rattle.std.proofs.Common.{ap, ◌∙◌}
use Rattle.must_rules.specs.Significant.{is_true, first_told, comm_in, root_in, in_place_in, comm_by}
use Rattle.must_rules.specs.Breaches.{sends}
use Rattle.std.specs.Option.{option_map}
use Rattle.must_parts.specs.Scopes.{seats_of}
use Rattle.must_parts.proofs.Rooted.{root_is}
use Rattle.must_parts.proofs.scope.scope_of.Goals as goal

pub returns : goal.returns
returns g c =
    let facts = g.V.View.facts c.args.view.now in
    let comm = c.comm_named.ensures ∙ ap (first_told comm_in) c.requires in
    let seats = c.seats_in-seats.ensures ∙ ap (λ o. option_map seats_of (comm_by facts o)) comm in
    record {
      kind_is = c.kind.ensures;
      in_place_is = c.is_true.ensures ∙ ap is_true (c.in_place_said.ensures ∙ ap (first_told in_place_in) c.requires);
      sends_is = c.sends.ensures ∙ ap sends c.requires;
      seats_are = seats;
      root_is = c.is_root.ensures ∙ root_is facts c.args.body.now c.root_named.result c.seats_in-seats.result (c.root_named.ensures ∙ ap (first_told root_in) c.requires) seats;
    }
