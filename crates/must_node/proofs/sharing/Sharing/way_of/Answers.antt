use Rattle.std.proofs.Common.{Some, List, sym, ap, ◌∙◌}
use Rattle.must_call.specs.declared.place.Place.{Place}
use Rattle.must_node.proofs.sharing.Sharing.way_of.Goals as goal

pub returns-in_ok-number-in-Some-clause-way : goal.returns-in_ok-number-in-Some-clause-way
returns-in_ok-number-in-Some-clause-way c = λ facts s shared. c.in_ok-number-in-Some.ensures.list facts s shared ∙ ap (λ (p : List Place). Some p) (sym (c.in-Some.ensures facts c.args.strict s))
