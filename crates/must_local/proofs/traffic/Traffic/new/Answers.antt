use Rattle.std.specs.Prelude.{FitsSigned}
use Rattle.std.proofs.Common.{rules, sym, ◌∙◌}
use Rattle.std.proofs.lemmas.Int.{to_z-of_z}
use mir.Syntax.{w32}
use Rattle.must_local.proofs.traffic.Traffic.new.Goals as goal

pub returns : goal.returns
returns c =
    let fits : FitsSigned w32 c.args.tag_ub = search rules in
    λ r rank tag. record { requests = c.new-requests.ensures r; messages = c.in_ok-messages.ensures r rank (tag ∙ sym (to_z-of_z w32 c.args.tag_ub fits)); needs = c.in_ok-needs.ensures r }
