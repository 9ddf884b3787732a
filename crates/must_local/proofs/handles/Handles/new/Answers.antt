use Rattle.must_rules.specs.Known.{clear_behind}
use Rattle.std.specs.Prelude.{FitsSigned}
use Rattle.std.proofs.Common.{rules, sym, ap, ◌∙◌}
use Rattle.must_rules.specs.Limits.{most_weight}
use Rattle.std.proofs.lemmas.Int.{to_z-of_z}
use mir.Syntax.{w32}
use Rattle.must_local.specs.Bumps.{first_objects}
use Rattle.must_local.proofs.Beginning.{handles_first}
use Rattle.must_local.proofs.handles.Handles.new.Goals as goal

pub returns-clause-stands : goal.returns-clause-stands
returns-clause-stands c =
    let fits : FitsSigned w32 c.args.tag_ub = search rules in
    λ r rank size tag.
    handles_first r _ (sym rank) (to_z-of_z w32 c.args.tag_ub fits ∙ sym tag) (c.in_ok-lives.ensures (clear_behind r)) (c.in_ok-types.ensures.stands (clear_behind r)) (c.in_ok-types.ensures.limit ∙ c.most_weight.ensures ∙ ap most_weight (sym size)) (c.in_ok-objects.ensures ∙ (λ i. first_objects (sym rank i) (sym size i)))
