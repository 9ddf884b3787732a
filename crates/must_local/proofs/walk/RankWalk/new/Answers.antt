use Rattle.std.specs.Prelude.{FitsSigned}
use Rattle.std.proofs.Common.{rules, refl, ◌∙◌}
use Rattle.std.proofs.lemmas.Int.{to_z-of_z}
use mir.Syntax.{w32}
use Rattle.must_local.proofs.Walked.{walks_first}
use Rattle.must_local.proofs.walk.RankWalk.new.Goals as goal

pub returns-clause-walks : goal.returns-clause-walks
returns-clause-walks c = λ version. walks_first version _ refl refl refl refl (c.in_ok-handles.ensures.stands _ c.in_ok-handles.ensures.told.0 refl c.in_ok-handles.ensures.told.1) (c.in_ok-buffers.ensures _) (c.in_ok-traffic.ensures _ c.in_ok-handles.ensures.told.0 c.in_ok-handles.ensures.told.1)

pub returns-clause-rank : goal.returns-clause-rank
returns-clause-rank c =
    let fits : FitsSigned w32 c.args.tag_ub = search rules in
    let tag = c.in_ok-handles.ensures.told.1 ∙ to_z-of_z w32 c.args.tag_ub fits in
    λ i. record { rank = c.in_ok-handles.ensures.told.0 i; size = c.args.size; tag_ub = tag i }
