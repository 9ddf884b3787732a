use Rattle.std.proofs.Common.{◌++◌, ◌∷◌, [], ap, ◌∙◌}
use Rattle.std.specs.Prelude.{slice_set}
use Rattle.must_wait.specs.Needs.{Needs, Rows, calls_of}
use Rattle.must_wait.specs.Shared.{Table}
use Rattle.must_node.specs.RunNeeds.{call_needs}
use Rattle.must_node.proofs.SharedLists.{ways_are}
use Rattle.must_node.proofs.sharing.Sharing.push_call.Goals as goal

pub returns-clause-needs : goal.returns-clause-needs
returns-clause-needs c = λ facts s shared.
    let t = c.ways_of.new.self.rows in
    let rank = c.args.rank in
    let wanted = call_needs c.args.strict facts c.args.ways.now in
    ap (λ (u : Table). u.needs) c.in_ok-push.ensures.ok
    ∙ ap (λ (v : Needs). slice_set t.needs rank (calls_of t.needs rank ++ v ∷ [])) (ways_are t.lists c.in_ok-made.made.items wanted (c.in_ok-made.ensures.ways facts s shared))
    ∙ ap (λ (r : Rows). slice_set r rank (calls_of r rank ++ wanted ∷ [])) c.in_ok-made.ensures.grows.needs
