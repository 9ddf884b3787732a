use Rattle.std.proofs.Common.{sym, ap, ◌∙◌}
use Rattle.std.specs.Option.{option_map}
use Rattle.must_local.proofs.Facing.{position_told}
use Rattle.must_local.proofs.handles.HandlesView.own_rank.Goals as goal

pub returns : goal.returns
returns c =
    let comm = c.in_ok-comm.comm.now in
    let usable = sym c.comm.ensures ∙ ap (option_map (λ b. b.now)) c.in_ok-comm.was in
    let ranks = c.members.ensures ∙ ap (λ n. n.members) c.name.ensures.name in
    (rw ranks at c.position.ensures) ∙ position_told c.args.self.now c.args.number comm usable
