use Rattle.std.proofs.Common.{Some, sym, ap, ◌∙◌}
use Rattle.std.specs.Option.{option_map}
use Rattle.must_local.proofs.Facing.{members_none, members_some}
use Rattle.must_local.proofs.handles.Handles.members.Goals as goal

pub returns-in_err-position-clause-members : goal.returns-in_err-position-clause-members
returns-in_err-position-clause-members c =
    let comm = c.in_ok-comm.field-0.now in
    let usable = sym c.comm.ensures ∙ ap (option_map (λ b. b.now)) c.in_ok-comm.was in
    let ranks = c.members-members.ensures ∙ ap (λ n. n.members) c.name.ensures.name in
    rw c.from_residual-in_err-position.ensures (members_none c.args.self.now c.args.number comm usable (rw ranks at (sym c.position.ensures ∙ c.in_err-position.was)))

pub returns-clause-members : goal.returns-clause-members
returns-clause-members c =
    let comm = c.in_ok-comm.field-0.now in
    let usable = sym c.comm.ensures ∙ ap (option_map (λ b. b.now)) c.in_ok-comm.was in
    let ranks = c.members-members.ensures ∙ ap (λ n. n.members) c.name.ensures.name in
    ap Some ranks ∙ members_some c.args.self.now c.args.number comm c.in_ok-position.field-0 usable (rw ranks at (sym c.position.ensures ∙ c.in_ok-position.was))
