use Rattle.std.proofs.Common.{sym, ap, ◌∙◌}
use Rattle.std.specs.Option.{option_map}
use Rattle.must_local.proofs.Waving.{comm_absent, comm_present}
use Rattle.must_local.proofs.handles.Handles.communicator.Goals as goal

pub returns-in_err-position-clause-there : goal.returns-in_err-position-clause-there
returns-in_err-position-clause-there c =
    let comm = c.in_ok-comm.comm.now in
    let usable = sym c.comm.ensures ∙ ap (option_map (λ b. b.now)) c.in_ok-comm.was in
    let ranks = c.members.ensures ∙ ap (λ n. n.members) c.name-name.ensures.name in
    rw c.from_residual-in_err-position.ensures (sym (comm_absent c.args.self.now c.args.number comm usable (rw ranks at (sym c.position.ensures ∙ c.in_err-position.was))))

pub returns-clause-there : goal.returns-clause-there
returns-clause-there c =
    let comm = c.in_ok-comm.comm.now in
    let usable = sym c.comm.ensures ∙ ap (option_map (λ b. b.now)) c.in_ok-comm.was in
    let ranks = c.members.ensures ∙ ap (λ n. n.members) c.name-name.ensures.name in
    sym (comm_present c.args.self.now c.args.number comm c.in_ok-position.field-0 usable (rw ranks at (sym c.position.ensures ∙ c.in_ok-position.was)))
