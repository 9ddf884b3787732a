use Rattle.std.proofs.Common.{sym, ap, ◌∙◌}
use Rattle.must_call.specs.declared.body.Body.{Body}
use Rattle.must_rules.specs.Communicators.{comm_named}
use Rattle.must_local.proofs.Nameless.{no_frame_comm, no_finish_comm, no_derive_comm}
use Rattle.must_local.proofs.derived.comm_named.Goals as goal

pub returns-in-Point : goal.returns-in-Point
returns-in-Point c = c.point_comm.ensures ∙ sym (ap comm_named c.in-Point.is)
