use Rattle.must_codec.proofs.Standing.{stands_fresh, opened_ok, opened_err}
use Rattle.must_codec.proofs.stream.StreamReader.open.Goals as goal

pub returns-in-Ok-clause-given : goal.returns-in-Ok-clause-given
returns-in-Ok-clause-given g c = λ h taken rest is stands.
    let fresh = stands_fresh c.args.self.now taken h c.requires stands in
    rw c.in-Ok.ensures.empty (opened_ok c.self.inside.expect c.in-Ok.header c.self.inside.last_at taken rest h _ fresh.0 fresh.1 (c.in-Ok.ensures.header rest is))

pub returns-in-Err-clause-given : goal.returns-in-Err-clause-given
returns-in-Err-clause-given g c = λ h taken rest is stands.
    let fresh = stands_fresh c.args.self.now taken h c.requires stands in
    opened_err c.self.inside.expect c.take_header.new.window c.self.inside.last_at taken rest h _ c.in-Err.fault fresh.0 fresh.1 (c.in-Err.ensures.header rest is)
